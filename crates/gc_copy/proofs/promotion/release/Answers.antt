use Rattle.std.proofs.Common.{◌≡◌, ◌+◌, ◌*◌, ◌<◌, ◌≤◌, ℕ, sym, ap, subst, ◌∙◌, arith}
use Rattle.model_core.specs.Domains.{class_count}
use Rattle.heap_rule.specs.declared.view.Spot.{Spot}
use Rattle.heap_rule.specs.Pools.{size_of}
use Rattle.gc_copy.proofs.Preparing.{place_inside}
use Rattle.gc_copy.proofs.Giving.{free_may, gives_none, gives_freed}
use Rattle.gc_copy.proofs.promotion.release.Goals as goal

pub free_store-requires-clause-inside : goal.free_store-requires-clause-inside
free_store-requires-clause-inside c =
    let few : c.args.class < class_count = c.requires.class in
    place_inside c.args.heap.now.config c.args.class c.in-Some.at few (c.requires.gives.placed c.args.class c.in-Some.at few (sym c.prepared.ensures.place ∙ c.in-Some.is))

pub free_store-requires-clause-may : goal.free_store-requires-clause-may
free_store-requires-clause-may c =
    let few : c.args.class < class_count = c.requires.class in
    let here = sym c.prepared.ensures.place ∙ c.in-Some.is in
    let p = c.requires.gives.placed c.args.class c.in-Some.at few here in
    free_may c.args.heap.now.config c.args.class c.in-Some.at c.args.dom.now.view c.args.dom.now.view few c.requires.gives here c.spot_in-spot.result (c.spot_in-spot.ensures p.pool p.slot p.below p.address)

pub free_store-requires-clause-pool : goal.free_store-requires-clause-pool
free_store-requires-clause-pool c =
    let few : c.args.class < class_count = c.requires.class in
    let here = sym c.prepared.ensures.place ∙ c.in-Some.is in
    let p = c.requires.gives.placed c.args.class c.in-Some.at few here in
    let n : ℕ = c.args.heap.now.config.pools in
    subst (λ (m : ℕ). m ≤ n) (sym (ap (λ (s : Spot). s.pool) (c.spot_in-spot.ensures p.pool p.slot p.below p.address))) (let i : p.pool < n = p.inside in omega arith)

pub returns-in_default-clause-gives : goal.returns-in_default-clause-gives
returns-in_default-clause-gives c = gives_none c.args.heap.now.config c.args.class c.args.dom.now.view c.args.dom.now.view c.requires.gives (sym c.prepared.ensures.place ∙ c.in_default.is)

pub returns-clause-gives : goal.returns-clause-gives
returns-clause-gives c = let p = c.requires.gives.placed c.args.class c.in-Some.at c.requires.class (sym c.prepared.ensures.place ∙ c.in-Some.is) in
    gives_freed c.args.heap.now.config c.args.class c.spot_in-spot.result.pool c.spot_in-spot.result.slot c.args.dom.now.view c.args.dom.now.view c.free_store.new.dom.view c.requires.class c.prepared.ensures.wide c.requires.gives c.free_store.ensures.told

pub spot_in-spot-requires-clause-place : goal.spot_in-spot-requires-clause-place
spot_in-spot-requires-clause-place c =
    let p = c.requires.gives.placed c.args.class c.in-Some.at c.requires.class (sym c.prepared.ensures.place ∙ c.in-Some.is) in
    let a : ℕ = c.in-Some.at in
    let q : ℕ = p.pool in
    let b : ℕ = p.slot * size_of c.args.class in
    let e : a ≡ q * 4096 + b + 1 = p.address in
    let g : 1 ≤ a = omega arith in g
