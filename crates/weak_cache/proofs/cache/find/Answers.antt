use Rattle.std.proofs.Common.{◌≡◌, ◌∙◌, ℕ, Bool, List, true, false, refl, sym, subst, arith, rules}
use Rattle.model_core.specs.declared.entry.Entry.{Entry}
use Rattle.model_core.specs.declared.state.Sizes.{Sizes}
use Rattle.weak_laws.proofs.OfMaps.FrontLemmas.{prefix_same, prefix_trans}
use Rattle.weak_maps.proofs.MachineLemmas.{at_machine}
use Rattle.weak_cache.proofs.CoreLemmas.{spares_within}
use Rattle.weak_cache.specs.Passes.{Finding, Tells}
use Rattle.weak_cache.proofs.MachineLemmas.{tells_at}
use Rattle.weak_cache.proofs.MoveLemmas.{search_found, search_low, search_on}
use Rattle.weak_maps.proofs.FrameLemmas.{leaves_same, leaves_trans}
use Rattle.weak_cache.proofs.cache.find.Goals as goal

pub slots-init : goal.slots-init
slots-init g c = record {
  leaves = leaves_same;
  walk = λ first k fs spares many x. (x, (λ r low. refl));
}

pub slots-preserved : goal.slots-preserved
slots-preserved g c =
    let z : Sizes = g.M.Machine.sizes c.args.m.now in
    let d : ℕ = g.M.Machine.domain c.args.m.now in
    let now : List Entry = g.M.Machine.front c.slots.m in
    let n0 : List Entry = g.M.Machine.front c.read_slot-shows.new.m in
    let new : List Entry = g.M.Machine.front c.is_leaf_of.new.m in
    let s0 : g.M.Machine.sizes c.slots.m ≡ z = c.slots.invariant.leaves.stays.sizes in
    let o0 : g.M.Machine.domain c.slots.m ≡ d = c.slots.invariant.leaves.stays.domain in
    let s1 = c.read_slot-shows.ensures.leaves.stays.sizes ∙ s0 in
    let o1 = c.read_slot-shows.ensures.leaves.stays.domain ∙ o0 in
    let p = at_machine z _ d _ now n0 _ _ s0 o0 c.read_slot-shows.ensures.read in
    let t = subst (λ (b : Bool). Tells z d n0 new 10 c.read_slot-shows.result c.args.label.now b) c.if-is_leaf_of.false (tells_at z _ d _ n0 new 10 _ c.args.label.now c.is_leaf_of.result s1 o1 c.is_leaf_of.ensures.told) in
    let later = prefix_trans now n0 new c.read_slot-shows.ensures.leaves.grows c.is_leaf_of.ensures.leaves.grows in
    let less = c.slots-test.true in record {
      leaves = leaves_trans c.slots.invariant.leaves (leaves_trans c.read_slot-shows.ensures.leaves c.is_leaf_of.ensures.leaves);
      walk = λ first k fs spares many x.
          let y = c.slots.invariant.walk first k fs (spares_within z k d first new first now (prefix_same first) later spares) many x in (
            search_on z c.shows_legal.ensures.limits d first k c.args.label.now fs now n0 new _ c.slots.index p spares y.0 (omega (arith, less, many)) c.is_leaf_of.ensures.leaves.grows t,
            (λ r low. search_low z c.shows_legal.ensures.limits d first k c.args.label.now fs now n0 new _ c.slots.index p spares y.0 (omega (arith, less, many)) c.is_leaf_of.ensures.leaves.grows false t r low ∙ y.1 r low),
          );
    }

pub returns-then-is_leaf_of-clause-found : goal.returns-then-is_leaf_of-clause-found
returns-then-is_leaf_of-clause-found g c =
    let z : Sizes = g.M.Machine.sizes c.args.m.now in
    let d : ℕ = g.M.Machine.domain c.args.m.now in
    let now : List Entry = g.M.Machine.front c.slots.m in
    let n0 : List Entry = g.M.Machine.front c.read_slot-shows.new.m in
    let new : List Entry = g.M.Machine.front c.is_leaf_of.new.m in
    let s0 : g.M.Machine.sizes c.slots.m ≡ z = c.slots.invariant.leaves.stays.sizes in
    let o0 : g.M.Machine.domain c.slots.m ≡ d = c.slots.invariant.leaves.stays.domain in
    let s1 = c.read_slot-shows.ensures.leaves.stays.sizes ∙ s0 in
    let o1 = c.read_slot-shows.ensures.leaves.stays.domain ∙ o0 in
    let p = at_machine z _ d _ now n0 _ _ s0 o0 c.read_slot-shows.ensures.read in
    let t = subst (λ (b : Bool). Tells z d n0 new 10 c.read_slot-shows.result c.args.label.now b) c.if-is_leaf_of.true (tells_at z _ d _ n0 new 10 _ c.args.label.now c.is_leaf_of.result s1 o1 c.is_leaf_of.ensures.told) in
    let later = prefix_trans now n0 new c.read_slot-shows.ensures.leaves.grows c.is_leaf_of.ensures.leaves.grows in
    let less = c.slots-test.true in
    λ first k fs spares many x.
    let y = c.slots.invariant.walk first k fs (spares_within z k d first new first now (prefix_same first) later spares) many x in (
      search_found z c.shows_legal.ensures.limits d first k c.args.label.now fs now n0 new _ c.slots.index p spares y.0 (omega (arith, less, many)) c.is_leaf_of.ensures.leaves.grows t,
      (λ r low. search_low z c.shows_legal.ensures.limits d first k c.args.label.now fs now n0 new _ c.slots.index p spares y.0 (omega (arith, less, many)) c.is_leaf_of.ensures.leaves.grows true t r low ∙ y.1 r low),
    )

pub returns-clause-found : goal.returns-clause-found
returns-clause-found g c =
    let z : Sizes = g.M.Machine.sizes c.args.m.now in
    let d : ℕ = g.M.Machine.domain c.args.m.now in
    let now : List Entry = g.M.Machine.front c.slots.m in
    let all : c.slots.index ≡ c.args.size = search rules in
    λ first k fs spares many x.
    let y = c.slots.invariant.walk first k fs spares many x in
    (subst (λ (n : ℕ). Finding z d first now k c.args.label.now fs n) (all ∙ sym many) y.0, y.1)
