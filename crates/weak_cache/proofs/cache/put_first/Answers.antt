use Rattle.std.proofs.Common.{◌≡◌, ◌∙◌, ℕ, List, true, false, refl, sym, subst, arith, rules}
use Rattle.model_core.specs.declared.entry.Entry.{Entry}
use Rattle.model_core.specs.declared.state.Sizes.{Sizes}
use Rattle.weak_laws.proofs.OfMaps.FrontLemmas.{prefix_same}
use Rattle.weak_cache.proofs.CoreLemmas.{spares_within}
use Rattle.weak_cache.specs.Passes.{Moving}
use Rattle.weak_cache.proofs.MachineLemmas.{passes_at}
use Rattle.weak_cache.proofs.MoveLemmas.{all_moved}
use Rattle.weak_maps.proofs.FrameLemmas.{leaves_same, leaves_trans}
use Rattle.weak_cache.proofs.cache.put_first.Goals as goal

pub slots-init : goal.slots-init
slots-init g c = record {
  leaves = leaves_same;
  walk = λ first k b v fs spares many x. (x, (λ r low. refl));
}

pub slots-preserved : goal.slots-preserved
slots-preserved g c =
    let z : Sizes = g.M.Machine.sizes c.args.m.now in
    let d : ℕ = g.M.Machine.domain c.args.m.now in
    let now : List Entry = g.M.Machine.front c.slots.m in
    let new : List Entry = g.M.Machine.front c.pass.new.m in
    let s0 : g.M.Machine.sizes c.slots.m ≡ z = c.slots.invariant.leaves.stays.sizes in
    let o0 : g.M.Machine.domain c.slots.m ≡ d = c.slots.invariant.leaves.stays.domain in
    let step = passes_at z _ d _ now new c.args.label.now c.slots.index true c.pass.result s0 o0 c.if-not-pass.false c.pass.ensures.passed in
    let less = c.slots-test.true in record {
      leaves = leaves_trans c.slots.invariant.leaves c.pass.ensures.leaves;
      walk = λ first k b v fs spares many x.
          let y = c.slots.invariant.walk first k b v fs (spares_within z k d first new first now (prefix_same first) c.pass.ensures.leaves.grows spares) many x in
          let w = step first k b v fs spares (omega (arith, less, many)) y.0 in
          (w.0, (λ r low. w.1 r low ∙ y.1 r low));
    }

pub returns-then-not-pass-clause-moved : goal.returns-then-not-pass-clause-moved
returns-then-not-pass-clause-moved g c =
    let z : Sizes = g.M.Machine.sizes c.args.m.now in
    let d : ℕ = g.M.Machine.domain c.args.m.now in
    let now : List Entry = g.M.Machine.front c.slots.m in
    let new : List Entry = g.M.Machine.front c.pass.new.m in
    let s0 : g.M.Machine.sizes c.slots.m ≡ z = c.slots.invariant.leaves.stays.sizes in
    let o0 : g.M.Machine.domain c.slots.m ≡ d = c.slots.invariant.leaves.stays.domain in
    let step = passes_at z _ d _ now new c.args.label.now c.slots.index false c.pass.result s0 o0 c.if-not-pass.true c.pass.ensures.passed in
    let less = c.slots-test.true in
    λ first k b v fs spares many some x.
    let y = c.slots.invariant.walk first k b v fs (spares_within z k d first new first now (prefix_same first) c.pass.ensures.leaves.grows spares) many x in
    let w = step first k b v fs spares (omega (arith, less, many)) y.0 in
    (w.0, (λ r low. w.1 r low ∙ y.1 r low))

pub returns-clause-moved : goal.returns-clause-moved
returns-clause-moved g c =
    let z : Sizes = g.M.Machine.sizes c.args.m.now in
    let d : ℕ = g.M.Machine.domain c.args.m.now in
    let now : List Entry = g.M.Machine.front c.slots.m in
    let all : c.slots.index ≡ c.args.size = search rules in
    λ first k b v fs spares many some x.
    let y = c.slots.invariant.walk first k b v fs spares many x in
    (all_moved z c.shows_legal.ensures.limits d first k c.args.label.now fs now b v (omega (arith, many, some)) (subst (λ (n : ℕ). Moving z d first now k c.args.label.now b v fs n) (all ∙ sym many) y.0), y.1)
