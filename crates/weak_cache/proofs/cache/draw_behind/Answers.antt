use Rattle.std.proofs.Common.{◌≡◌, ◌∙◌, ◌+◌, ◌-◌, ℕ, List, refl, sym, subst, arith, rules}
use Rattle.model_core.specs.declared.entry.Entry.{Entry}
use Rattle.model_core.specs.declared.graph.Value.{Value}
use Rattle.model_core.specs.declared.state.Sizes.{Sizes}
use Rattle.weak_laws.proofs.OfMaps.FrontLemmas.{prefix_same}
use Rattle.weak_cache.specs.Passes.{Keeping, drawn}
use Rattle.weak_cache.proofs.CoreLemmas.{spares_within}
use Rattle.weak_cache.proofs.ListLemmas.{drawn_none}
use Rattle.weak_cache.proofs.MachineLemmas.{draws_at}
use Rattle.weak_maps.proofs.FrameLemmas.{leaves_same, leaves_trans}
use Rattle.weak_cache.proofs.cache.draw_behind.Goals as goal

pub behind-init : goal.behind-init
behind-init g c = record {
  leaves = leaves_same;
  walk = λ first root k fs spares many x. (subst (λ (ys : List Value). Keeping (g.M.Machine.sizes c.args.m.now) (g.M.Machine.domain c.args.m.now) first (g.M.Machine.front c.args.m.now) root k fs ys) (sym (drawn_none c.args.from fs)) x, (λ r low. refl));
}

pub behind-preserved : goal.behind-preserved
behind-preserved g c =
    let z : Sizes = g.M.Machine.sizes c.args.m.now in
    let d : ℕ = g.M.Machine.domain c.args.m.now in
    let now : List Entry = g.M.Machine.front c.behind.m in
    let new : List Entry = g.M.Machine.front c.draw.new.m in
    let s0 : g.M.Machine.sizes c.behind.m ≡ z = c.behind.invariant.leaves.stays.sizes in
    let o0 : g.M.Machine.domain c.behind.m ≡ d = c.behind.invariant.leaves.stays.domain in
    let step = draws_at z _ d _ now new (c.args.from + c.behind.passed) s0 o0 c.draw.ensures.drawn in
    let less = c.behind-test.true in record {
      leaves = leaves_trans c.behind.invariant.leaves c.draw.ensures.leaves;
      walk = λ first root k fs spares many x.
          let y = c.behind.invariant.walk first root k fs (spares_within z root d first new first now (prefix_same first) c.draw.ensures.leaves.grows spares) many x in
          let w = step first root k fs c.args.from c.behind.passed spares refl (omega (arith, less, many)) y.0 in
          (w.0, (λ r low. w.1 r low ∙ y.1 r low));
    }

pub returns-clause-drawn : goal.returns-clause-drawn
returns-clause-drawn g c =
    let z : Sizes = g.M.Machine.sizes c.args.m.now in
    let d : ℕ = g.M.Machine.domain c.args.m.now in
    let now : List Entry = g.M.Machine.front c.behind.m in
    let all : c.behind.passed ≡ c.args.size - 1 - c.args.from = search rules in
    λ first root k fs n spares many is x.
    let y = c.behind.invariant.walk first root k fs spares many x in
    (subst (λ (m : ℕ). Keeping z d first now root k fs (drawn c.args.from m fs)) (omega (arith, all, is)) y.0, y.1)
