use Rattle.std.proofs.Common.{◌∙◌, ◌-◌, ℕ, List, arith}
use Rattle.model_core.specs.declared.entry.Entry.{Entry}
use Rattle.model_core.specs.declared.state.Sizes.{Sizes}
use Rattle.weak_laws.proofs.OfMaps.FrontLemmas.{prefix_same, prefix_trans}
use Rattle.weak_maps.proofs.MachineLemmas.{at_machine}
use Rattle.weak_cache.proofs.CoreLemmas.{spares_within}
use Rattle.weak_cache.proofs.DrawLemmas.{cut}
use Rattle.weak_cache.proofs.cache.cut_out.Goals as goal

pub returns-clause-cut : goal.returns-clause-cut
returns-clause-cut g c =
    let z : Sizes = g.M.Machine.sizes c.args.m.now in
    let d : ℕ = g.M.Machine.domain c.args.m.now in
    let now : List Entry = g.M.Machine.front c.draw_behind.new.m in
    let n0 : List Entry = g.M.Machine.front c.perform-zero.new.m in
    let new : List Entry = g.M.Machine.front c.perform-done.new.m in
    let s1 = c.draw_behind.ensures.leaves.stays.sizes in
    let o1 = c.draw_behind.ensures.leaves.stays.domain in
    let s2 = c.perform-zero.ensures.spends.stays.sizes ∙ s1 in
    let o2 = c.perform-zero.ensures.spends.stays.domain ∙ o1 in
    let p0 = at_machine z _ d _ now n0 _ _ s1 o1 c.perform-zero.ensures.performed in
    let p1 = at_machine z _ d _ n0 new _ _ s2 o2 c.perform-done.ensures.performed in
    λ first root k fs spares many inner x.
    let early = spares_within z root d first new first now (prefix_same first) (prefix_trans now n0 new c.perform-zero.ensures.spends.grows c.perform-done.ensures.spends.grows) spares in
    let y = c.draw_behind.ensures.drawn first root k fs (c.args.size - 1 - c.args.from) early many (omega (arith, inner)) x in
    let w = cut z c.shows_legal.ensures.limits d first root k fs now n0 new _ _ c.args.from (c.args.size - 1 - c.args.from) (c.args.size - 1) p0 p1 spares (omega (arith, inner)) (omega (arith, inner, many)) y.0 in
    (w.0, (λ r low. w.1 r low ∙ y.1 r low))
