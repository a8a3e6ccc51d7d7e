use Rattle.std.proofs.Common.{◌∙◌, ℕ, List}
use Rattle.model_core.specs.declared.entry.Entry.{Entry}
use Rattle.model_core.specs.declared.state.Sizes.{Sizes}
use Rattle.weak_laws.proofs.OfMaps.FrontLemmas.{prefix_same}
use Rattle.weak_maps.proofs.GetLemmas.{grows_by}
use Rattle.weak_maps.proofs.MachineLemmas.{at_machine}
use Rattle.weak_cache.proofs.CoreLemmas.{spares_within}
use Rattle.weak_cache.proofs.MachineLemmas.{tells_at}
use Rattle.weak_cache.proofs.MoveLemmas.{pass_low, pass_low_on, pass_met, pass_on}
use Rattle.weak_cache.proofs.cache.pass.Goals as goal

pub returns-then-is_leaf_of-clause-passed : goal.returns-then-is_leaf_of-clause-passed
returns-then-is_leaf_of-clause-passed g c =
    let z : Sizes = g.M.Machine.sizes c.args.m.now in
    let d : ℕ = g.M.Machine.domain c.args.m.now in
    let now : List Entry = g.M.Machine.front c.args.m.now in
    let n0 : List Entry = g.M.Machine.front c.read_slot-shows.new.m in
    let n1 : List Entry = g.M.Machine.front c.perform-done.new.m in
    let n2 : List Entry = g.M.Machine.front c.is_leaf_of.new.m in
    let s1 = c.read_slot-shows.ensures.leaves.stays.sizes in
    let o1 = c.read_slot-shows.ensures.leaves.stays.domain in
    let s2 = c.perform-done.ensures.spends.stays.sizes ∙ s1 in
    let o2 = c.perform-done.ensures.spends.stays.domain ∙ o1 in
    let p1 = at_machine z _ d _ n0 n1 _ _ s1 o1 c.perform-done.ensures.performed in
    let t = tells_at z _ d _ n1 n2 9 _ c.args.label.now c.is_leaf_of.result s2 o2 c.is_leaf_of.ensures.told in
    λ first k l v fs spares small x. (
      pass_met z c.shows_legal.ensures.limits d first k c.args.label.now fs l v now n0 n1 n2 _ _ c.args.index c.read_slot-shows.ensures.read p1 c.is_leaf_of.result t spares x small c.is_leaf_of.ensures.leaves.grows c.if-is_leaf_of.true,
      pass_low z c.shows_legal.ensures.limits d first k c.args.label.now fs l v now n0 n1 n2 _ _ c.args.index c.read_slot-shows.ensures.read p1 c.is_leaf_of.result t spares x small c.is_leaf_of.ensures.leaves.grows,
    )

pub returns-clause-passed : goal.returns-clause-passed
returns-clause-passed g c =
    let z : Sizes = g.M.Machine.sizes c.args.m.now in
    let d : ℕ = g.M.Machine.domain c.args.m.now in
    let now : List Entry = g.M.Machine.front c.args.m.now in
    let n0 : List Entry = g.M.Machine.front c.read_slot-shows.new.m in
    let n1 : List Entry = g.M.Machine.front c.perform-done.new.m in
    let n2 : List Entry = g.M.Machine.front c.is_leaf_of.new.m in
    let new : List Entry = g.M.Machine.front c.perform-moved.new.m in
    let s1 = c.read_slot-shows.ensures.leaves.stays.sizes in
    let o1 = c.read_slot-shows.ensures.leaves.stays.domain in
    let s2 = c.perform-done.ensures.spends.stays.sizes ∙ s1 in
    let o2 = c.perform-done.ensures.spends.stays.domain ∙ o1 in
    let s3 = c.is_leaf_of.ensures.leaves.stays.sizes ∙ s2 in
    let o3 = c.is_leaf_of.ensures.leaves.stays.domain ∙ o2 in
    let p1 = at_machine z _ d _ n0 n1 _ _ s1 o1 c.perform-done.ensures.performed in
    let p3 = at_machine z _ d _ n2 new _ _ s3 o3 c.perform-moved.ensures.performed in
    let t = tells_at z _ d _ n1 n2 9 _ c.args.label.now c.is_leaf_of.result s2 o2 c.is_leaf_of.ensures.told in
    λ first k l v fs spares small x.
    let early = spares_within z k d first new first n2 (prefix_same first) (grows_by z d n2 new _ _ p3) spares in (
      pass_on z c.shows_legal.ensures.limits d first k c.args.label.now fs l v now n0 n1 n2 _ _ c.args.index c.read_slot-shows.ensures.read p1 c.is_leaf_of.result t early x small c.is_leaf_of.ensures.leaves.grows c.if-is_leaf_of.false new _ p3 spares,
      pass_low_on z c.shows_legal.ensures.limits d first k c.args.label.now fs l v now n0 n1 n2 _ _ c.args.index c.read_slot-shows.ensures.read p1 c.is_leaf_of.result t early x small c.is_leaf_of.ensures.leaves.grows c.if-is_leaf_of.false new _ p3 spares,
    )
