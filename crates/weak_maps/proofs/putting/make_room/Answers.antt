use Rattle.std.proofs.Common.{◌≡◌, ◌∙◌, ℕ, List, true, false, sym, refl, ap, cond}
use Rattle.model_core.specs.declared.entry.Entry.{Entry}
use Rattle.model_core.specs.declared.state.Sizes.{Sizes}
use Rattle.weak_maps.proofs.MachineLemmas.{at_machine}
use Rattle.weak_maps.proofs.GuardLemmas.{guards_since}
use Rattle.weak_maps.proofs.RoomLemmas.{room_guards, room_refused, room_whole}
use Rattle.weak_laws.proofs.OfMaps.FrontLemmas.{prefix_same}
use Rattle.weak_maps.proofs.FrameLemmas.{leaves_trans, makes_then, spends_makes, spends_none}
use Rattle.weak_maps.proofs.putting.make_room.Goals as goal

pub returns-then-is_full-clause-makes : goal.returns-then-is_full-clause-makes
returns-then-is_full-clause-makes g c = spends_makes false refl refl (c.is_full.ensures.count ∙ ap (λ b. cond b 1 0) c.if-is_full.true) c.perform-made.ensures.spends

pub returns-clause-makes : goal.returns-clause-makes
returns-clause-makes g c =
    let made = spends_makes true refl refl (c.is_full.ensures.count ∙ ap (λ b. cond b 1 0) c.if-is_full.false) c.perform-made.ensures.spends in
    makes_then made (leaves_trans (spends_none refl c.perform-leaf.ensures.spends) (spends_none refl c.perform-deeper.ensures.spends))

pub returns-then-is_full-clause-made : goal.returns-then-is_full-clause-made
returns-then-is_full-clause-made g c =
    let z : Sizes = g.M.Machine.sizes c.args.m.now in
    let d : ℕ = g.M.Machine.domain c.args.m.now in
    let old : List Entry = g.M.Machine.front c.args.m.now in
    λ first front root k j l v rest register shows few key field binds way leaf map respects.
    room_refused z root d old _ c.perform-made.result c.perform-made.ensures.performed (c.is_full.ensures.full.0 c.if-is_full.true) map respects

pub returns-clause-made : goal.returns-clause-made
returns-clause-made g c =
    let z : Sizes = g.M.Machine.sizes c.args.m.now in
    let d : ℕ = g.M.Machine.domain c.args.m.now in
    let old : List Entry = g.M.Machine.front c.args.m.now in
    let n0 : List Entry = g.M.Machine.front c.perform-made.new.m in
    let n1 : List Entry = g.M.Machine.front c.perform-leaf.new.m in
    let new : List Entry = g.M.Machine.front c.perform-deeper.new.m in
    let s1 : g.M.Machine.sizes c.perform-made.new.m ≡ z = c.perform-made.ensures.spends.stays.sizes in
    let o1 : g.M.Machine.domain c.perform-made.new.m ≡ d = c.perform-made.ensures.spends.stays.domain in
    let s2 : g.M.Machine.sizes c.perform-leaf.new.m ≡ z = c.perform-leaf.ensures.spends.stays.sizes ∙ s1 in
    let o2 : g.M.Machine.domain c.perform-leaf.new.m ≡ d = c.perform-leaf.ensures.spends.stays.domain ∙ o1 in
    λ first front root k j l v rest register shows few key field binds way leaf map respects.
    room_whole z c.shows_legal.ensures.limits root d first front k j l v old n0 n1 new c.perform-made.result c.perform-leaf.result c.perform-deeper.result c.args.index rest c.args.digit shows register few c.requires.small
    c.perform-made.ensures.performed (at_machine z _ d _ n0 n1 _ _ s1 o1 c.perform-leaf.ensures.performed) (at_machine z _ d _ n1 new _ _ s2 o2 c.perform-deeper.ensures.performed)
    (λ e. let clash : true ≡ false = sym (c.is_full.ensures.full.1 e) ∙ c.if-is_full.false in cc) map field binds leaf key way respects

pub returns-then-is_full-clause-guards : goal.returns-then-is_full-clause-guards
returns-then-is_full-clause-guards g c =
    let z : Sizes = g.M.Machine.sizes c.args.m.now in
    let d : ℕ = g.M.Machine.domain c.args.m.now in
    let old : List Entry = g.M.Machine.front c.args.m.now in
    let p = c.perform-made.ensures.performed in
    λ first front root k j l v rest register shows few key field binds way leaf map.
    guards_since z root d old old _ _ _ p (prefix_same old) (λ others. (room_refused z root d old _ c.perform-made.result p (c.is_full.ensures.full.0 c.if-is_full.true) map others).on.looks.respects)

pub returns-clause-guards : goal.returns-clause-guards
returns-clause-guards g c =
    let z : Sizes = g.M.Machine.sizes c.args.m.now in
    let d : ℕ = g.M.Machine.domain c.args.m.now in
    let old : List Entry = g.M.Machine.front c.args.m.now in
    let n0 : List Entry = g.M.Machine.front c.perform-made.new.m in
    let n1 : List Entry = g.M.Machine.front c.perform-leaf.new.m in
    let new : List Entry = g.M.Machine.front c.perform-deeper.new.m in
    let s1 : g.M.Machine.sizes c.perform-made.new.m ≡ z = c.perform-made.ensures.spends.stays.sizes in
    let o1 : g.M.Machine.domain c.perform-made.new.m ≡ d = c.perform-made.ensures.spends.stays.domain in
    let s2 : g.M.Machine.sizes c.perform-leaf.new.m ≡ z = c.perform-leaf.ensures.spends.stays.sizes ∙ s1 in
    let o2 : g.M.Machine.domain c.perform-leaf.new.m ≡ d = c.perform-leaf.ensures.spends.stays.domain ∙ o1 in
    λ first front root k j l v rest register shows few key field binds way leaf map.
    room_guards z c.shows_legal.ensures.limits root d first front k j l v old n0 n1 new c.perform-made.result c.perform-leaf.result c.perform-deeper.result c.args.index rest c.args.digit shows register few c.requires.small
    c.perform-made.ensures.performed (at_machine z _ d _ n0 n1 _ _ s1 o1 c.perform-leaf.ensures.performed) (at_machine z _ d _ n1 new _ _ s2 o2 c.perform-deeper.ensures.performed)
    (λ e. let clash : true ≡ false = sym (c.is_full.ensures.full.1 e) ∙ c.if-is_full.false in cc) map field binds leaf key way
