use Rattle.std.proofs.Common.{◌≡◌, ◌∙◌, ℕ, ◌-◌, ◌%◌, Bool, List, Option, None, true, false, refl, ap, subst, arith}
use Rattle.model_core.specs.declared.entry.Entry.{Entry}
use Rattle.model_core.specs.declared.label.Label.{Label}
use Rattle.model_core.specs.declared.state.Sizes.{Sizes}
use Rattle.weak_laws.specs.Maps.Tries.{node_width, number_of}
use Rattle.weak_maps.specs.Guards.{RoomGuards}
use Rattle.weak_maps.specs.Puts.{Arrived, MakesRoom, Publishes, rest_of}
use Rattle.weak_laws.proofs.OfMaps.FrontLemmas.{prefix_same, prefix_trans}
use Rattle.weak_maps.proofs.AloneLemmas.{lost_deep, never_spent, room_deeper}
use Rattle.weak_maps.proofs.CleanLemmas.{leaves_within}
use Rattle.weak_maps.proofs.GuardLemmas.{guards_quiet, guards_twice, quiet_by, quiet_cleared}
use Rattle.weak_maps.proofs.MachineLemmas.{at_machine, cleared_at}
use Rattle.weak_maps.proofs.SettleLemmas.{settle_again, settle_done, settle_full, settle_lost, settle_publishes, settle_rooms, settle_spent}
use Rattle.weak_maps.proofs.StayLemmas.{respects_within}
use Rattle.weak_maps.proofs.putting.settle.Goals as goal

pub returns-then-publish-clause-settled : goal.returns-then-publish-clause-settled
returns-then-publish-clause-settled g c =
    let z : Sizes = g.M.Machine.sizes c.args.m.now in
    let d : ℕ = g.M.Machine.domain c.args.m.now in
    let now : List Entry = g.M.Machine.front c.args.m.now in
    let n1 : List Entry = g.M.Machine.front c.publish.new.m in
    let k : Label = c.args.label.now in
    let other : c.args.from.other ≡ None = c.in_default.is in
    let x = cleared_at z _ d _ n1 _ c.publish.ensures.leaves.stays.sizes c.publish.ensures.leaves.stays.domain c.clear.ensures.cleared in
    let publishes = subst (λ (b : Bool). Publishes z d now n1 c.args.from.index b) c.if-publish.true c.publish.ensures.published in
    λ old root v key few held map placed t respects.
    settle_done z c.shows_legal.ensures.limits root d old now k v key few held c.shows_legal.ensures.legal c.args.from.index c.args.from.rest c.args.level n1 _
    (subst (λ (o : Option Label). Arrived z d old now root k v c.args.from.index c.args.from.rest c.args.level o) other t) publishes c.publish.ensures.leaves.grows x respects

pub returns-in_default-clause-settled : goal.returns-in_default-clause-settled
returns-in_default-clause-settled g c =
    let z : Sizes = g.M.Machine.sizes c.args.m.now in
    let d : ℕ = g.M.Machine.domain c.args.m.now in
    let now : List Entry = g.M.Machine.front c.args.m.now in
    let n1 : List Entry = g.M.Machine.front c.publish.new.m in
    let k : Label = c.args.label.now in
    let other : c.args.from.other ≡ None = c.in_default.is in
    let p = at_machine z _ d _ n1 _ _ _ c.publish.ensures.leaves.stays.sizes c.publish.ensures.leaves.stays.domain c.read_again-shows.ensures.read in
    let publishes = subst (λ (b : Bool). Publishes z d now n1 c.args.from.index b) c.if-publish.false c.publish.ensures.published in
    λ old root v key few held map placed t respects.
    settle_lost z c.shows_legal.ensures.limits root d old now k v key few held c.shows_legal.ensures.legal c.args.from.index c.args.from.rest c.args.level n1 _ _
    (subst (λ (o : Option Label). Arrived z d old now root k v c.args.from.index c.args.from.rest c.args.level o) other t) publishes c.publish.ensures.leaves.grows p respects

pub returns-then-rooms-eq0-clause-settled : goal.returns-then-rooms-eq0-clause-settled
returns-then-rooms-eq0-clause-settled g c =
    λ old root v key few held map placed t respects.
    settle_spent (g.M.Machine.sizes c.args.m.now) c.shows_legal.ensures.limits root (g.M.Machine.domain c.args.m.now) old (g.M.Machine.front c.args.m.now) c.args.label.now v key few held c.shows_legal.ensures.legal _ _ _ _ _ t c.clear-then-rooms-eq0.ensures.cleared respects

pub returns-then-not-make_room-clause-settled : goal.returns-then-not-make_room-clause-settled
returns-then-not-make_room-clause-settled g c =
    let z : Sizes = g.M.Machine.sizes c.args.m.now in
    let d : ℕ = g.M.Machine.domain c.args.m.now in
    let now : List Entry = g.M.Machine.front c.args.m.now in
    let n1 : List Entry = g.M.Machine.front c.make_room.new.m in
    let k : Label = c.args.label.now in
    let j : Label = c.in-Some.other in
    let x = cleared_at z _ d _ n1 _ c.make_room.ensures.makes.stays.sizes c.make_room.ensures.makes.stays.domain c.clear-then-not-make_room.ensures.cleared in
    let number : c.number_of.result ≡ number_of z.domains j = c.number_of.ensures.number ∙ ap (λ (n : ℕ). number_of n j) c.domains.ensures in
    let digit : c.node_index.result ≡ rest_of (number_of z.domains j) c.args.level % node_width = c.node_index.ensures ∙ ap (λ (n : ℕ). n % node_width) (c.rest_below-rest.ensures ∙ ap (λ (n : ℕ). rest_of n c.args.level) number) in
    let made : c.make_room.result ≡ false = c.if-not-make_room.true in
    let makes = subst (λ (w : ℕ × Bool). MakesRoom z d now n1 c.args.from.index w.0 w.1) (λ i. (digit i, made i)) c.make_room.ensures.made in
    λ old root v key few held map placed t respects.
    settle_full z c.shows_legal.ensures.limits root d old now k v key few held c.shows_legal.ensures.legal c.args.from.index c.args.from.rest c.args.level n1 _ j
    (subst (λ (o : Option Label). Arrived z d old now root k v c.args.from.index c.args.from.rest c.args.level o) c.in-Some.is t)
    c.serial_of-serial.ensures.range c.serial_of-other_serial.ensures.range map placed makes c.make_room.ensures.makes.grows x respects

pub returns-clause-settled : goal.returns-clause-settled
returns-clause-settled g c =
    let z : Sizes = g.M.Machine.sizes c.args.m.now in
    let d : ℕ = g.M.Machine.domain c.args.m.now in
    let now : List Entry = g.M.Machine.front c.args.m.now in
    let n1 : List Entry = g.M.Machine.front c.make_room.new.m in
    let k : Label = c.args.label.now in
    let j : Label = c.in-Some.other in
    let p = at_machine z _ d _ n1 _ _ _ c.make_room.ensures.makes.stays.sizes c.make_room.ensures.makes.stays.domain c.read_again-shows-2.ensures.read in
    let number : c.number_of.result ≡ number_of z.domains j = c.number_of.ensures.number ∙ ap (λ (n : ℕ). number_of n j) c.domains.ensures in
    let digit : c.node_index.result ≡ rest_of (number_of z.domains j) c.args.level % node_width = c.node_index.ensures ∙ ap (λ (n : ℕ). n % node_width) (c.rest_below-rest.ensures ∙ ap (λ (n : ℕ). rest_of n c.args.level) number) in
    let made : c.make_room.result ≡ true = c.if-not-make_room.false in
    let makes = subst (λ (w : ℕ × Bool). MakesRoom z d now n1 c.args.from.index w.0 w.1) (λ i. (digit i, made i)) c.make_room.ensures.made in
    λ old root v key few held map placed t respects.
    settle_again z c.shows_legal.ensures.limits root d old now k v key few held c.shows_legal.ensures.legal c.args.from.index c.args.from.rest c.args.level n1 _ _ j
    (subst (λ (o : Option Label). Arrived z d old now root k v c.args.from.index c.args.from.rest c.args.level o) c.in-Some.is t)
    c.serial_of-serial.ensures.range c.serial_of-other_serial.ensures.range map placed makes c.make_room.ensures.makes.grows p respects

pub returns-in_default-clause-alone : goal.returns-in_default-clause-alone
returns-in_default-clause-alone g c =
    let z : Sizes = g.M.Machine.sizes c.args.m.now in
    let d : ℕ = g.M.Machine.domain c.args.m.now in
    let now : List Entry = g.M.Machine.front c.args.m.now in
    let n1 : List Entry = g.M.Machine.front c.publish.new.m in
    let k : Label = c.args.label.now in
    let other : c.args.from.other ≡ None = c.in_default.is in
    let p = at_machine z _ d _ n1 _ _ _ c.publish.ensures.leaves.stays.sizes c.publish.ensures.leaves.stays.domain c.read_again-shows.ensures.read in
    let publishes = subst (λ (b : Bool). Publishes z d now n1 c.args.from.index b) c.if-publish.false c.publish.ensures.published in
    λ old root v key few held map placed t deep respects leaves.
    lost_deep z c.shows_legal.ensures.limits root d old now k v key few held c.shows_legal.ensures.legal c.args.from.index c.args.from.rest c.args.level c.args.rooms n1 _ _
    (subst (λ (o : Option Label). Arrived z d old now root k v c.args.from.index c.args.from.rest c.args.level o) other t) publishes c.publish.ensures.leaves.grows p respects deep

pub returns-then-rooms-eq0-clause-alone : goal.returns-then-rooms-eq0-clause-alone
returns-then-rooms-eq0-clause-alone g c =
    let z : Sizes = g.M.Machine.sizes c.args.m.now in
    let d : ℕ = g.M.Machine.domain c.args.m.now in
    let now : List Entry = g.M.Machine.front c.args.m.now in
    let k : Label = c.args.label.now in
    let j : Label = c.in-Some.other in
    let grows = c.clear-then-rooms-eq0.ensures.leaves.grows in
    λ old root v key few held map placed t deep respects leaves.
    absurd (never_spent z c.shows_legal.ensures.limits root d old now k v key few held c.shows_legal.ensures.legal c.args.from.index c.args.from.rest c.args.level j
    (subst (λ (o : Option Label). Arrived z d old now root k v c.args.from.index c.args.from.rest c.args.level o) c.in-Some.is t) (leaves_within z root d old _ old now (prefix_same old) grows leaves) c.args.rooms deep
    c.serial_of-serial.ensures.range c.serial_of-other_serial.ensures.range map placed (respects_within z root d old _ old now (prefix_same old) grows respects) c.if-rooms-eq0.true)

pub returns-clause-alone : goal.returns-clause-alone
returns-clause-alone g c =
    let z : Sizes = g.M.Machine.sizes c.args.m.now in
    let d : ℕ = g.M.Machine.domain c.args.m.now in
    let now : List Entry = g.M.Machine.front c.args.m.now in
    let n1 : List Entry = g.M.Machine.front c.make_room.new.m in
    let k : Label = c.args.label.now in
    let j : Label = c.in-Some.other in
    let p = at_machine z _ d _ n1 _ _ _ c.make_room.ensures.makes.stays.sizes c.make_room.ensures.makes.stays.domain c.read_again-shows-2.ensures.read in
    let later = prefix_trans now n1 _ c.make_room.ensures.makes.grows c.read_again-shows-2.ensures.leaves.grows in
    let number : c.number_of.result ≡ number_of z.domains j = c.number_of.ensures.number ∙ ap (λ (n : ℕ). number_of n j) c.domains.ensures in
    let digit : c.node_index.result ≡ rest_of (number_of z.domains j) c.args.level % node_width = c.node_index.ensures ∙ ap (λ (n : ℕ). n % node_width) (c.rest_below-rest.ensures ∙ ap (λ (n : ℕ). rest_of n c.args.level) number) in
    let made : c.make_room.result ≡ true = c.if-not-make_room.false in
    let makes = subst (λ (w : ℕ × Bool). MakesRoom z d now n1 c.args.from.index w.0 w.1) (λ i. (digit i, made i)) c.make_room.ensures.made in
    let some = c.if-rooms-eq0.false in
    λ old root v key few held map placed t deep respects leaves.
    room_deeper z c.shows_legal.ensures.limits root d old now k v key few held c.shows_legal.ensures.legal c.args.from.index c.args.from.rest c.args.level j
    (subst (λ (o : Option Label). Arrived z d old now root k v c.args.from.index c.args.from.rest c.args.level o) c.in-Some.is t) (leaves_within z root d old _ old now (prefix_same old) later leaves) c.args.rooms deep
    c.serial_of-serial.ensures.range c.serial_of-other_serial.ensures.range map placed n1 _ _ (c.args.rooms - 1) (omega (arith, some)) makes c.make_room.ensures.makes.grows p respects leaves

pub returns-then-publish-clause-guards : goal.returns-then-publish-clause-guards
returns-then-publish-clause-guards g c =
    let z : Sizes = g.M.Machine.sizes c.args.m.now in
    let d : ℕ = g.M.Machine.domain c.args.m.now in
    let now : List Entry = g.M.Machine.front c.args.m.now in
    let k : Label = c.args.label.now in
    let n1 : List Entry = g.M.Machine.front c.publish.new.m in
    let new : List Entry = g.M.Machine.front c.clear.new.m in
    let other : c.args.from.other ≡ None = c.in_default.is in
    λ old root v key few held map placed t.
    guards_twice z root d old now n1 new c.clear.ensures.leaves.grows
    (settle_publishes z c.shows_legal.ensures.limits root d old now k v key few held c.shows_legal.ensures.legal c.args.from.index c.args.from.rest c.args.level n1 c.publish.ensures.once.0 c.publish.result
    (subst (λ (o : Option Label). Arrived z d old now root k v c.args.from.index c.args.from.rest c.args.level o) other t) c.publish.ensures.published c.publish.ensures.once.1)
    (guards_quiet z root d old n1 new (quiet_cleared z d n1 new (cleared_at z _ d _ n1 new c.publish.ensures.leaves.stays.sizes c.publish.ensures.leaves.stays.domain c.clear.ensures.cleared)))

pub returns-in_default-clause-guards : goal.returns-in_default-clause-guards
returns-in_default-clause-guards g c =
    let z : Sizes = g.M.Machine.sizes c.args.m.now in
    let d : ℕ = g.M.Machine.domain c.args.m.now in
    let now : List Entry = g.M.Machine.front c.args.m.now in
    let k : Label = c.args.label.now in
    let n1 : List Entry = g.M.Machine.front c.publish.new.m in
    let new : List Entry = g.M.Machine.front c.read_again-shows.new.m in
    let other : c.args.from.other ≡ None = c.in_default.is in
    λ old root v key few held map placed t.
    guards_twice z root d old now n1 new c.read_again-shows.ensures.leaves.grows
    (settle_publishes z c.shows_legal.ensures.limits root d old now k v key few held c.shows_legal.ensures.legal c.args.from.index c.args.from.rest c.args.level n1 c.publish.ensures.once.0 c.publish.result
    (subst (λ (o : Option Label). Arrived z d old now root k v c.args.from.index c.args.from.rest c.args.level o) other t) c.publish.ensures.published c.publish.ensures.once.1)
    (guards_quiet z root d old n1 new (quiet_by z d n1 new _ _ (at_machine z _ d _ n1 new _ _ c.publish.ensures.leaves.stays.sizes c.publish.ensures.leaves.stays.domain c.read_again-shows.ensures.read) (λ s. refl) refl))

pub returns-then-rooms-eq0-clause-guards : goal.returns-then-rooms-eq0-clause-guards
returns-then-rooms-eq0-clause-guards g c =
    λ old root v key few held map placed t.
    guards_quiet (g.M.Machine.sizes c.args.m.now) root (g.M.Machine.domain c.args.m.now) old (g.M.Machine.front c.args.m.now) _ (quiet_cleared (g.M.Machine.sizes c.args.m.now) (g.M.Machine.domain c.args.m.now) _ _ c.clear-then-rooms-eq0.ensures.cleared)

pub returns-then-not-make_room-clause-guards : goal.returns-then-not-make_room-clause-guards
returns-then-not-make_room-clause-guards g c =
    let z : Sizes = g.M.Machine.sizes c.args.m.now in
    let d : ℕ = g.M.Machine.domain c.args.m.now in
    let now : List Entry = g.M.Machine.front c.args.m.now in
    let k : Label = c.args.label.now in
    let n1 : List Entry = g.M.Machine.front c.make_room.new.m in
    let new : List Entry = g.M.Machine.front c.clear-then-not-make_room.new.m in
    let j : Label = c.in-Some.other in
    let number : c.number_of.result ≡ number_of z.domains j = c.number_of.ensures.number ∙ ap (λ (n : ℕ). number_of n j) c.domains.ensures in
    let digit : c.node_index.result ≡ rest_of (number_of z.domains j) c.args.level % node_width = c.node_index.ensures ∙ ap (λ (n : ℕ). n % node_width) (c.rest_below-rest.ensures ∙ ap (λ (n : ℕ). rest_of n c.args.level) number) in
    let rooms = subst (λ (n : ℕ). RoomGuards z d now n1 c.args.from.index n) digit c.make_room.ensures.guards in
    λ old root v key few held map placed t.
    guards_twice z root d old now n1 new c.clear-then-not-make_room.ensures.leaves.grows
    (settle_rooms z c.shows_legal.ensures.limits root d old now k v key few held c.shows_legal.ensures.legal c.args.from.index c.args.from.rest c.args.level n1 j
    (subst (λ (o : Option Label). Arrived z d old now root k v c.args.from.index c.args.from.rest c.args.level o) c.in-Some.is t) c.serial_of-serial.ensures.range c.serial_of-other_serial.ensures.range map placed rooms)
    (guards_quiet z root d old n1 new (quiet_cleared z d n1 new (cleared_at z _ d _ n1 new c.make_room.ensures.makes.stays.sizes c.make_room.ensures.makes.stays.domain c.clear-then-not-make_room.ensures.cleared)))

pub returns-clause-guards : goal.returns-clause-guards
returns-clause-guards g c =
    let z : Sizes = g.M.Machine.sizes c.args.m.now in
    let d : ℕ = g.M.Machine.domain c.args.m.now in
    let now : List Entry = g.M.Machine.front c.args.m.now in
    let k : Label = c.args.label.now in
    let n1 : List Entry = g.M.Machine.front c.make_room.new.m in
    let new : List Entry = g.M.Machine.front c.read_again-shows-2.new.m in
    let j : Label = c.in-Some.other in
    let number : c.number_of.result ≡ number_of z.domains j = c.number_of.ensures.number ∙ ap (λ (n : ℕ). number_of n j) c.domains.ensures in
    let digit : c.node_index.result ≡ rest_of (number_of z.domains j) c.args.level % node_width = c.node_index.ensures ∙ ap (λ (n : ℕ). n % node_width) (c.rest_below-rest.ensures ∙ ap (λ (n : ℕ). rest_of n c.args.level) number) in
    let rooms = subst (λ (n : ℕ). RoomGuards z d now n1 c.args.from.index n) digit c.make_room.ensures.guards in
    λ old root v key few held map placed t.
    guards_twice z root d old now n1 new c.read_again-shows-2.ensures.leaves.grows
    (settle_rooms z c.shows_legal.ensures.limits root d old now k v key few held c.shows_legal.ensures.legal c.args.from.index c.args.from.rest c.args.level n1 j
    (subst (λ (o : Option Label). Arrived z d old now root k v c.args.from.index c.args.from.rest c.args.level o) c.in-Some.is t) c.serial_of-serial.ensures.range c.serial_of-other_serial.ensures.range map placed rooms)
    (guards_quiet z root d old n1 new (quiet_by z d n1 new _ _ (at_machine z _ d _ n1 new _ _ c.make_room.ensures.makes.stays.sizes c.make_room.ensures.makes.stays.domain c.read_again-shows-2.ensures.read) (λ s. refl) refl))
