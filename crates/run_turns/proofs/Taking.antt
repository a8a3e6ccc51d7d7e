-- What a domain takes of its labels, and of its room for ephemerons.
use Rattle.std.proofs.Common.{◌≡◌, ◌∙◌, ℕ, ◌+◌, ◌-◌, ◌≤◌, Bool, List, ap, arith}
use Rattle.model_core.specs.declared.command.Command.{Command}
use Rattle.model_core.specs.declared.command.Command.TheVariants.{AllocMaj, Ephe}
use Rattle.model_core.specs.declared.entry.Entry.{Entry}
use Rattle.model_core.specs.declared.reply.Reply.{Reply}
use Rattle.model_core.specs.declared.reply.Reply.TheVariants.{Block}
use Rattle.heap_rule.specs.declared.config.Config.{Config}
use Rattle.heap_rule.specs.declared.view.DomainView.{DomainView}
use Rattle.heap_rule.specs.declared.view.Hunt.TheVariants.{Rests as AtRest}
use Rattle.heap_rule.specs.declared.view.Own.{Own}
use Rattle.heap_rule.specs.Standing.{with_front}
use Rattle.heap_rule.specs.Token.{Token, SharedHeap}
use Rattle.heap_words.specs.Remembered.Bounded.{Bounded}
use Rattle.do_alloc.specs.Pools.Taken.{Sought}
use Rattle.do_alloc.proofs.OfPools.Seeking.{sought_shortens, sought_view}
use Rattle.gc_pause.specs.Phases.Sharing.{gave_back}
use Rattle.run_turns.specs.Tries.{ListsEphemeron, Tried, ephemerons_given, labels_given}
use Rattle.run_turns.specs.Runs.{Takes}

-- none where it has the labels that it had, and room for as many ephemerons or more
pub takes_more : (x y : DomainView) → y.own.serial ≡ x.own.serial → x.own.ephemerons.room ≤ y.own.ephemerons.room → Takes 0 0 x y
takes_more x y labels more = record { labels_are = omega (arith, labels); room = omega (arith, more) }

pub takes_none : (x y : DomainView) → y.own.serial ≡ x.own.serial → y.own.ephemerons ≡ x.own.ephemerons → Takes 0 0 x y
takes_none x y labels listed = let same : y.own.ephemerons.room ≡ x.own.ephemerons.room = ap (λ (b : Bounded ℕ). b.room) listed in record { labels_are = omega (arith, labels); room = omega (arith, same) }

-- one part of a turn after the other, where it takes in one of them alone
pub takes_on : (labels ephemerons : ℕ) (x y z : DomainView) → Takes 0 0 x y → Takes labels ephemerons y z → Takes labels ephemerons x z
takes_on labels ephemerons x y z a b = record { labels_are = omega (arith, a.labels_are, b.labels_are); room = omega (arith, a.room, b.room) }

pub takes_then : (labels ephemerons : ℕ) (x y z : DomainView) → Takes labels ephemerons x y → Takes 0 0 y z → Takes labels ephemerons x z
takes_then labels ephemerons x y z a b = record { labels_are = omega (arith, a.labels_are, b.labels_are); room = omega (arith, a.room, b.room) }

-- a search for a place takes nothing
pub searched_takes : (k : Config) (x y : DomainView) → Sought k x y AtRest → Takes 0 0 x y
searched_takes k x y sought = takes_more x y (ap (λ (z : DomainView). z.own.serial) (sought_view k x y AtRest sought)) (sought_shortens k x y AtRest sought).no_less

-- nor does an arrival
pub arrived_takes : (x begun y : DomainView) (front : List Entry) → y ≡ gave_back (with_front begun front) y → begun.own.serial ≡ x.own.serial → begun.own.ephemerons ≡ x.own.ephemerons → Takes 0 0 x y
arrived_takes x begun y front is labels listed = takes_none x y (ap (λ (z : DomainView). z.own.serial) is ∙ labels) (ap (λ (z : DomainView). z.own.ephemerons) is ∙ listed)

-- a command takes room for the ephemeron that it made
room_after : (k : Config) (c : Command) (r : Reply) (x y : DomainView) → ListsEphemeron k x y c r → x.own.ephemerons.room ≤ y.own.ephemerons.room + ephemerons_given c r
room_after k (AllocMaj dst tag fields) r x y lists = let more : x.own.ephemerons.room ≤ y.own.ephemerons.room = lists.shortens.no_less in omega (arith, more)
room_after k (Ephe dst keys) (Block l) x y lists =
    let before : Bounded ℕ = lists.0 in
    let same : y.own.ephemerons.room ≡ before.room - 1 = ap (λ (b : Bounded ℕ). b.room) lists.1 in
    let more : x.own.ephemerons.room ≤ before.room = lists.2.shortens.no_less in omega (arith, same, more)
room_after k (Ephe dst keys) r x y lists = let more : x.own.ephemerons.room ≤ y.own.ephemerons.room = lists.shortens.no_less in omega (arith, more)
room_after k c r x y lists = let same : y.own.ephemerons.room ≡ x.own.ephemerons.room = ap (λ (b : Bounded ℕ). b.room) lists in omega (arith, same)

pub tried_takes : (h : SharedHeap) (old new : Token) (c : Command) (collected : Bool) (r : Reply) → Tried h old new c collected r → Takes (labels_given c r) (ephemerons_given c r) old.view new.view
tried_takes h old new c collected r t = record { labels_are = ap (λ (o : Own). o.serial) t.own; room = room_after h.config c r old.view new.view t.lists }
