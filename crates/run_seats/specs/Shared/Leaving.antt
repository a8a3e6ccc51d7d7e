-- A domain that leaves: nobody has a command for it any more, and others turn it to its end.
use Rattle.std.specs.Prelude.{◌≡◌, ◌≢◌, List, [], ◌++◌, length, refl, None, Some}
use Rattle.std.proofs.Common.{◌∙◌, sym, ap, append-nil, append_assoc}
use Rattle.model_core.specs.declared.command.Command as model
use Rattle.model_core.specs.declared.entry.Entry.{Entry}
use Rattle.model_core.specs.History.{IsPrefix}
use Rattle.run_turns.specs.declared.supply.Supply.TheVariants.{Open}
use Rattle.run_seats.specs.Beds.Bedding.{BedView}
use Rattle.run_seats.specs.declared.shared.bed.NotRested.{NotRested}
use Rattle.run_seats.specs.declared.shared.bed.NotRested.TheVariants.{Refused, Taken, Blocked}
use Rattle.run_seats.specs.Shared.Idling.{StaysAlong, still_along, stays_along}
use Rattle.run_seats.specs.Shared.Sharing.{MayClose, SharedView, closed_of}

-- it isn't a domain that waits for its next command: it was closed, or has a command to make
abbrev pub HasLeft : SharedView → Type 0
HasLeft s = MayClose s → ⊥

-- it was closed, where it could be
pub record IsLeftAs (s t : SharedView) : Type 0 where
  pub closed : MayClose s → t ≡ closed_of s
  pub same : HasLeft s → t ≡ s

-- why it isn't put to rest, and how it comes back: something rests in the bed, and it is as it was; or another thread is in the way, and it was closed
abbrev pub IsKeptBack : BedView SharedView → SharedView → SharedView → NotRested → Type 0
IsKeptBack b s t (Refused why) = ⊥
IsKeptBack b s t Taken = (t ≡ s) × (y : SharedView) × (b.rests ≡ Some y)
IsKeptBack b s t Blocked = IsLeftAs s t × (b.rests ≡ None)

-- it has gone on: the same domain of the same heap, with the same commands, which has seen more of the history. Once closed it stays closed, and it waits for no command
pub record LeavesOn (old new : SharedView) : Type 0 where
  pub heap : new.heap ≡ old.heap
  pub number : new.run.token.view.own.number ≡ old.run.token.view.own.number
  pub commands : new.run.commands ≡ old.run.commands
  pub grows : IsPrefix old.run.token.view.seen.front new.run.token.view.seen.front
  pub closed : old.run.supply ≢ Open → new.run.supply ≢ Open
  pub left : HasLeft new

-- a domain that rests has gone on: one that waits for its next command has made none, and one that has left goes to its end
pub record RestsOn (old new : SharedView) : Type 0 where
  pub along : MayClose old → StaysAlong old new
  pub leaves : HasLeft old → LeavesOn old new

-- one that waits for its next command does so still
pub may_along : (a b : SharedView) → StaysAlong a b → MayClose a → MayClose b
may_along a b p may = record { is_open = p.1.supply ∙ may.is_open; done = p.1.next ∙ (may.done ∙ sym (ap (λ (cs : List model.Command). length cs) p.1.commands)) }

prefix_still : (a : List Entry) → IsPrefix a a
prefix_still a = record { rest = []; appends = sym (append-nil a) }

prefix_on : (a b c : List Entry) → IsPrefix a b → IsPrefix b c → IsPrefix a c
prefix_on a b c p q = record { rest = p.rest ++ q.rest; appends = q.appends ∙ (ap (λ (xs : List Entry). xs ++ q.rest) p.appends ∙ append_assoc a p.rest q.rest) }

-- each follows itself
pub rests_still : (s : SharedView) → RestsOn s s
rests_still s = record {
  along = λ may. still_along s;
  leaves = λ left. record { heap = refl; number = refl; commands = refl; grows = prefix_still s.run.token.view.seen.front; closed = λ c. c; left = left };
}

-- and what follows one that follows it
pub rests_on : (a b c : SharedView) → RestsOn a b → RestsOn b c → RestsOn a c
rests_on a b c p q = record {
  along = λ may. let first = p.along may in stays_along a b c first (q.along (may_along a b first may));
  leaves = λ left.
      let first = p.leaves left in
      let then_on = q.leaves first.left in
      record {
        heap = then_on.heap ∙ first.heap;
        number = then_on.number ∙ first.number;
        commands = then_on.commands ∙ first.commands;
        grows = prefix_on a.run.token.view.seen.front b.run.token.view.seen.front c.run.token.view.seen.front first.grows then_on.grows;
        closed = λ shut. then_on.closed (first.closed shut);
        left = then_on.left;
      };
}
