-- What one domain's calls have made, and what each adds.
use Rattle.std.specs.Prelude.{◌≡◌, ◌≢◌, ℕ, ◌+◌, List, [], ◌∷◌, ◌++◌, Option, drop, map, slice_get, None, Some}
use Rattle.model_core.specs.declared.command.Command as model
use Rattle.model_core.specs.declared.entry.Entry.{Entry}
use Rattle.model_core.specs.declared.reply.Reply.{Reply}
use Rattle.model_core.specs.declared.state.Sizes.{Sizes}
use Rattle.model_core.specs.Fronts.{IsFrontOf}
use Rattle.model_core.specs.History.{IsPrefix, commands}
use Rattle.heap_rule.specs.Limits.{sizes_in}
use Rattle.heap_rule.specs.Token.{IsIn, SharedHeap}
use Rattle.run_turns.specs.declared.supply.Supply.TheVariants.{Closed, Section}
use Rattle.run_turns.specs.Handed.{Finalised, PerformedOn}
use Rattle.run_turns.specs.Kept.{answers, finalised}
use Rattle.run_turns.specs.Runs.{AddsRan, GoesOn, HasLooked, IsHandedIn, NowAnswers, RunView, Stretches, ran_with, said_with, submitted}

-- the commands that were made, with their replies, and the replies of the finalisers that ran
pub record Ledger : Type 0 where
  pub made : List (model.Command × Reply)
  pub ran : List Reply

abbrev pub no_ledger : Ledger
no_ledger = record { made = []; ran = [] }

abbrev pub one_made : model.Command → Reply → Ledger
one_made c r = record { made = (c, r) ∷ []; ran = [] }

abbrev pub all_ran : List Reply → Ledger
all_ran ran = record { made = []; ran = ran }

abbrev pub made_behind : List Reply → model.Command → Reply → Ledger
made_behind ran c r = record { made = (c, r) ∷ []; ran = ran }

-- what a command that was handed in to be made at once adds: itself with its reply, or nothing where it is put off
abbrev pub now_made : model.Command → Option Reply → Ledger
now_made c (Some r) = one_made c r
now_made c None = no_ledger

-- one behind the other
abbrev pub followed : Ledger → Ledger → Ledger
followed l m = record { made = l.made ++ m.made; ran = l.ran ++ m.ran }

abbrev pub commands_in : Ledger → List model.Command
commands_in l = map (λ (x : model.Command × Reply). x.0) l.made

abbrev pub answers_in : Ledger → List Reply
answers_in l = map (λ (x : model.Command × Reply). x.1) l.made

-- this is what a history has of domain d
pub record IsLedger (z : Sizes) (d : ℕ) (h : List Entry) (l : Ledger) : Type 0 where
  pub commands_are : commands h d ≡ commands_in l
  pub answers_are : answers z h d ≡ answers_in l
  pub ran_are : finalised z h d ≡ l.ran

-- this is what a front has more
pub record Adds (z : Sizes) (d : ℕ) (old new : List Entry) (l : Ledger) : Type 0 where
  pub grows : IsPrefix old new
  pub commands_are : commands new d ≡ commands old d ++ commands_in l
  pub answers_are : answers z new d ≡ answers z old d ++ answers_in l
  pub ran_are : finalised z new d ≡ finalised z old d ++ l.ran

-- how a run tells what its turn added: nothing, the command that it had to make with the reply that it keeps, or the reply of a finaliser
pub data Tells (old new : RunView) (l : Ledger) : Type 0 where
  TellsNothing : l ≡ no_ledger → new.next ≡ old.next → new.replies ≡ old.replies → new.ran ≡ old.ran → Tells old new l
  TellsReply : (c : model.Command) (r : Reply) → l ≡ one_made c r → slice_get old.commands old.next ≡ Some c → new.next ≡ old.next + 1 → new.replies ≡ old.replies ++ r ∷ [] → new.ran ≡ old.ran → Tells old new l
  TellsRan : (r : Reply) → l ≡ all_ran (r ∷ []) → new.next ≡ old.next → new.replies ≡ said_with old.supply old.replies r → new.ran ≡ ran_with old.supply old.ran r → Tells old new l

pub record TurnAdds (z : Sizes) (old new : RunView) : Type 0 where
  pub ledger : Ledger
  pub adds : Adds z old.token.view.own.number old.token.view.seen.front new.token.view.seen.front ledger
  pub told : Tells old new ledger

-- the replies of finalisers in a ledger are those that were taken from a run, and then those that wait there
abbrev pub AreTaken : Ledger → List Reply → RunView → Type 0
AreTaken l taken r = l.ran ≡ taken ++ r.ran

abbrev pub TurnsAdd : Type 0
TurnsAdd = (z : Sizes) (old new : RunView) → old.supply ≢ Section → Stretches z old new → TurnAdds z old new

abbrev pub CommandsAdd : Type 0
CommandsAdd = (z : Sizes) (d : ℕ) (old new : List Entry) (c : model.Command) (ran : List Reply) (r : Reply) → PerformedOn z d old new c ran r → Adds z d old new (made_behind ran c r)

abbrev pub FinalisersAdd : Type 0
FinalisersAdd = (z : Sizes) (d : ℕ) (old new : List Entry) (ran : List Reply) → Finalised z d old new ran → Adds z d old new (all_ran ran)

abbrev pub LedgersFollow : Type 0
LedgersFollow = (z : Sizes) (d : ℕ) (old new : List Entry) (l m : Ledger) → IsLedger z d old l → Adds z d old new m → IsLedger z d new (followed l m)

abbrev pub LedgersStand : Type 0
LedgersStand = (z : Sizes) (d : ℕ) (history front : List Entry) (l : Ledger) → IsLedger z d front l → IsFrontOf d history front → IsLedger z d history l

abbrev pub NowAdds : Type 0
NowAdds = (h : SharedHeap) (old new : RunView) (c : model.Command) (result : Option Reply) → IsIn old.token h → NowAnswers h old new c result → Adds (sizes_in h.config) old.token.view.own.number old.token.view.seen.front new.token.view.seen.front (now_made c result)

abbrev pub RanWaits : Type 0
RanWaits = (z : Sizes) (old new : RunView) (l m : Ledger) (taken : List Reply) → AreTaken l taken old → Adds z old.token.view.own.number old.token.view.seen.front new.token.view.seen.front m → AddsRan z old new → AreTaken (followed l m) taken new

abbrev pub RanTaken : Type 0
RanTaken = (r : RunView) (l : Ledger) (taken : List Reply) (reply : Reply) → AreTaken l taken r → Some reply ≡ slice_get r.ran 0 → AreTaken l (taken ++ reply ∷ []) (record r { ran = drop 1 r.ran })

-- a call of a run but `take_ran`: a turn, a command that is made at once or put off, one that is handed in, a look, or its close
pub data IsCalled (h : SharedHeap) (old new : RunView) : Type 0 where
  ByTurn : GoesOn old new → Stretches (sizes_in h.config) old new → IsCalled h old new
  AtOnce : (c : model.Command) (result : Option Reply) → NowAnswers h old new c result → IsCalled h old new
  ByHand : (c : model.Command) → new ≡ submitted old c → IsCalled h old new
  ByLook : HasLooked old new → IsCalled h old new
  ByClose : new ≡ record old { supply = Closed } → IsCalled h old new

abbrev pub OnlyTakesChange : Type 0
OnlyTakesChange = (h : SharedHeap) (old new : RunView) → IsIn old.token h → IsHandedIn old.supply → IsCalled h old new → AddsRan (sizes_in h.config) old new
