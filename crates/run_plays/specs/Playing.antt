-- A domain that somebody plays: what it has made, and what whoever plays it was told.
use Rattle.std.specs.Prelude.{◌≡◌, ℕ, List, [], ◌∷◌, ◌++◌, length, slice_get, Option, Some, None}
use Rattle.model_core.specs.declared.command.Command as model
use Rattle.model_core.specs.declared.entry.Entry.{Entry}
use Rattle.model_core.specs.declared.reply.Reply.{Reply}
use Rattle.model_core.specs.declared.state.Sizes.{Sizes}
use Rattle.heap_rule.specs.Limits.{sizes_in}
use Rattle.run_turns.specs.declared.supply.Supply.TheVariants.{Open}
use Rattle.run_turns.specs.Runs.{IsHandedIn, RunView}
use Rattle.run_seats.specs.Shared.Sharing.{IsRefusedBy, SharedView, taken_of}
use Rattle.run_ledgers.specs.Ledgers.{IsLedger, Ledger}
use Rattle.run_plays.specs.declared.player.Called.{Called}
use Rattle.run_plays.specs.declared.player.Called.TheVariants.{Made, Waits, Refused}

-- the domain with its share of the heap, the commands that it made with their replies, the finalisers that were told, and the command that it has to make
pub record PlayerView : Type 0 where
  pub shared : SharedView
  pub made : List (model.Command × Reply)
  pub told : List Reply
  pub awaits : Option model.Command

abbrev pub number_of : PlayerView → ℕ
number_of p = p.shared.run.token.view.own.number

abbrev pub front_of : PlayerView → List Entry
front_of p = p.shared.run.token.view.seen.front

abbrev pub sizes_of : PlayerView → Sizes
sizes_of p = sizes_in p.shared.heap.config

-- what its calls have made: of its finalisers those that were told, and then those that wait to be taken
abbrev pub ledger_of : PlayerView → Ledger
ledger_of p = record { made = p.made; ran = p.told ++ p.shared.run.ran }

-- the command that is awaited is the one that was handed in and isn't made; where none is, the run has none to make
abbrev pub IsAt : Option model.Command → RunView → Type 0
IsAt None r = r.next ≡ length r.commands
IsAt (Some c) r = (r.supply ≡ Open) × ((r.commands ≡ c ∷ []) × ((r.next ≡ 0) × (r.replies ≡ [])))

-- a player's front has of its domain just what it was told: its commands, each once and in order, with the replies that were read, and its finalisers
pub record IsPlayed (p : PlayerView) : Type 0 where
  pub ledger : IsLedger (sizes_of p) (number_of p) (front_of p) (ledger_of p)
  pub handed : IsHandedIn p.shared.run.supply
  pub at : IsAt p.awaits p.shared.run

-- what a call changes besides: nothing of the log
pub record Keeps (old new : PlayerView) : Type 0 where
  pub heap : new.shared.heap ≡ old.shared.heap
  pub number : number_of new ≡ number_of old
  pub made : new.made ≡ old.made
  pub told : new.told ≡ old.told

-- the same but one command more, with its reply
pub record Notes (c : model.Command) (r : Reply) (old new : PlayerView) : Type 0 where
  pub heap : new.shared.heap ≡ old.shared.heap
  pub number : number_of new ≡ number_of old
  pub made : new.made ≡ old.made ++ (c, r) ∷ []
  pub told : new.told ≡ old.told
  pub done : new.awaits ≡ None

-- what handing in a command came to: it was made at once, it is awaited, or it wasn't taken
abbrev pub Calls : model.Command → PlayerView → PlayerView → Called → Type 0
Calls c old new (Made r) = Notes c r old new
Calls c old new Waits = Keeps old new × (new.awaits ≡ Some c)
Calls c old new (Refused why) = (new ≡ old) × IsRefusedBy old.shared c why

-- what a turn came to: the command that was awaited was made, or none was
abbrev pub Awaited : PlayerView → PlayerView → Option Reply → Type 0
Awaited old new (Some r) = (c : model.Command) × ((old.awaits ≡ Some c) × Notes c r old new)
Awaited old new None = Keeps old new × (new.awaits ≡ old.awaits)

-- the oldest finaliser that waited was told and waits no more, or none waited and nothing has changed
abbrev pub Takes : PlayerView → PlayerView → Option Reply → Type 0
Takes old new (Some r) = (Some r ≡ slice_get old.shared.run.ran 0) × (new ≡ record old { shared = taken_of old.shared; told = old.told ++ r ∷ [] })
Takes old new None = (new ≡ old) × (old.shared.run.ran ≡ [])
