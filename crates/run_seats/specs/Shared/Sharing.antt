-- Domains with a share of their heap, as their owners see them.
use Rattle.std.specs.Prelude.{◌≡◌, ◌≢◌, ℕ, ◌+◌, ◌-◌, ◌<◌, List, drop, length, map, Some}
use Rattle.model_core.specs.declared.command.Command.{Command}
use Rattle.model_core.specs.declared.reply.Reply.{Reply}
use Rattle.heap_rule.specs.declared.config.Config.{Config}
use Rattle.heap_rule.specs.Token.{SharedHeap}
use Rattle.run_turns.specs.declared.supply.Supply.TheVariants as supply
use Rattle.run_turns.specs.declared.supply.Supply.TheVariants.{Open}
use Rattle.run_turns.specs.Runs.{RunView, shown_in, submitted}
use Rattle.run_turns.specs.Singly.Driving.{registered}
use Rattle.run_turns.specs.Singly.Opening.{opened_runs}
use Rattle.run_turns.specs.Singly.Refusing.{IsRefused}
use Rattle.run_seats.specs.declared.shared.shared.Refused.{Refused}
use Rattle.run_seats.specs.declared.shared.shared.Refused.TheVariants.{Closed, Busy, Unfit}

-- one of them: its heap, and its run
pub record SharedView : Type 0 where
  pub heap : SharedHeap
  pub run : RunView

-- those of a heap, with these runs
abbrev pub shared_by : SharedHeap → List RunView → List SharedView
shared_by h rs = map (λ (r : RunView). record { heap = h; run = r }) rs

-- they share one heap of this size, each before its first command
pub record ShareOne (k : Config) (views : List SharedView) : Type 0 where
  pub heap : SharedHeap
  pub size : heap.config ≡ k
  pub runs : views ≡ shared_by heap (opened_runs heap)

-- it has this command to make, and forgets the one before and its reply
abbrev pub with_command : SharedView → Command → SharedView
with_command s c = record s { run = submitted s.run c }

-- the oldest of the replies of finalisers that waited was taken
abbrev pub taken_of : SharedView → SharedView
taken_of s = record s { run = record s.run { ran = drop 1 s.run.ran } }

-- it gets no more
abbrev pub closed_of : SharedView → SharedView
closed_of s = record s { run = record s.run { supply = supply.Closed } }

-- the reply that shows what a register holds, by the history as its domain sees it
abbrev pub shown_by : SharedView → ℕ → Reply
shown_by s r = shown_in s.heap.config s.run.token r

-- how many more finalisers can be registered: each takes room until it ran and its reply was taken
abbrev pub finals_left : SharedView → ℕ
finals_left s = s.heap.config.finals - (registered s.run + length s.run.ran)

-- why it takes no command, or not this one: it was closed; the command before isn't done; or this is the first that the command lacks
abbrev pub IsRefusedBy : SharedView → Command → Refused → Type 0
IsRefusedBy s c Closed = s.run.supply ≢ Open
IsRefusedBy s c Busy = (s.run.supply ≡ Open) × (s.run.next < length s.run.commands)
IsRefusedBy s c (Unfit why) = (s.run.supply ≡ Open) × ((s.run.next ≡ length s.run.commands) × IsRefused s.run.token.view.own.ephemerons.room (finals_left s) (4294967295 - s.run.token.view.own.serial) c (Some why))

-- it can be closed: its trace is open, and the last command is done
pub record MayClose (s : SharedView) : Type 0 where
  pub is_open : s.run.supply ≡ Open
  pub done : s.run.next ≡ length s.run.commands

-- why it can't: it was closed before, or the last command isn't done. Nothing else is a reason
abbrev pub IsUnclosedBy : SharedView → Refused → Type 0
IsUnclosedBy s Closed = s.run.supply ≢ Open
IsUnclosedBy s Busy = (s.run.supply ≡ Open) × (s.run.next < length s.run.commands)
IsUnclosedBy s (Unfit why) = ⊥
