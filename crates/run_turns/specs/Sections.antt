-- How a run stands in its section of a script with spawns.
use Rattle.std.specs.Prelude.{◌≡◌, ℕ, ◌<◌, ℤ, pos, Bool, true, false, Option, Some, None, List, ◌++◌, take, slice_get}
use Rattle.model_core.specs.declared.command.Command.{Command}
use Rattle.model_core.specs.declared.command.Command.TheVariants.{Spawn, Argument, PutResult, Join}
use Rattle.model_core.specs.declared.entry.Entry.{Entry}
use Rattle.model_core.specs.declared.reply.Reply.{Reply}
use Rattle.model_core.specs.Domains.{opening}
use Rattle.model_core.specs.History.{state_after}
use Rattle.heap_rule.specs.declared.config.Config.{Config}
use Rattle.heap_rule.specs.Limits.{sizes_in}
use Rattle.model_traces.specs.Spawns.Hidden.{prelude}
use Rattle.model_traces.specs.Spawns.Expansion.{AreFitting, steps_from}
use Rattle.model_traces.specs.Spawns.Printed.{printed_replies}
use Rattle.model_traces.specs.Spawns.Progress as progress
use Rattle.model_traces.specs.Spawns.Progress.{IsSoFar}
use Rattle.run_turns.specs.declared.place.Place.{Place}
use Rattle.run_turns.specs.declared.place.Place.TheVariants.{AsEver, Before, Behind}
use Rattle.run_turns.specs.declared.supply.Supply.{Supply}
use Rattle.run_turns.specs.declared.supply.Supply.TheVariants.{Section}
use Rattle.run_turns.specs.Tries.{FitsHeap}

-- whether a spawn begins the section
abbrev pub is_spawned_at : Place → Bool
is_spawned_at AsEver = false
is_spawned_at place = true

-- whether its start isn't seen yet, it makes its commands, or it has told its end
abbrev pub place_in : Place → progress.Place
place_in Before = progress.Before
place_in Behind = progress.Behind
place_in place = progress.Within

-- a section that is over has told its end, if a spawn began it
abbrev pub IsTold : Place → Type 0
IsTold AsEver = Unit {0}
IsTold Behind = Unit {0}
IsTold place = ⊥

-- none of the four commands that stand for several others
abbrev pub IsOrdinary : Command → Type 0
IsOrdinary (Spawn section item) = ⊥
IsOrdinary (Argument dst) = ⊥
IsOrdinary (PutResult item) = ⊥
IsOrdinary (Join dst section) = ⊥
IsOrdinary c = Unit {0}

-- one of the three of them that are made in one turn
abbrev pub IsSingle : Command → Type 0
IsSingle (Spawn section item) = Unit {0}
IsSingle (Argument dst) = Unit {0}
IsSingle (PutResult item) = Unit {0}
IsSingle c = ⊥

-- how many words they may have to remember
abbrev pub words_for : Command → ℕ
words_for (Spawn section item) = 2
words_for (PutResult item) = 1
words_for c = 0

-- a command that runs on the shared heap, or one of the four, with its numbers in their ranges
abbrev pub FitsSection : Command → Type 0
FitsSection (Spawn section item) = (section < 8) × (item < 14)
FitsSection (Argument dst) = dst < 14
FitsSection (PutResult item) = item < 14
FitsSection (Join dst section) = (dst < 14) × (section < 8)
FitsSection c = FitsHeap c

-- the four stand in sections of scripts with spawns alone
abbrev pub FitsIn : Supply → Command → Type 0
FitsIn Section c = FitsSection c
FitsIn supply c = FitsHeap c

-- each command does
abbrev pub AllFitIn : Supply → List Command → Type 0
AllFitIn supply cs = (i : ℕ) (c : Command) → slice_get cs i ≡ Some c → FitsIn supply c

-- The domain's part of the history begins with the entries by which the hidden block is made, and behind them its steps are those of its section so far. The replies are those that the section prints.
pub record IsInSection (k : Config) (d : ℕ) (front : List Entry) (place : Place) (commands : List Command) (next : ℕ) (replies : List Reply) : Type 0 where
  pub behind : List Entry
  pub begins : front ≡ prelude k.domains ++ behind
  pub so_far : IsSoFar d (is_spawned_at place) (place_in place) (take next commands) (slice_get commands next) (steps_from (state_after (opening (sizes_in k)) (prelude k.domains)) behind d)
  pub printed : printed_replies (sizes_in k) front d ≡ replies
  pub fitting : AreFitting d commands
  pub inside : d < 8

-- the section whose flag a turn looks at: the domain's own where its start isn't seen yet, and else that of a join which is next
abbrev pub awaited : Place → ℕ → Option Command → Option ℕ
awaited Before d next = Some d
awaited place d (Some (Join dst section)) = Some section
awaited place d next = None

-- and the number that it waits for
abbrev pub awaited_flag : Place → ℤ
awaited_flag Before = pos 1
awaited_flag place = pos 2
