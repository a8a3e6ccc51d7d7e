-- How often domains arrive in a replay.
use Rattle.std.specs.Prelude.{◌≡◌, ◌≤◌, ◌⊎◌, ◌+◌, ◌*◌, ℕ, Bool, true, false, List, [], ◌∷◌, length, slice_index_or}
use Rattle.model_core.specs.declared.command.Command.{Command}
use Rattle.model_core.specs.declared.command.Command.TheVariants.{FullMajor}
use Rattle.model_traces.specs.declared.schedules.items.Item.{Item}
use Rattle.model_traces.specs.Schedules.Scheduled.{rounds_of}
use Rattle.text_script.specs.Schedule.Drive.Pausing.{askeds, lefts}
use Rattle.text_script.specs.Schedule.Drive.Together.{AllRuns}

-- how often a domain arrives in a pause at most
abbrev pub most_in_pause : ℕ
most_in_pause = 67108864

-- and in a turn: it has one pause without a complete collection at most, and one with
abbrev pub most_in_turn : ℕ
most_in_turn = 134217728

-- and in a round of so many domains
abbrev pub most_in_round : ℕ → ℕ
most_in_round domains = domains * most_in_turn

-- and in the items of a schedule and the rounds that come behind them
abbrev pub most_in_replay : AllRuns → List Item → ℕ
most_in_replay v items = length items * most_in_turn + rounds_of (lefts v) * most_in_round (length v.runs)

-- whether domain d has asked for a pause
abbrev pub asked_at : AllRuns → ℕ → Bool
asked_at v d = slice_index_or (askeds v) d false

-- its next command is no `full_major`
abbrev pub IsShort : AllRuns → ℕ → Type 0
IsShort v d = (others : List Command) → slice_index_or (lefts v) d [] ≡ FullMajor ∷ others → ⊥

-- a step of its turn in which no pause was made, or in which it asked for one that was made, by how often the domains might arrive before and behind it
abbrev pub SpendsFor : Bool → Bool → ℕ → ℕ → Type 0
SpendsFor asked asks old new = ((asks ≡ asked) × (old ≤ new)) ⊎ ((asked ≡ false) × (asks ≡ true) × (old ≤ new + most_in_pause))

-- so far a pause was made in the turn only where the domain has asked for one
abbrev pub SpentInTurn : Bool → ℕ → ℕ → Type 0
SpentInTurn false old new = old ≤ new
SpentInTurn true old new = old ≤ new + most_in_pause
