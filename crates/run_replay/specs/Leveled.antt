-- What a meeting leaves of the runs of a heap.
use Rattle.std.specs.Prelude.{◌≡◌, ◌<◌, ℕ, List, length, Option}
use Rattle.model_core.specs.declared.entry.Entry.{Entry}
use Rattle.heap_rule.specs.Meeting.{TakesPart}
use Rattle.heap_rule.specs.Phases.{Pause}
use Rattle.heap_rule.specs.Token.{SharedHeap, IsIn}
use Rattle.run_turns.specs.Runs.{RunView, IsRun, run_seeing}
use Rattle.run_replay.specs.Gathered.{HasRun}

-- a run is at each place, and each is of the heap
pub record AllHere (h : SharedHeap) (runs : List (Option RunView)) : Type 0 where
  pub filled : (d : ℕ) → d < length runs → (r : RunView) × HasRun runs d r
  pub here : (d : ℕ) (r : RunView) → HasRun runs d r → IsIn r.token h
  pub are : (d : ℕ) (r : RunView) → HasRun runs d r → IsRun r

-- a run whose domain took part in a meeting, and saw its history
pub record SawAll (history : List Entry) (pause : Pause) (old new : RunView) : Type 0 where
  pub part : TakesPart history pause old.token.view
  pub is : new ≡ run_seeing old history

-- all domains have met: each has seen one history, and all stand in one pause
pub record Leveled (old new : List (Option RunView)) : Type 0 where
  pub history : List Entry
  pub pause : Pause
  pub count : length new ≡ length old
  pub more : (d : ℕ) (r : RunView) → HasRun new d r → (q : RunView) × HasRun old d q × SawAll history pause q r
  pub stay : (d : ℕ) → d < length old → (r : RunView) × HasRun new d r
  pub are : (d : ℕ) (r : RunView) → HasRun new d r → IsRun r
