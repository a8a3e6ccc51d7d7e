-- What the calls on one run leave of the runs of a heap.
use Rattle.std.specs.Prelude.{◌≡◌, ◌≢◌, ◌⊎◌, ◌<◌, ◌≤◌, ℕ, Bool, true, false, List, length, slice_get, slice_set, Option, Some}
use Rattle.model_core.specs.declared.command.Command.TheVariants.{FullMajor}
use Rattle.model_core.specs.Domains.{domain_at}
use Rattle.heap_rule.specs.declared.config.Config.{Config}
use Rattle.heap_rule.specs.declared.phase.Kind.TheVariants.{Run}
use Rattle.heap_rule.specs.Phases.{Pause}
use Rattle.heap_rule.specs.Rule.{state_of}
use Rattle.heap_rule.specs.Token.{SharedHeap, IsIn}
use Rattle.gc_pause.specs.declared.phases.decider.Decider.TheVariants.{Caller}
use Rattle.step_pauses.specs.Pauses.{arrived_view}
use Rattle.run_turns.specs.declared.turned.Turned as turned
use Rattle.run_turns.specs.declared.turned.Turned.TheVariants.{Did}
use Rattle.run_turns.specs.Meeting.{StandsBehind}
use Rattle.run_turns.specs.Runs.{RunView, CalmAnswers, IsRun, PassesOn}
use Rattle.text_script.specs.declared.schedule.drive.together.Stepped.{Stepped}
use Rattle.text_script.specs.declared.schedule.drive.together.Stepped.TheVariants.{Ran, Made, Needs}
use Rattle.text_script.specs.Schedule.Drive.Together.{IsRested}
use Rattle.run_replay.specs.Gathered.{HasRun, one_run}
use Rattle.run_replay.specs.Leveled.{Leveled}

-- the run at a place has become another, which is of the heap too, and the others are as they were
pub record Becomes (h : SharedHeap) (old new : List (Option RunView)) (at : ℕ) (r s : RunView) : Type 0 where
  pub was : HasRun old at r
  pub here : IsIn s.token h
  pub is : IsRun s
  pub runs : new ≡ slice_set old at (Some s)

-- a run that forgets that its next command may be answered `full`
abbrev pub forgetting : RunView → RunView
forgetting r = record r { collected = false }

-- all domains met, and then this came about
pub record MetThen (old : List (Option RunView)) (Then : Pause → List (Option RunView) → Type 0) : Type 0 where
  pub mid : List (Option RunView)
  pub leveled : Leveled old mid
  pub moved : Then leveled.pause mid

-- the domain at a place made a step in the pause, which domain 0 leads as it is told, and stood in it still behind its look at the barrier
pub record PassesAt (h : SharedHeap) (complete : Bool) (pause : Pause) (old new : List (Option RunView)) (at : ℕ) : Type 0 where
  pub run : RunView
  pub passed : RunView
  pub passes : PassesOn h (Caller complete) run passed Did
  pub stands : StandsBehind h (Caller complete) pause run passed passes
  pub is_passed : IsRun passed
  pub commands : passed.commands ≡ run.commands
  pub supply : passed.supply ≡ run.supply
  pub number : passed.token.view.own.number ≡ run.token.view.own.number
  pub becomes : Becomes h old new at run (forgetting passed)

-- the domain at a place has arrived no more often than another one
abbrev pub IsSooner : List (Option RunView) → ℕ → ℕ → Type 0
IsSooner runs at other = (r s : RunView) → HasRun runs at r → HasRun runs other s → r.token.view.own.arrivals ≤ s.token.view.own.arrivals

-- the run of a domain that has arrived
abbrev pub halted_run : RunView → RunView
halted_run r = record r { token = record r.token { view = arrived_view r.token.view }; left = Some Run; collected = false }

-- the domain at a place has arrived
pub record HaltsAt (h : SharedHeap) (old new : List (Option RunView)) (at : ℕ) : Type 0 where
  pub run : RunView
  pub becomes : Becomes h old new at run (halted_run run)

-- those before a place have arrived
pub record HaltsUpto (h : SharedHeap) (old new : List (Option RunView)) (upto : ℕ) : Type 0 where
  pub count : length new ≡ length old
  pub stay : (d : ℕ) → d < length old → (r : RunView) × HasRun new d r
  pub halted : (d : ℕ) (s : RunView) → d < upto → HasRun new d s → (r : RunView) × HasRun old d r × (s ≡ halted_run r) × IsIn s.token h × IsRun s
  pub others : (d : ℕ) → (d < upto → ⊥) → slice_get new d ≡ slice_get old d

-- what a step came to, by what is seen of the run behind it: the place of its next command and its number of replies before are known
abbrev pub CameTo : Config → RunView → ℕ → ℕ → Stepped → Type 0
CameTo k s next count Made = (s.next ≢ next) ⊎ (s.ended ≡ true)
CameTo k s next count Ran = (s.next ≡ next) × (s.ended ≡ false) × (length s.replies ≢ count)
CameTo k s next count (Needs complete) = (s.next ≡ next) × (s.ended ≡ false) × (length s.replies ≡ count) × ((complete ≡ true) → slice_get s.commands s.next ≡ Some FullMajor) × ((complete ≡ false) → slice_get s.commands s.next ≡ Some FullMajor → ⊥)
    × (length (domain_at (state_of k s.token.view.seen.front) s.token.view.own.number).queue ≡ length s.token.view.own.finalisers.queue.items)

-- the domain at a place made a step, while it runs. Once a pause for which it asked has come, no command asks for another one without a complete collection
pub record StepsAt (h : SharedHeap) (old new : List (Option RunView)) (at : ℕ) (stepped : Stepped) : Type 0 where
  pub run : RunView
  pub made : RunView
  pub answer : turned.Turned
  pub calm : CalmAnswers h run made answer
  pub came : CameTo h.config made run.next (length run.replies) stepped
  pub once : stepped ≡ Needs false → IsRested (one_run run) → (one_run run).asked ≡ false
  pub becomes : Becomes h old new at run made
