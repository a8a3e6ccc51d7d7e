-- How many turns the traces have left.
use Rattle.std.specs.Prelude.{◌≡◌, ◌≢◌, ◌≤◌, ◌<◌, ◌⊎◌, ◌+◌, ◌*◌, ℕ, Bool, true, false, List, [], length, map, slice_index_or}
use Rattle.model_core.specs.declared.command.Command.{Command}
use Rattle.text_script.specs.Schedule.Drive.Pausing.{askeds, endeds, lefts}
use Rattle.text_script.specs.Schedule.Drive.Together.{AllRuns}

-- a trace that hasn't ended has one left for each command, and one for its end
abbrev pub turns_of : Bool → List Command → ℕ
turns_of true left = 0
turns_of false left = length left + 1

-- those that the trace of domain d has left
abbrev pub turns_at : AllRuns → ℕ → ℕ
turns_at v d = turns_of (slice_index_or (endeds v) d true) (slice_index_or (lefts v) d [])

-- none has more left than so many
abbrev pub AllWithin : ℕ → AllRuns → Type 0
AllWithin n v = (d : ℕ) → turns_at v d ≤ n

-- none has more left than before
abbrev pub NoneMore : AllRuns → AllRuns → Type 0
NoneMore old new = (d : ℕ) → turns_at new d ≤ turns_at old d

-- domain d has taken one of its own, if any was left, and no other has
pub record TakesOne (old new : AllRuns) (d : ℕ) : Type 0 where
  pub fewer : (n : ℕ) → turns_at old d ≤ n + 1 → turns_at new d ≤ n
  pub others : (e : ℕ) → e ≢ d → turns_at new e ≡ turns_at old e

-- a trace whose next command may still ask for a pause
abbrev pub asks_of : Bool → ℕ
asks_of true = 0
asks_of false = 1

-- the turns that are left of the trace of domain d, and whether the next one may still ask
abbrev pub rank_at : AllRuns → ℕ → ℕ
rank_at v d = turns_at v d * 2 + asks_of (slice_index_or (askeds v) d false)

-- how many finalisers wait in its queue
abbrev pub waiting_at : AllRuns → ℕ → ℕ
waiting_at v d = slice_index_or (map (λ x. x.waiting) v.runs) d 0

-- a step has brought its turn nearer to the end: the pause for which it may ask was made, or a finaliser has run
abbrev pub Nears : AllRuns → AllRuns → ℕ → Type 0
Nears old new d = (rank_at new d < rank_at old d) ⊎ ((rank_at new d ≡ rank_at old d) × (waiting_at new d < waiting_at old d))
