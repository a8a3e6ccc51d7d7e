-- What the runs of a replay have so that a `full_major` that has asked for a pause is answered in it.
use Rattle.std.specs.Prelude.{◌≡◌, ◌≢◌, ◌⊎◌, ℕ, Bool, true, false, List, [], slice_get, Option, Some, None}
use Rattle.model_core.specs.declared.command.Command.TheVariants.{FullMajor}
use Rattle.heap_rule.specs.declared.phase.Kind.{Kind}
use Rattle.heap_rule.specs.declared.phase.Kind.TheVariants.{Run, Answer}
use Rattle.heap_rule.specs.Phases.{IsEven, IsOdd}
use Rattle.run_turns.specs.Runs.{RunView, is_asked}
use Rattle.gc_pause.specs.Laws.Ties.{Tied}

-- the next command is a `full_major`, for which the run has asked for a pause
pub record WaitsAt (r : RunView) : Type 0 where
  pub next : slice_get r.commands r.next ≡ Some FullMajor
  pub wished : is_asked r.asked ≡ true

-- domain d has gone through the phase in which a collection is answered: domain 0 may have named since then that the domains run
abbrev pub IsBehindAnswer : ℕ → ℕ → Option Kind → Type 0
IsBehindAnswer d arrivals left = ((d ≢ 0) × (left ≡ Some Answer)) ⊎ ((d ≡ 0) × (((left ≡ Some Answer) × IsOdd arrivals) ⊎ ((left ≡ Some Run) × IsEven arrivals)))

-- a run that waits owes no finaliser, and none waits in its queue but where a complete collection is made. Behind the answer of one it waits no more
pub record Serves (complete : Bool) (d : ℕ) (r : RunView) : Type 0 where
  pub paid : WaitsAt r → r.due ≡ 0
  pub unqueued : (r.left ≡ None) ⊎ (complete ≡ false) → WaitsAt r → r.token.view.own.finalisers.queue.items ≡ []
  pub answered : complete ≡ true → IsBehindAnswer d r.token.view.own.arrivals r.left → WaitsAt r → ⊥

-- where a complete collection is made domain 0 names that the domains run behind the phase alone in which it is answered
abbrev pub AllTied : Bool → List (Option RunView) → Type 0
AllTied complete runs = complete ≡ true → (d : ℕ) (r first : RunView) → d ≢ 0 → slice_get runs d ≡ Some (Some r) → slice_get runs 0 ≡ Some (Some first)
    → Tied first.token.view.own.arrivals first.left r.token.view.own.arrivals r.left
