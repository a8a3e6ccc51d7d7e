-- What the clauses of a step in a replay refuse.
use Rattle.std.proofs.Common.{◌≢◌, ◌∙◌, ℕ, List, Option, Some, ap}
use Rattle.std.specs.Prelude.{slice_get}
use Rattle.model_core.specs.declared.entry.Entry.{Entry}
use Rattle.heap_rule.specs.Meeting.{Trails}
use Rattle.heap_rule.specs.Token.{SharedHeap}
use Rattle.run_turns.specs.Runs.{AsksFull, RunView}
use Rattle.text_script.specs.declared.schedule.drive.together.Stepped.{Stepped}
use Rattle.run_replay.specs.Asking.{AskFew}
use Rattle.run_replay.specs.Gathered.{HasRun}
use Rattle.run_replay.specs.Leveled.{AllHere}
use Rattle.run_replay.specs.Moves.{StepsAt}
use Rattle.run_replay.proofs.Ample.{never_refused}
use Rattle.run_replay.proofs.Places.{set_else, set_here}
use Rattle.run_replay.proofs.SlotLemmas.{inside}

-- no allocation of a replay is refused, where the runs may still share a history
pub no_allocation_is_refused : (h : SharedHeap) (old new : List (Option RunView)) (at : ℕ) (stepped : Stepped) → AllHere h old → AskFew h old → (p : StepsAt h old new at stepped)
    → (history : List Entry) → ((d : ℕ) (r : RunView) → HasRun new d r → Trails history r.token.view) → AsksFull h p.run.token p.run p.made → ⊥
no_allocation_is_refused h old new at stepped all few p history shares =
    let b = p.becomes in
    let put : (d : ℕ) (q : RunView) → d ≢ at → HasRun old d q → HasRun new d q = λ d q away there. ap (λ (rs : List (Option RunView)). slice_get rs d) b.runs ∙ (set_else old at d (Some p.made) away ∙ there) in
    let here : HasRun new at p.made = ap (λ (rs : List (Option RunView)). slice_get rs at) b.runs ∙ set_here old at (Some p.made) (inside old at (Some p.run) b.was) in
    never_refused h old at p.run p.made all few b.was b.is (λ d q away there. (history, shares d q (put d q away there), shares at p.made here))
