-- Where a domain stands whose trace and all others have ended.
use Rattle.std.proofs.Common.{◌≡◌, ◌∙◌, Option, None, ap, subst, ⊎_elim}
use Rattle.heap_rule.specs.declared.phase.Kind.{Kind}
use Rattle.heap_rule.specs.declared.phase.Kind.TheVariants.{Run}
use Rattle.heap_rule.specs.declared.phase.Stage.TheVariants.{In}
use Rattle.heap_rule.specs.Token.{SharedHeap}
use Rattle.run_turns.specs.declared.turned.Turned.TheVariants.{Ended}
use Rattle.run_turns.specs.Runs.{RunView, IsRun, Starts, StandsAt, Resumes, TurnAnswers}

started_running : (h : SharedHeap) (old start : RunView) → Starts h old start → start.left ≡ None
started_running h old start starts = ⊎_elim
    (λ (s : (old.left ≡ None) × (start ≡ old)). ap (λ (r : RunView). r.left) s.1 ∙ s.0)
    (λ (s : Resumes h old start). ap (λ (r : RunView). r.left) s.run)
    starts

-- it runs
pub ended_running : (h : SharedHeap) (old new : RunView) → TurnAnswers h old new Ended → IsRun new → new.token.view.seen.stage ≡ In Run
ended_running h old new answer is =
    let left : new.left ≡ None = ap (λ (r : RunView). r.left) answer.2.run ∙ started_running h old answer.0 answer.1 in
    subst (λ (l : Option Kind). StandsAt l new.token.view.seen.stage) left is.between.stands
