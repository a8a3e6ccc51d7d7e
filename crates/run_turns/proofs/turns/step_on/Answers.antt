use Rattle.std.proofs.Common.{subst}
use Rattle.run_turns.specs.Runs.{RunView, CalmAnswers}
use Rattle.run_turns.proofs.turns.step_on.Goals as goal

pub returns-in-Some-clause-answer : goal.returns-in-Some-clause-answer
returns-in-Some-clause-answer c = subst (λ (r : RunView). CalmAnswers c.args.heap.now r c.take_command.new.run c.take_command.result) (c.runs_finaliser.ensures.same c.if-runs_finaliser.false) c.take_command.ensures.answer
