use Rattle.run_turns.proofs.GoingLemmas.{calm_run}
use Rattle.run_turns.proofs.turns.turn_running.Goals as goal

pub returns-clause-answer : goal.returns-clause-answer
returns-clause-answer c = calm_run c.args.heap.now c.args.run.now c.find_wants.new.run c.go_on.new.run c.find_wants.result c.go_on.result c.find_wants.ensures.run c.if-find_wants-ne0.false c.go_on.ensures.answer
