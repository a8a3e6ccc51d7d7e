use Rattle.run_turns.proofs.ExactLemmas.{one_answer}
use Rattle.run_turns.proofs.StretchLemmas.{turn_stretches}
use Rattle.run_turns.proofs.turns.turn.Goals as goal

pub returns-clause-exact : goal.returns-clause-exact
returns-clause-exact c = λ other says. one_answer c.args.heap.now c.args.run.now c.turn_on.new.run c.turn_on.result other c.turn_on.ensures.answer says

pub returns-clause-stretch : goal.returns-clause-stretch
returns-clause-stretch c = turn_stretches c.args.heap.now c.args.run.now c.turn_on.new.run c.turn_on.result c.requires.here c.turn_on.ensures.answer
