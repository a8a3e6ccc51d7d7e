use Rattle.judge_plain.specs.History.Explains.{ExplainsFront}
use Rattle.judge_plain.proofs.history.replay.gives.Given as goal

abbrev pub invariant-loop-d : goal.invariant-loop-d
invariant-loop-d l = ExplainsFront l.sizes l.script.sections l.bytes l.history l.d l.rest
