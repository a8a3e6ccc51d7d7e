use Rattle.judge_plain.specs.Spawned.Explains.{ExplainsSpawningFront}
use Rattle.judge_plain.proofs.spawned.replay.gives_spawning.Given as goal

abbrev pub invariant-loop-d : goal.invariant-loop-d
invariant-loop-d l = ExplainsSpawningFront l.sizes l.script.sections l.bytes l.history l.behind l.d l.rest
