use Rattle.judge_plain.proofs.OfSpawned.PreludeLemmas.{loads_more}
use Rattle.judge_plain.proofs.spawned.prelude.behind_loads.Goals as goal

pub loop-d-preserved : goal.loop-d-preserved
loop-d-preserved c = loads_more c.loop-d.d c.args.history.now c.loop-d.rest.now c.in_ok-rest.rest.now c.loop-d.auto.d c.loop-d.invariant c.in_ok-rest.ensures
