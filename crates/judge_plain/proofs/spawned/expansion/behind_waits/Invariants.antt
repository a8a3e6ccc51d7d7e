use Rattle.std.specs.Prelude.{pos}
use Rattle.judge_plain.specs.Spawned.Parts.{BeginsWith, IsEarly}
use Rattle.judge_plain.proofs.spawned.expansion.behind_waits.Given as goal

abbrev pub invariant-waiting : goal.invariant-waiting
invariant-waiting l = BeginsWith (IsEarly l.section (pos l.until)) l.steps l.rest
