use Rattle.text_script.proofs.OfSpawned.Reading.{join}
use Rattle.text_script.proofs.spawned.law.scripts_join.Goals as goal

pub returns : goal.returns
returns c = join
