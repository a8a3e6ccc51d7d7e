use Rattle.text_script.proofs.OfSpawned.Reading.{fronts}
use Rattle.text_script.proofs.spawned.law.fronts_tell.Goals as goal

pub returns : goal.returns
returns c = fronts
