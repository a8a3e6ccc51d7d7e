use Rattle.text_script.proofs.OfSpawned.Fitting.{spelled_fits, same_spawned}
use Rattle.text_script.proofs.spawned.law.spawns_fit.Goals as goal

pub returns-clause-fits : goal.returns-clause-fits
returns-clause-fits c = λ domains script read. spelled_fits read.newest domains script read.bytes read.spelled read.third

pub returns-clause-spawned : goal.returns-clause-spawned
returns-clause-spawned c = same_spawned
