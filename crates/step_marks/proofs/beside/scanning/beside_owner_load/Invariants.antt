use Rattle.step_marks.specs.Beside.Marking.{PoolTold}
use Rattle.step_marks.proofs.beside.scanning.beside_owner_load.Given as goal

abbrev pub ghosts-raw_load : goal.ghosts-raw_load
ghosts-raw_load a = record { tells = PoolTold a.writing.now.at a.writing.now.pool }
