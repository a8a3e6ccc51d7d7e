use Rattle.step_sweep.specs.Freeing.{SweepTold}
use Rattle.step_sweep.proofs.freeing.sweep_load.Given as goal

abbrev pub ghosts-raw_load : goal.ghosts-raw_load
ghosts-raw_load a = record { tells = SweepTold a.writing.now.pool a.writing.now.class a.writing.now.slot a.writing.now.garbage }
