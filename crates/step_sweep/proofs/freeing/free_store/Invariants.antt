use Rattle.step_sweep.specs.Freeing.{FreeTold}
use Rattle.step_sweep.proofs.freeing.free_store.Given as goal

abbrev pub ghosts-raw_store : goal.ghosts-raw_store
ghosts-raw_store a = record { tells = FreeTold a.writing.now.pool a.writing.now.class a.writing.now.slot }
