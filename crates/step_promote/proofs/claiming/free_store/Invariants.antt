use Rattle.step_promote.specs.Claims.{FreedTold}
use Rattle.step_promote.proofs.claiming.free_store.Given as goal

abbrev pub ghosts-raw_store : goal.ghosts-raw_store
ghosts-raw_store a = record { tells = FreedTold a.writing.now.pool a.writing.now.class a.writing.now.slot }
