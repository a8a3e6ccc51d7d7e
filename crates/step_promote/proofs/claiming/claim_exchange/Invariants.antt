use Rattle.step_promote.specs.Claims.{ClaimTold}
use Rattle.step_promote.proofs.claiming.claim_exchange.Given as goal

abbrev pub ghosts-raw_exchange : goal.ghosts-raw_exchange
ghosts-raw_exchange a = record { tells = ClaimTold a.heap.now.config a.writing.now.source a.writing.now.old a.writing.now.class a.writing.now.copy }
