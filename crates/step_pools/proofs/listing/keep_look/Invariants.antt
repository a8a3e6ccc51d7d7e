use Rattle.step_pools.specs.Listings.{KeepLookTold}
use Rattle.step_pools.proofs.listing.keep_look.Given as goal

abbrev pub ghosts-raw_load : goal.ghosts-raw_load
ghosts-raw_load a = record { tells = KeepLookTold a.heap.now.config a.writing.now.count }
