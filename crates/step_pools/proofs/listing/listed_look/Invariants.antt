use Rattle.step_pools.specs.Listings.{CountedTold}
use Rattle.step_pools.proofs.listing.listed_look.Given as goal

abbrev pub ghosts-raw_load : goal.ghosts-raw_load
ghosts-raw_load a = record { tells = CountedTold a.heap.now.config }
