use Rattle.step_pools.specs.Listings.{LookedTold}
use Rattle.step_pools.proofs.listing.owner_look.Given as goal

abbrev pub ghosts-raw_load : goal.ghosts-raw_load
ghosts-raw_load a = record { tells = LookedTold }
