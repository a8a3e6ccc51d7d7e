use Rattle.step_pools.specs.Listings.{EmptiedTold}
use Rattle.step_pools.proofs.listing.listed_clear.Given as goal

abbrev pub ghosts-raw_store : goal.ghosts-raw_store
ghosts-raw_store a = record { tells = EmptiedTold }
