use Rattle.step_pools.specs.Listings.{ListedAsTold}
use Rattle.step_pools.proofs.listing.listed_store.Given as goal

abbrev pub ghosts-raw_store : goal.ghosts-raw_store
ghosts-raw_store a = record { tells = ListedAsTold }
