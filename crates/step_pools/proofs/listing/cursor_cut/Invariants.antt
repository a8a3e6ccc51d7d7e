use Rattle.step_pools.specs.Listings.{CursorCutTold}
use Rattle.step_pools.proofs.listing.cursor_cut.Given as goal

abbrev pub ghosts-raw_store : goal.ghosts-raw_store
ghosts-raw_store a = record { tells = CursorCutTold }
