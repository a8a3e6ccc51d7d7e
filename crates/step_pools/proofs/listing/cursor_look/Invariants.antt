use Rattle.step_pools.specs.Listings.{CursorLookTold}
use Rattle.step_pools.proofs.listing.cursor_look.Given as goal

abbrev pub ghosts-raw_load : goal.ghosts-raw_load
ghosts-raw_load a = record { tells = CursorLookTold a.heap.now.config a.writing.now.count }
