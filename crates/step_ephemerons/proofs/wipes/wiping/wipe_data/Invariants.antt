use Rattle.step_ephemerons.specs.Wipes.Wiping.{WipeDataTold}
use Rattle.step_ephemerons.proofs.wipes.wiping.wipe_data.Given as goal

abbrev pub ghosts-raw_store : goal.ghosts-raw_store
ghosts-raw_store a = record { tells = WipeDataTold a.heap.now.config }
