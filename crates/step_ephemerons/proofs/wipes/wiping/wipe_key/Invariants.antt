use Rattle.step_ephemerons.specs.Wipes.Wiping.{WipeKeyTold}
use Rattle.step_ephemerons.proofs.wipes.wiping.wipe_key.Given as goal

abbrev pub ghosts-raw_store : goal.ghosts-raw_store
ghosts-raw_store a = record { tells = WipeKeyTold }
