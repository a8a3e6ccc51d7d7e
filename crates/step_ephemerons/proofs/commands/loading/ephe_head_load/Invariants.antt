use Rattle.step_ephemerons.specs.Commands.Heads.{EpheHeadTold}
use Rattle.step_ephemerons.proofs.commands.loading.ephe_head_load.Given as goal

abbrev pub ghosts-raw_load : goal.ghosts-raw_load
ghosts-raw_load g a = record { tells = EpheHeadTold a.heap.now.config a.writing.now.at g.entry }
