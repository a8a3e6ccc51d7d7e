use Rattle.step_marks.specs.Marking.Marking.{ChangedTold}
use Rattle.step_marks.proofs.marking.scanning.changed_store.Given as goal

abbrev pub ghosts-raw_store : goal.ghosts-raw_store
ghosts-raw_store a = record { tells = ChangedTold }
