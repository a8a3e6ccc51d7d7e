use Rattle.step_marks.specs.Marking.Changed.{ForgetTold}
use Rattle.step_marks.proofs.marking.changed.changed_clear.Given as goal

abbrev pub ghosts-raw_store : goal.ghosts-raw_store
ghosts-raw_store a = record { tells = ForgetTold }
