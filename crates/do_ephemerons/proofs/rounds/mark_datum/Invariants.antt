use Rattle.step_marks.specs.Marking.Marking.{OfDatum}
use Rattle.do_ephemerons.proofs.rounds.mark_datum.Given as goal

abbrev pub ghost-darken : goal.ghost-darken
ghost-darken a = OfDatum
