use Rattle.step_marks.proofs.OfMarking.LookSteps.{colours_may}
use Rattle.step_marks.proofs.OfMarking.Plain.{colours_closes}
use Rattle.step_marks.proofs.marking.looking.colours_load.Goals as goal

pub raw_load-requires-clause-may : goal.raw_load-requires-clause-may
raw_load-requires-clause-may c = colours_may c.args.heap.now.config c.args.dom.now.view c.requires.acts

pub raw_load-requires-clause-closes : goal.raw_load-requires-clause-closes
raw_load-requires-clause-closes c = λ found. colours_closes c.args.heap.now.config c.args.dom.now.view found
