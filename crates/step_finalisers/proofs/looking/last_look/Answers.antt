use Rattle.step_finalisers.proofs.Looks.{last_look_may}
use Rattle.step_finalisers.proofs.PlainLooks.{last_look_closes}
use Rattle.step_finalisers.proofs.looking.last_look.Goals as goal

pub raw_load-requires-clause-may : goal.raw_load-requires-clause-may
raw_load-requires-clause-may c = last_look_may c.args.heap.now.config c.args.dom.now.view c.index_of-index.result c.args.at c.args.i c.args.marked c.args.registered c.index_of-index.ensures c.requires.may

pub raw_load-requires-clause-closes : goal.raw_load-requires-clause-closes
raw_load-requires-clause-closes c = λ found. last_look_closes c.args.heap.now.config c.args.dom.now.view found c.args.at c.args.i c.args.marked c.args.registered c.requires.may
