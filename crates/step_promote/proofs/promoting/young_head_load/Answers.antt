use Rattle.step_promote.specs.Promotion.{HeadMet}
use Rattle.step_promote.proofs.Meets.{head_may, head_met_own, head_met_front}
use Rattle.heap_rule.proofs.Closes.{front_same, leaves_closes}
use Rattle.step_promote.proofs.promoting.young_head_load.Goals as goal

pub raw_load-requires-clause-may : goal.raw_load-requires-clause-may
raw_load-requires-clause-may c = head_may c.args.heap.now.config c.args.dom.now.view c.index_of-index.result c.args.at c.index_of-index.ensures c.requires.may

pub raw_load-requires-clause-closes : goal.raw_load-requires-clause-closes
raw_load-requires-clause-closes c = λ found. leaves_closes c.args.heap.now.config c.args.dom.now.view found (HeadMet c.args.heap.now.config c.args.at) (λ y told. head_met_own c.args.heap.now.config c.args.at c.args.dom.now.view found y told) (λ y told. front_same c.args.dom.now.view y (head_met_front c.args.heap.now.config c.args.at c.args.dom.now.view found y told))
