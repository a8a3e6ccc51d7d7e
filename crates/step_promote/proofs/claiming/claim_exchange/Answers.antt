use Rattle.step_promote.proofs.ClaimSteps.{claim_may, claim_closes}
use Rattle.step_promote.proofs.claiming.claim_exchange.Goals as goal

pub raw_exchange-found-requires-clause-may : goal.raw_exchange-found-requires-clause-may
raw_exchange-found-requires-clause-may c = claim_may c.args.heap.now.config c.args.dom.now.view c.index_of-index.result c.args.at c.args.old c.args.new c.args.class c.args.copy c.index_of-index.ensures c.requires.may

pub raw_exchange-found-requires-clause-closes : goal.raw_exchange-found-requires-clause-closes
raw_exchange-found-requires-clause-closes c = λ found. claim_closes c.args.heap.now.config c.args.dom.now.view found c.args.at c.args.old c.args.new c.args.class c.args.copy c.requires.may
