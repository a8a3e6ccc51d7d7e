use Rattle.step_run.proofs.OfExchange.Plain.{exchange_closes, exchange_fits}
use Rattle.step_run.proofs.OfExchange.ExchangeSteps.{exchange_may}
use Rattle.step_run.proofs.exchange.exchanging.field_exchange.Goals as goal

pub raw_exchange-requires-clause-may : goal.raw_exchange-requires-clause-may
raw_exchange-requires-clause-may g c =
    exchange_may c.args.heap.now.config c.index_of-index.result c.args.dom.now.view c.args.at c.args.old c.args.new c.args.remembers g.entry c.args.changes.now c.index_of-index.ensures c.requires.1.1

pub raw_exchange-requires-clause-closes : goal.raw_exchange-requires-clause-closes
raw_exchange-requires-clause-closes g c =
    exchange_closes c.args.heap.now.config c.args.dom.now.view c.args.at c.args.old c.args.remembers g.entry c.args.changes.now c.requires.1.0
    (exchange_fits c.args.heap.now.config c.args.dom.now.view c.args.at c.args.old c.args.new c.args.remembers c.args.changes.now g.entry c.requires.1.1)
