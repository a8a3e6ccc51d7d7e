use Rattle.step_run.specs.Exchange.Exchanges.{ExchangeTold}
use Rattle.step_run.proofs.exchange.exchanging.field_exchange.Given as goal

abbrev pub ghosts-raw_exchange : goal.ghosts-raw_exchange
ghosts-raw_exchange g a = record { tells = ExchangeTold a.heap.now.config g.entry a.writing.now.at a.writing.now.old a.writing.now.remembers a.changes.now }
