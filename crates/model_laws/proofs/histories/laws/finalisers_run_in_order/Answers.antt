use Rattle.model_laws.proofs.OfHistories.OrderLemmas.{order_law}
use Rattle.model_laws.proofs.histories.laws.finalisers_run_in_order.Goals as goal

pub returns : goal.returns
returns c = order_law
