use Rattle.model_traces.proofs.OfOrders.Calling.{interleaving_law}
use Rattle.model_traces.proofs.orders.laws.each_interleaving_is_scheduled.Goals as goal

pub returns : goal.returns
returns c = interleaving_law
