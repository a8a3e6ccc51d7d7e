use Rattle.model_traces.proofs.OfOrders.Scheduling.{turns_law}
use Rattle.model_traces.proofs.orders.laws.turns_are_scheduled.Goals as goal

pub returns : goal.returns
returns c = turns_law
