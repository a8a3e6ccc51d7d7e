use Rattle.model_traces.proofs.OfSchedules.Collecting.{collection_law}
use Rattle.model_traces.proofs.schedules.laws.collections_leave_alike.Goals as goal

pub returns : goal.returns
returns c = collection_law
