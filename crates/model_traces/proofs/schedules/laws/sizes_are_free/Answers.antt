use Rattle.model_traces.proofs.OfSchedules.Resizing.{sizes_law}
use Rattle.model_traces.proofs.schedules.laws.sizes_are_free.Goals as goal

pub returns : goal.returns
returns c = sizes_law
