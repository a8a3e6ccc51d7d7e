use Rattle.model_cycle.proofs.Pooling.{pools_law}
use Rattle.model_cycle.proofs.laws.pools_hold_kept_blocks.Goals as goal

pub returns : goal.returns
returns c = pools_law
