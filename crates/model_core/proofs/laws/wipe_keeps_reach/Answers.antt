use Rattle.model_core.proofs.Collections.WipeLemmas.{wipe_keeps_reach}
use Rattle.model_core.proofs.laws.wipe_keeps_reach.Goals as goal

pub returns : goal.returns
returns c = wipe_keeps_reach
