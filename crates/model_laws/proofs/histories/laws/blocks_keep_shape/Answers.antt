use Rattle.model_laws.proofs.OfHistories.HeldLemmas.{shape_law}
use Rattle.model_laws.proofs.histories.laws.blocks_keep_shape.Goals as goal

pub returns : goal.returns
returns c = shape_law
