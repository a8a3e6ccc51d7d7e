use Rattle.model_laws.proofs.OfWays.Unled.{unled_is_unreached}
use Rattle.model_laws.proofs.ways.laws.unled_is_unreached.Goals as goal

pub returns : goal.returns
returns c = unled_is_unreached
