use Rattle.model_laws.proofs.OfWays.Led.{led_is_reached}
use Rattle.model_laws.proofs.ways.laws.led_is_reached.Goals as goal

pub returns : goal.returns
returns c = led_is_reached
