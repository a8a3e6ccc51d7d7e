use Rattle.do_fields.proofs.OfDarkening.Exchanges.{exchange_may}
use Rattle.do_fields.proofs.darkening.darkening.darken_beside.Goals as goal

pub beside_darken-requires : goal.beside_darken-requires
beside_darken-requires g c = (c.beside_target_load-word.ensures.here, (c.requires.1.0, exchange_may c.args.heap.now.config c.args.dom.now.view c.beside_target_load-word.new.dom.view c.args.colours c.args.at c.beside_target_load-word.result c.in-Some.new g.reason c.requires.1.1.0 c.requires.1.1.1 c.in-Some.ensures.darkened c.beside_target_load-word.ensures.told))
