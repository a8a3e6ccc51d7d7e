use Rattle.gc_mark.proofs.Exchanges.{exchange_may}
use Rattle.gc_mark.proofs.darkening.darken.Goals as goal

pub darken_exchange-requires : goal.darken_exchange-requires
darken_exchange-requires g c = (c.target_load-word.ensures.here, (c.requires.1.0, exchange_may c.args.dom.now.view c.target_load-word.new.dom.view c.args.colours c.args.at c.target_load-word.result c.in_ok-new.new g.reason c.requires.1.1.0 c.requires.1.1.1 c.in_ok-new.ensures.darkened c.target_load-word.ensures.told))
