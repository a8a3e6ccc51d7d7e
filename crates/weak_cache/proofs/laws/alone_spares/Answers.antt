use Rattle.weak_cache.proofs.LawLemmas.{alone_spares}
use Rattle.weak_cache.proofs.laws.alone_spares.Goals as goal

pub returns : goal.returns
returns c = alone_spares
