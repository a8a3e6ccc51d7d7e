use Rattle.weak_cache.proofs.LawLemmas.{cache_bounded}
use Rattle.weak_cache.proofs.laws.caches_are_bounded.Goals as goal

pub returns : goal.returns
returns c = cache_bounded
