use Rattle.weak_cache.proofs.LawLemmas.{get_keeps}
use Rattle.weak_cache.proofs.laws.get_keeps.Goals as goal

pub returns : goal.returns
returns c = get_keeps
