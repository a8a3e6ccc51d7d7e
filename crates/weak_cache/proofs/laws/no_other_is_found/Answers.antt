use Rattle.weak_cache.proofs.LawLemmas.{no_other}
use Rattle.weak_cache.proofs.laws.no_other_is_found.Goals as goal

pub returns : goal.returns
returns c = no_other
