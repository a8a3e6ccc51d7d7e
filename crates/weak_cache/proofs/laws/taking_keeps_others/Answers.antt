use Rattle.weak_cache.proofs.TakenLemmas.{taking_keeps}
use Rattle.weak_cache.proofs.laws.taking_keeps_others.Goals as goal

pub returns : goal.returns
returns c = taking_keeps
