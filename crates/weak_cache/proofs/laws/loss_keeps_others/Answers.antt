use Rattle.weak_cache.proofs.LawLemmas.{loss_keeps}
use Rattle.weak_cache.proofs.laws.loss_keeps_others.Goals as goal

pub returns : goal.returns
returns c = loss_keeps
