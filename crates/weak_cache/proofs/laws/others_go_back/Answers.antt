use Rattle.weak_cache.proofs.LawLemmas.{others_back, others_stay}
use Rattle.weak_cache.proofs.laws.others_go_back.Goals as goal

pub returns-clause-back : goal.returns-clause-back
returns-clause-back c = others_back

pub returns-clause-stay : goal.returns-clause-stay
returns-clause-stay c = others_stay
