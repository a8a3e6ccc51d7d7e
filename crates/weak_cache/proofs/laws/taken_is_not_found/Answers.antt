use Rattle.weak_cache.proofs.CountLemmas.{taken_in_calls}
use Rattle.weak_cache.proofs.TakenLemmas.{not_found}
use Rattle.weak_cache.proofs.laws.taken_is_not_found.Goals as goal

pub returns-clause-slots : goal.returns-clause-slots
returns-clause-slots c = not_found

pub returns-clause-calls : goal.returns-clause-calls
returns-clause-calls c = taken_in_calls
