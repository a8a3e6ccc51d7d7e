use Rattle.weak_cache.proofs.CountLemmas.{used_found as law, used_in_calls as calls_law}
use Rattle.weak_cache.proofs.laws.used_last_is_found.Goals as goal

pub returns-clause-uses : goal.returns-clause-uses
returns-clause-uses c = law

pub returns-clause-calls : goal.returns-clause-calls
returns-clause-calls c = calls_law
