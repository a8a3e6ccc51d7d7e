use Rattle.weak_tables.proofs.SmallLemmas.{small_law}
use Rattle.weak_tables.proofs.laws.buckets_stay_small.Goals as goal

pub returns : goal.returns
returns c = small_law
