use Rattle.weak_cache.proofs.LawLemmas.{put_found}
use Rattle.weak_cache.proofs.laws.put_is_found.Goals as goal

pub returns : goal.returns
returns c = put_found
