use Rattle.weak_cache.proofs.AfterLemmas.{commands_spare}
use Rattle.weak_cache.proofs.laws.other_commands_spare.Goals as goal

pub returns : goal.returns
returns c = commands_spare
