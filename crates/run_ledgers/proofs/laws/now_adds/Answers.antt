use Rattle.run_ledgers.proofs.Adding.{now_adds}
use Rattle.run_ledgers.proofs.laws.now_adds.Goals as goal

pub returns : goal.returns
returns c = now_adds
