use Rattle.run_ledgers.proofs.Adding.{only_takes_change}
use Rattle.run_ledgers.proofs.laws.only_takes_change.Goals as goal

pub returns : goal.returns
returns c = only_takes_change
