use Rattle.run_ledgers.proofs.Adding.{ran_waits}
use Rattle.run_ledgers.proofs.laws.ran_waits.Goals as goal

pub returns : goal.returns
returns c = ran_waits
