use Rattle.run_ledgers.proofs.Adding.{ran_taken}
use Rattle.run_ledgers.proofs.laws.ran_taken.Goals as goal

pub returns : goal.returns
returns c = ran_taken
