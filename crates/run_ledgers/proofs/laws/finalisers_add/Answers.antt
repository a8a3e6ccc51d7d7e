use Rattle.run_ledgers.proofs.Adding.{finalisers_add}
use Rattle.run_ledgers.proofs.laws.finalisers_add.Goals as goal

pub returns : goal.returns
returns c = finalisers_add
