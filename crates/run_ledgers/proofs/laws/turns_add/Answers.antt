use Rattle.run_ledgers.proofs.Adding.{turns_add}
use Rattle.run_ledgers.proofs.laws.turns_add.Goals as goal

pub returns : goal.returns
returns c = turns_add
