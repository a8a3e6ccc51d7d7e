use Rattle.run_ledgers.proofs.Adding.{commands_add}
use Rattle.run_ledgers.proofs.laws.commands_add.Goals as goal

pub returns : goal.returns
returns c = commands_add
