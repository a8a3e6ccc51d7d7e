use Rattle.run_ledgers.proofs.Adding.{ledgers_stand}
use Rattle.run_ledgers.proofs.laws.ledgers_stand.Goals as goal

pub returns : goal.returns
returns c = ledgers_stand
