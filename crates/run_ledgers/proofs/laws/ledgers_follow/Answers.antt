use Rattle.run_ledgers.proofs.Adding.{ledgers_follow}
use Rattle.run_ledgers.proofs.laws.ledgers_follow.Goals as goal

pub returns : goal.returns
returns c = ledgers_follow
