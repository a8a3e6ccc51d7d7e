use Rattle.model_laws.proofs.OfHistories.HeldLemmas.{held_law}
use Rattle.model_laws.proofs.histories.laws.held_blocks_are_there.Goals as goal

pub returns : goal.returns
returns c = held_law
