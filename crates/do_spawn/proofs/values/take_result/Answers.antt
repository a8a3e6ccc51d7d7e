use Rattle.do_spawn.proofs.Making.{made_one, number_of_registers}
use Rattle.do_spawn.proofs.values.take_result.Goals as goal

pub returns-clause-makes : goal.returns-clause-makes
returns-clause-makes c = made_one _ _ _ _ _ c.load.ensures.did (λ e. cc) (number_of_registers _ _ c.load.ensures.rest)
