use Rattle.do_spawn.proofs.Making.{made_one, number_of_registers}
use Rattle.do_spawn.proofs.flags.flag_is.Goals as goal

pub returns-clause-looks : goal.returns-clause-looks
returns-clause-looks c = record {
  answer = c.load.result;
  makes = made_one _ _ _ _ _ c.load.ensures.did (λ e. cc) (number_of_registers _ _ c.load.ensures.rest);
  told = c.is_awaited.ensures;
}
