use Rattle.std.proofs.Common.{ℕ, ◌+◌, subst}
use Rattle.model_core.specs.declared.command.Command.TheVariants.{Load}
use Rattle.do_spawn.specs.Expanding.{MakesOne}
use Rattle.do_spawn.proofs.Making.{made_one, number_of_registers}
use Rattle.do_spawn.proofs.values.argument.Goals as goal

pub returns-clause-makes : goal.returns-clause-makes
returns-clause-makes c =
    subst (λ (n : ℕ). MakesOne c.args.heap.now c.args.dom.now c.load.new.dom (Load c.args.dst 15 (8 + n)) c.load.result) c.number-section.ensures.value
    (made_one _ _ _ _ _ c.load.ensures.did (λ e. cc) (number_of_registers _ _ c.load.ensures.rest))
