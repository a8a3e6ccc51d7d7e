use Rattle.std.proofs.Common.{ℕ, ◌+◌, subst}
use Rattle.model_core.specs.declared.command.Command.TheVariants.{Store}
use Rattle.do_spawn.specs.Expanding.{MakesOne}
use Rattle.do_spawn.proofs.Making.{made_one, number_of_remembered}
use Rattle.do_spawn.proofs.values.put_result.Goals as goal

pub returns-clause-makes : goal.returns-clause-makes
returns-clause-makes c =
    subst (λ (n : ℕ). MakesOne c.args.heap.now c.args.dom.now c.store.new.dom (Store 15 (16 + n) c.args.item) c.store.result) c.number-section.ensures.value
    (made_one _ _ _ _ _ c.store.ensures.did (λ e. cc) (number_of_remembered _ _ c.store.ensures.remembers.rest))
