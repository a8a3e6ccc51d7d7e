use Rattle.std.proofs.Common.{◌≡◌, List, All, take, take_all, subst, arith}
use Rattle.std.proofs.lemmas.List.Elements.{All-more}
use Rattle.model_core.specs.declared.command.Command.{Command}
use Rattle.test_turns.specs.Sections.{MayStand}
use Rattle.test_turns.proofs.spawns.all_may.Goals as goal

pub loop-command-preserved : goal.loop-command-preserved
loop-command-preserved c = All-more (MayStand c.args.number) c.args.commands.now c.loop-command.command-index _ c.loop-command-test.true c.loop-command.invariant (c.may_stand.ensures c.if-not-may_stand.false)

pub returns-clause-all : goal.returns-clause-all
returns-clause-all c = λ _.
    let whole : take c.loop-command.command-index c.args.commands.now ≡ c.args.commands.now = take_all _ _ (omega arith) in
    subst (λ (cs : List Command). All (MayStand c.args.number) cs) whole c.loop-command.invariant
