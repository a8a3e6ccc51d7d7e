use Rattle.std.proofs.Common.{rules}
use Rattle.judge_plain.proofs.OfSpawned.StepLemmas.{makes_more}
use Rattle.judge_plain.proofs.spawned.expansion.behind_commands.Goals as goal

pub loop-command-preserved : goal.loop-command-preserved
loop-command-preserved c =
    makes_more c.args.commands.now c.loop-command.command-index _ c.args.steps.now c.loop-command.rest.now c.in_ok-first.behind.now c.in_ok-first.first.now c.loop-command-test.true (search rules)
    c.loop-command.invariant c.in_ok-first.ensures.cases.0 (c.is.ensures.0 (search rules))
