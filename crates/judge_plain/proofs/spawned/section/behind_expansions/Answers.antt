use Rattle.std.proofs.Common.{rules}
use Rattle.judge_plain.proofs.OfSpawned.StepLemmas.{expands_more}
use Rattle.judge_plain.proofs.spawned.section.behind_expansions.Goals as goal

pub loop-command-preserved : goal.loop-command-preserved
loop-command-preserved c =
    expands_more c.args.d c.args.commands.now c.loop-command.command-index _ c.args.steps.now c.loop-command.rest.now c.in_ok-rest.rest.now c.loop-command-test.true (search rules) c.loop-command.invariant c.in_ok-rest.ensures
