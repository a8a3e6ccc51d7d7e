use Rattle.judge_plain.proofs.OfSpawned.StepLemmas.{if_some_to, joins}
use Rattle.judge_plain.proofs.spawned.expansion.behind_join.Goals as goal

pub returns : goal.returns
returns c =
    if_some_to _ _ c.behind_commands.result
    (λ rest begins. joins c.args.dst c.args.section c.joined.result c.args.steps.now c.in_ok-rest.rest.now rest.now c.in_ok-rest.ensures c.joined.ensures begins) c.behind_commands.ensures
