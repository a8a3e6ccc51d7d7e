use Rattle.judge_plain.proofs.OfSpawned.StepLemmas.{if_some_to, makes_itself}
use Rattle.judge_plain.proofs.spawned.expansion.behind_expansion.Goals as goal

pub returns-in_default : goal.returns-in_default
returns-in_default c =
    if_some_to _ _ c.behind_commands-in_default.result
    (λ rest begins. makes_itself c.args.d c.args.command c.args.steps.now rest.now c.in_default.not-Spawn c.in_default.not-Join c.in_default.not-Argument c.in_default.not-PutResult begins) c.behind_commands-in_default.ensures
