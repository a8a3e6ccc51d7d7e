use Rattle.judge_plain.proofs.OfSpawned.StepLemmas.{if_some_to, sections}
use Rattle.judge_plain.proofs.spawned.section.behind_section_steps.Goals as goal

pub returns : goal.returns
returns c =
    if_some_to _ _ c.behind_spawned_finish.result
    (λ rest begins. sections c.args.d c.args.spawned c.args.commands.now c.args.steps.now c.in_ok-rest.rest.now c.in_ok-rest-2.rest.now rest.now c.in_ok-rest.ensures c.in_ok-rest-2.ensures begins) c.behind_spawned_finish.ensures
