use Rattle.std.proofs.Common.{sym, ap, ◌∙◌, Bool}
use Rattle.model_traces.specs.Spawns.Expansion.{spawn_commands}
use Rattle.judge_plain.proofs.OfSpawned.StepLemmas.{if_some_to, spawns}
use Rattle.judge_plain.proofs.spawned.expansion.behind_spawn.Goals as goal

pub returns-then-held_something : goal.returns-then-held_something
returns-then-held_something c =
    if_some_to _ _ c.behind_commands.result
    (λ rest begins. spawns c.args.section c.args.item c.spawned_with.result c.args.steps.now rest.now c.in_ok-first.field-0-1.now c.in_ok-first.first.now c.in_ok-first.ensures.cases.0 begins
    (c.spawned_with.ensures ∙ ap (λ (b : Bool). spawn_commands b c.args.section c.args.item) (sym c.if-held_something.true ∙ c.held_something.ensures)))
    c.behind_commands.ensures

pub returns-else-held_something : goal.returns-else-held_something
returns-else-held_something c =
    if_some_to _ _ c.behind_commands-else-held_something.result
    (λ rest begins. spawns c.args.section c.args.item c.spawned_without.result c.args.steps.now rest.now c.in_ok-first.field-0-1.now c.in_ok-first.first.now c.in_ok-first.ensures.cases.0 begins
    (c.spawned_without.ensures ∙ ap (λ (b : Bool). spawn_commands b c.args.section c.args.item) (sym c.if-held_something.false ∙ c.held_something.ensures)))
    c.behind_commands-else-held_something.ensures
