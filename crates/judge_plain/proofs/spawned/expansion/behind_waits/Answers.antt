use Rattle.std.proofs.Common.{rules, ◌∙◌}
use Rattle.std.specs.Prelude.{pos}
use Rattle.judge_plain.proofs.OfSpawned.StepLemmas.{early_last, early_more}
use Rattle.judge_plain.proofs.spawned.expansion.behind_waits.Goals as goal

pub waiting-preserved : goal.waiting-preserved
waiting-preserved c =
    early_more c.args.section (pos c.args.until) c.args.steps.now c.waiting.rest.now c.in_ok-first.behind.now c.in_ok-first.first.now c.waiting.invariant c.in_ok-first.ensures.cases.0
    (c.is.ensures.0 (search rules) ∙ c.awaited-load.ensures) (search rules)

pub returns-then-answers : goal.returns-then-answers
returns-then-answers c =
    early_last c.args.section (pos c.args.until) c.args.steps.now c.waiting.rest.now c.in_ok-first.behind.now c.in_ok-first.first.now c.waiting.invariant c.in_ok-first.ensures.cases.0
    (c.is.ensures.0 (search rules) ∙ c.awaited-load.ensures) (search rules)
