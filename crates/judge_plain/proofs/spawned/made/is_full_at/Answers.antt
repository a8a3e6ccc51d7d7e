use Rattle.std.proofs.Common.{sym, ◌∙◌, ap}
use Rattle.model_core.specs.Commands.{is_full_value}
use Rattle.judge_plain.proofs.OfSpawned.StepLemmas.{holds_nothing, holds_value}
use Rattle.judge_plain.proofs.spawned.made.is_full_at.Goals as goal

pub returns-in_default : goal.returns-in_default
returns-in_default c = sym (holds_nothing c.args.held.now c.args.place (sym c.at.ensures ∙ c.in_default.is))

pub returns : goal.returns
returns c = c.is_full.ensures ∙ ap is_full_value (sym (holds_value c.args.held.now c.args.place c.in-Some.value (sym c.at.ensures ∙ c.in-Some.is)))
