use Rattle.std.proofs.Common.{◌∙◌, ap}
use Rattle.model_core.specs.declared.reply.Reply.{Reply}
use Rattle.model_core.specs.declared.reply.Applied.TheVariants.{Replied}
use Rattle.step_run.specs.Fields.Ticks.{tick_answer}
use Rattle.step_run.proofs.OfFields.TickSteps.{quiet_answer}
use Rattle.do_fields.proofs.OfFields.Doing.{entered_did}
use Rattle.run_turns.proofs.command.quiet_as.Goals as goal

pub returns-clause-did : goal.returns-clause-did
returns-clause-did g c =
    entered_did _ _ _ _ g.entry _ _ _ _ c.requires.0 (ap tick_answer c.requires.0 ∙ ap (λ (r : Reply). Replied r) (quiet_answer c.args._command.now c.requires.1.1)) c.requires.1.0 c.tick.ensures.here c.tick.ensures.entered
