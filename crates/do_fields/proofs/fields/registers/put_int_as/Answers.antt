use Rattle.std.proofs.Common.{ap}
use Rattle.step_run.specs.Fields.Ticks.{tick_answer}
use Rattle.do_fields.proofs.OfFields.Doing.{entered_did}
use Rattle.do_fields.proofs.fields.registers.put_int_as.Goals as goal

pub returns-clause-did : goal.returns-clause-did
returns-clause-did g c = entered_did _ _ _ _ g.entry _ _ _ _ c.requires.0 (ap tick_answer c.requires.0) c.requires.1.0 c.tick.ensures.here c.tick.ensures.entered
