use Rattle.std.proofs.Common.{ap}
use Rattle.step_run.specs.Fields.Ticks.{tick_answer}
use Rattle.run_turns.proofs.Trying.{refuses}
use Rattle.run_turns.proofs.command.full_as.Goals as goal

pub returns-clause-refuses : goal.returns-clause-refuses
returns-clause-refuses g c = refuses _ _ _ _ g.entry _ _ _ _ c.requires.0 (ap tick_answer c.requires.0) c.requires.1.0 c.tick.ensures.here c.tick.ensures.entered
