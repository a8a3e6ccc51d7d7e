use Rattle.std.proofs.Common.{◌<◌, true, ℕ}
use Rattle.text_script.specs.Schedule.Drive.Together.{Has}
use Rattle.text_script.proofs.schedule.drive.pausing.all_run.Given as goal

abbrev pub invariant-domains : goal.invariant-domains
invariant-domains g l = (d : ℕ) → d < l.at → Has (λ x. x.runs) true (g.T.TogetherRuns.seen l.runs) d
