use Rattle.std.proofs.Common.{◌≡◌, ◌≤◌, fold, length, map, max, take}
use Rattle.text_script.specs.Schedule.Drive.Pausing.{lefts}
use Rattle.text_script.proofs.schedule.drive.replaying.rounds_of.Given as goal

abbrev pub invariant-domains : goal.invariant-domains
invariant-domains g l = (l.most ≡ fold max 0 (take l.at (map length (lefts (g.T.TogetherRuns.seen l.runs))))) × (l.most ≤ 200000)
