use Rattle.std.proofs.Common.{length}
use Rattle.run_joined.proofs.together.+meet_below.Given as goal

abbrev pub decreases-meet_below : goal.decreases-meet_below
decreases-meet_below l = length l.runs.now.items
