use Rattle.std.proofs.Common.{◌-◌, length}
use Rattle.run_turns.proofs.meeting.+bring.Given as goal

abbrev pub decreases-bring : goal.decreases-bring
decreases-bring l = length l.others.now - l.from
