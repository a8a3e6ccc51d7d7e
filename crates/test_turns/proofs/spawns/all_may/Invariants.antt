use Rattle.std.proofs.Common.{All, take}
use Rattle.test_turns.specs.Sections.{MayStand}
use Rattle.test_turns.proofs.spawns.all_may.Given as goal

abbrev pub invariant-loop-command : goal.invariant-loop-command
invariant-loop-command l = All (MayStand l.number) (take l.command-index l.commands)
