use Rattle.std.proofs.Common.{◌≡◌, take, drop}
use Rattle.heap_picture.specs.Plays.{Plays}
use Rattle.heap_picture.specs.Steps.{played}
use Rattle.heap_picture.proofs.play.play.Given as goal

abbrev pub invariant-loop-command : goal.invariant-loop-command
invariant-loop-command l = record {
  plays : Plays l.initial.heap l.heap (take l.command-index l.commands);
  state : played l.heap (drop l.command-index l.commands) ≡ played l.initial.heap l.commands;
}
