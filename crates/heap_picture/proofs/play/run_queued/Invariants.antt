use Rattle.std.proofs.Common.{◌≡◌, []}
use Rattle.heap_picture.specs.Plays.{Plays}
use Rattle.heap_picture.specs.Steps.{ran_times}
use Rattle.heap_picture.proofs.play.run_queued.Given as goal

abbrev pub invariant-loop-i : goal.invariant-loop-i
invariant-loop-i l = record {
  plays : Plays l.initial.heap l.heap [];
  state : l.heap ≡ ran_times l.initial.heap l._i;
}
