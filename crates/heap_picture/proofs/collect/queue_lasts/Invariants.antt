use Rattle.std.proofs.Common.{◌≡◌, []}
use Rattle.heap_picture.specs.Plays.{Plays}
use Rattle.heap_picture.specs.Steps.{lasts_queued_from, with_lasts_queued}
use Rattle.heap_picture.proofs.collect.queue_lasts.Given as goal

abbrev pub invariant-loop-place : goal.invariant-loop-place
invariant-loop-place l = record {
  plays : Plays l.initial.heap l.heap [];
  state : lasts_queued_from l.fates l.heap l.place ≡ with_lasts_queued l.fates l.initial.heap;
}

abbrev pub decreases-loop-place : goal.decreases-loop-place
decreases-loop-place l = l.place
