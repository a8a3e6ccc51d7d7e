use Rattle.std.proofs.Common.{◌≡◌, []}
use Rattle.heap_picture.specs.Plays.{Plays}
use Rattle.heap_picture.specs.Steps.{wiped_upto}
use Rattle.heap_picture.proofs.collect.wipe_keys.Given as goal

abbrev pub invariant-loop-place : goal.invariant-loop-place
invariant-loop-place l = record {
  plays : Plays l.initial.heap l.heap [];
  state : l.heap ≡ wiped_upto l.fates l.initial.heap l.place;
}
