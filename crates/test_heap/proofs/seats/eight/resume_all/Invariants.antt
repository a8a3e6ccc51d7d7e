use Rattle.std.specs.Prelude.{◌≡◌, length}
use Rattle.std.specs.Vec.Iter.{into_iter_items, into_iter_len}
use Rattle.run_seats.specs.Seating.{AllSeatsOf}
use Rattle.test_heap.proofs.seats.eight.resume_all.Given as goal

abbrev pub invariant-loop-resting : goal.invariant-loop-resting
invariant-loop-resting g l = record {
  left : AllSeatsOf l.seats (into_iter_items l.resting-iterator);
  len : into_iter_len l.resting-iterator ≡ length (into_iter_items l.resting-iterator);
  back : AllSeatsOf l.seats l.back.items;
}
