use Rattle.std.specs.Prelude.{◌≡◌, IfOk, length}
use Rattle.std.specs.List.{AllByRecursion}
use Rattle.std.specs.Vec.Iter.{into_iter_items, into_iter_len}
use Rattle.run_seats.specs.Seating.{AllSeatsOf, IsSeatOf}
use Rattle.test_heap.proofs.seats.eight.end_all.Given as goal

abbrev pub invariant-loop-player : goal.invariant-loop-player
invariant-loop-player g l = record {
  left : AllByRecursion (λ o. IfOk o (λ p. IsSeatOf l.seats p.resting)) (into_iter_items l.player-iterator);
  len : into_iter_len l.player-iterator ≡ length (into_iter_items l.player-iterator);
  all : AllSeatsOf l.seats l.all.items;
}
