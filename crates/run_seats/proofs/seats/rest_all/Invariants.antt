use Rattle.std.proofs.Common.{◌≡◌, ◌+◌, ◌++◌, ◌<◌, ◌≤◌, length, map}
use Rattle.std.specs.Prelude.{vec_capacity}
use Rattle.std.specs.List.{AllByRecursion}
use Rattle.std.specs.Vec.Iter.{into_iter_items, into_iter_len}
use Rattle.run_seats.specs.Shared.Idling.{IsIdleIn}
use Rattle.run_seats.specs.Seating.{seat_with}
use Rattle.run_seats.proofs.seats.rest_all.Given as goal

abbrev pub invariant-runs : goal.invariant-runs
invariant-runs g l = record {
  maker : l.maker ≡ record l.fn.maker { next = l.number };
  resting : l.resting.items ++ map (seat_with l.pool) (into_iter_items l.run-iterator) ≡ map (seat_with l.pool) (into_iter_items l.initial.run-iterator);
  idle : AllByRecursion (IsIdleIn l.heap) (into_iter_items l.run-iterator);
  len : into_iter_len l.run-iterator ≡ length (into_iter_items l.run-iterator);
  few : l.number + length (into_iter_items l.run-iterator) ≤ 9;
  room : length l.resting.items + length (into_iter_items l.run-iterator) < vec_capacity l.resting;
}
