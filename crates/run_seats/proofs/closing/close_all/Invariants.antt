use Rattle.std.proofs.Common.{◌≡◌, ◌≤◌, ◌+◌, ◌++◌, List, length}
use Rattle.std.specs.Prelude.{vec_capacity}
use Rattle.std.specs.Vec.Iter.{into_iter_items, into_iter_len}
use Rattle.run_seats.specs.declared.closing.Closing.{Closing}
use Rattle.run_seats.specs.Stopping.{AreClosedFrom}
use Rattle.run_seats.proofs.closing.close_all.Given as goal

abbrev pub invariant-seats : goal.invariant-seats
invariant-seats l = record {
  closed : (rest : List Closing) → AreClosedFrom (into_iter_items l.seat-iterator) rest → AreClosedFrom (into_iter_items l.initial.seat-iterator) (l.closing.items ++ rest);
  room : length l.closing.items + length (into_iter_items l.seat-iterator) ≤ vec_capacity l.closing;
  len : into_iter_len l.seat-iterator ≡ length (into_iter_items l.seat-iterator);
}
