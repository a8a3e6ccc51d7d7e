use Rattle.std.proofs.Common.{◌≡◌, ◌+◌, ◌≤◌, ◌++◌, length, map}
use Rattle.std.specs.Prelude.{vec_capacity}
use Rattle.std.specs.Vec.Iter.{into_iter_items, into_iter_len}
use Rattle.run_plays.specs.Plays.{AreNew, run_seat, seat_of}
use Rattle.run_plays.proofs.plays.seat_all.Given as goal

abbrev pub invariant-loop-run : goal.invariant-loop-run
invariant-loop-run g l = record {
  seats : map (λ c. seat_of c.player) l.chairs.items ++ map run_seat (into_iter_items l.run-iterator) ≡ map run_seat (into_iter_items l.initial.run-iterator);
  new : AreNew (into_iter_items l.run-iterator);
  len : into_iter_len l.run-iterator ≡ length (into_iter_items l.run-iterator);
  clients : length l.clients.items ≡ length (into_iter_items l.run-iterator);
  room : length l.chairs.items + length (into_iter_items l.run-iterator) ≤ vec_capacity l.chairs;
}
