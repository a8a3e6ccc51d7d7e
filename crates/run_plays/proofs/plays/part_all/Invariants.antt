use Rattle.std.proofs.Common.{◌≡◌, ◌+◌, ◌≤◌, ◌++◌, length, map}
use Rattle.std.specs.Prelude.{vec_capacity}
use Rattle.std.specs.Vec.Iter.{into_iter_items, into_iter_len}
use Rattle.run_plays.specs.Plays.{AreLogsOf, run_seat, seat_of}
use Rattle.run_plays.proofs.plays.part_all.Given as goal

abbrev pub invariant-loop-chair : goal.invariant-loop-chair
invariant-loop-chair g l = record {
  seats : map run_seat l.runs.items ++ map (λ c. seat_of c.player) (into_iter_items l.chair-iterator) ≡ map (λ c. seat_of c.player) (into_iter_items l.initial.chair-iterator);
  logs : AreLogsOf l.logs.items l.runs.items;
  len : into_iter_len l.chair-iterator ≡ length (into_iter_items l.chair-iterator);
  room_runs : length l.runs.items + length (into_iter_items l.chair-iterator) ≤ vec_capacity l.runs;
  room_logs : length l.logs.items + length (into_iter_items l.chair-iterator) ≤ vec_capacity l.logs;
}
