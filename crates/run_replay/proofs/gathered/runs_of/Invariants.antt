use Rattle.std.proofs.Common.{◌≡◌, ◌≤◌, ◌+◌, ◌++◌, Some, length, map}
use Rattle.std.specs.Prelude.{vec_capacity}
use Rattle.std.specs.List.{AllByRecursion}
use Rattle.std.specs.Vec.Iter.{into_iter_items, into_iter_len}
use Rattle.run_replay.specs.Ends.{IsThere}
use Rattle.run_replay.proofs.gathered.runs_of.Given as goal

abbrev pub invariant-slots : goal.invariant-slots
invariant-slots l = record {
  runs : map Some l.runs.items ++ into_iter_items l.slot-iterator ≡ into_iter_items l.initial.slot-iterator;
  there : AllByRecursion IsThere (into_iter_items l.slot-iterator);
  room : length l.runs.items + length (into_iter_items l.slot-iterator) ≤ vec_capacity l.runs;
  len : into_iter_len l.slot-iterator ≡ length (into_iter_items l.slot-iterator);
}
