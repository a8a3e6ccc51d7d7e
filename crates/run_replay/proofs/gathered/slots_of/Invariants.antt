use Rattle.std.proofs.Common.{◌≡◌, ◌≤◌, ◌+◌, ◌++◌, Some, length, map}
use Rattle.std.specs.Prelude.{vec_capacity}
use Rattle.std.specs.List.{AllByRecursion}
use Rattle.std.specs.Vec.Iter.{into_iter_items, into_iter_len}
use Rattle.run_turns.specs.Runs.{IsRun}
use Rattle.run_replay.proofs.gathered.slots_of.Given as goal

abbrev pub invariant-runs : goal.invariant-runs
invariant-runs l = record {
  slots : l.slots.items ++ map Some (into_iter_items l.run-iterator) ≡ map Some (into_iter_items l.initial.run-iterator);
  are : AllByRecursion IsRun (into_iter_items l.run-iterator) → AllByRecursion IsRun (into_iter_items l.initial.run-iterator);
  room : length l.slots.items + length (into_iter_items l.run-iterator) ≤ vec_capacity l.slots;
  len : into_iter_len l.run-iterator ≡ length (into_iter_items l.run-iterator);
}
