use Rattle.std.proofs.Common.{◌≡◌, ◌≤◌, ◌+◌, ◌++◌, length, map}
use Rattle.std.specs.Prelude.{vec_capacity}
use Rattle.std.specs.List.{AllByRecursion}
use Rattle.std.specs.Vec.Iter.{into_iter_items, into_iter_len}
use Rattle.run_turns.specs.Runs.{IsRun}
use Rattle.camlheap_run.specs.Running.{IsOver, token_of}
use Rattle.camlheap_run.proofs.run.end.domains_of.Given as goal

abbrev pub invariant-runs : goal.invariant-runs
invariant-runs l = record {
  domains : l.domains.items ++ map token_of (into_iter_items l.run-iterator) ≡ map token_of (into_iter_items l.initial.run-iterator);
  over : AllByRecursion IsOver (into_iter_items l.run-iterator);
  faithful : AllByRecursion IsRun (into_iter_items l.run-iterator) → AllByRecursion IsRun (into_iter_items l.initial.run-iterator);
  room : length l.domains.items + length (into_iter_items l.run-iterator) ≤ vec_capacity l.domains;
  len : into_iter_len l.run-iterator ≡ length (into_iter_items l.run-iterator);
}
