use Rattle.std.proofs.Common.{◌≡◌, ◌++◌, length, map}
use Rattle.std.specs.List.{AllByRecursion}
use Rattle.std.specs.Vec.Iter.{into_iter_items, into_iter_len}
use Rattle.camlheap_run.specs.Telling.{IsBlank, run_of}
use Rattle.camlheap_run.proofs.write.tellers.tellers_of.Given as goal

abbrev pub invariant-runs : goal.invariant-runs
invariant-runs l = record {
  runs : map run_of l.tellers.items ++ into_iter_items l.run-iterator ≡ into_iter_items l.initial.run-iterator;
  blank : AllByRecursion (IsBlank l.report) l.tellers.items;
  len : into_iter_len l.run-iterator ≡ length (into_iter_items l.run-iterator);
}
