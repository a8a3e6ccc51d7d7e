use Rattle.std.proofs.Common.{◌≡◌, ◌≤◌, ◌+◌, ◌++◌, length, map}
use Rattle.std.specs.Prelude.{vec_capacity}
use Rattle.std.specs.Vec.Iter.{into_iter_items, into_iter_len}
use Rattle.camlheap_run.specs.Telling.{run_of}
use Rattle.camlheap_run.proofs.write.tellers.runs_of.Given as goal

abbrev pub invariant-tellers : goal.invariant-tellers
invariant-tellers l = record {
  runs : l.runs.items ++ map run_of (into_iter_items l.teller-iterator) ≡ map run_of (into_iter_items l.initial.teller-iterator);
  room : length l.runs.items + length (into_iter_items l.teller-iterator) ≤ vec_capacity l.runs;
  len : into_iter_len l.teller-iterator ≡ length (into_iter_items l.teller-iterator);
}
