use Rattle.std.proofs.Common.{◌≡◌, ◌++◌, length, map}
use Rattle.std.specs.Vec.Iter.{into_iter_items, into_iter_len}
use Rattle.camlheap_c.proofs.starting.boxed.Given as goal

abbrev pub invariant-runs : goal.invariant-runs
invariant-runs l = record {
  boxes : map (λ b. b.value) l.boxes.items ++ into_iter_items l.run-iterator ≡ into_iter_items l.initial.run-iterator;
  len : into_iter_len l.run-iterator ≡ length (into_iter_items l.run-iterator);
}
