use Rattle.std.proofs.Common.{◌≡◌, ◌++◌, length}
use Rattle.std.specs.List.{AllByRecursion}
use Rattle.std.specs.Vec.Iter.{into_iter_items, into_iter_len}
use Rattle.heap_rule.specs.Token.{IsIn}
use Rattle.run_turns.specs.Runs.{RunView}
use Rattle.run_seats.specs.Shared.Sharing.{shared_by}
use Rattle.run_seats.proofs.shared.making.share_all.Given as goal

abbrev pub invariant-runs : goal.invariant-runs
invariant-runs l = record {
  shared : l.shared.items ++ shared_by l.heap.value (into_iter_items l.run-iterator) ≡ shared_by l.heap.value (into_iter_items l.initial.run-iterator);
  here : AllByRecursion (λ (r : RunView). IsIn r.token l.heap.value) (into_iter_items l.run-iterator);
  len : into_iter_len l.run-iterator ≡ length (into_iter_items l.run-iterator);
}
