use Rattle.std.proofs.Common.{◌≡◌, ◌≤◌, ◌+◌, ◌++◌, List, length}
use Rattle.std.specs.Prelude.{vec_capacity}
use Rattle.std.specs.Vec.Iter.{into_iter_items, into_iter_len}
use Rattle.example_handles.specs.Handling.{AllHandlesOf, EachDid, HandlesView}
use Rattle.example_handles.proofs.heaps.perform_each.Given as goal

abbrev pub invariant-each : goal.invariant-each
invariant-each g l = record {
  did : (rest : List HandlesView) → EachDid l.command (into_iter_items l.resting-iterator) rest → EachDid l.command (into_iter_items l.initial.resting-iterator) (l.done.items ++ rest);
  here : AllHandlesOf l.seats (into_iter_items l.resting-iterator);
  room : length l.done.items + length (into_iter_items l.resting-iterator) ≤ vec_capacity l.done;
  len : into_iter_len l.resting-iterator ≡ length (into_iter_items l.resting-iterator);
}
