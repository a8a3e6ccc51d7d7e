use Rattle.std.proofs.Common.{◌≡◌, ◌≤◌, ◌+◌, ◌++◌, List, length, map}
use Rattle.std.specs.Prelude.{vec_capacity}
use Rattle.std.specs.Vec.Iter.{into_iter_items, into_iter_len}
use Rattle.run_seats.specs.Seating.{SeatView}
use Rattle.example_handles.specs.declared.resource.Resource.{Resource}
use Rattle.example_handles.specs.Handling.{AllHandlesOf, PartsEach}
use Rattle.example_handles.proofs.heaps.take_apart.Given as goal

abbrev pub invariant-each : goal.invariant-each
invariant-each g l = record {
  parts : (ss : List SeatView) (rss : List (List Resource)) → PartsEach (into_iter_items l.resting-iterator) ss rss
      → PartsEach (into_iter_items l.initial.resting-iterator) (l.back.items ++ ss) (map (λ v. v.items) l.left.items ++ rss);
  here : AllHandlesOf l.seats (into_iter_items l.resting-iterator);
  places : length l.back.items + length (into_iter_items l.resting-iterator) ≤ vec_capacity l.back;
  lists : length l.left.items + length (into_iter_items l.resting-iterator) ≤ vec_capacity l.left;
  len : into_iter_len l.resting-iterator ≡ length (into_iter_items l.resting-iterator);
}
