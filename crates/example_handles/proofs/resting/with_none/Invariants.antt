use Rattle.std.proofs.Common.{◌≡◌, ◌++◌, length, map}
use Rattle.std.specs.List.{AllByRecursion}
use Rattle.std.specs.Vec.Iter.{into_iter_items, into_iter_len}
use Rattle.example_handles.specs.Handling.{IsUnused, no_handles}
use Rattle.example_handles.proofs.resting.with_none.Given as goal

abbrev pub invariant-seats : goal.invariant-seats
invariant-seats l = record {
  all : l.all.items ++ map (no_handles l.most) (into_iter_items l.seat-iterator) ≡ map (no_handles l.most) (into_iter_items l.initial.seat-iterator);
  unused : AllByRecursion (IsUnused l.most) (into_iter_items l.seat-iterator);
  len : into_iter_len l.seat-iterator ≡ length (into_iter_items l.seat-iterator);
}
