use Rattle.std.proofs.Common.{◌≡◌, ◌<◌, ◌+◌, length}
use Rattle.std.specs.Vec.Iter.{into_iter_items, into_iter_len}
use Rattle.table_sections.specs.Preparing.{AllFresh, AllReady}
use Rattle.table_sections.proofs.preparing.prepare_all.Given as goal

abbrev pub invariant-others : goal.invariant-others
invariant-others g l = record {
  left : AllFresh l.seats (length l.ready.items) (into_iter_items l.resting-iterator);
  len : into_iter_len l.resting-iterator ≡ length (into_iter_items l.resting-iterator);
  some : 0 < length l.ready.items;
  ready : AllReady l.seats l.places 0 l.ready.items;
  many : length l.ready.items + length (into_iter_items l.resting-iterator) ≡ length l.fn.all.items;
}
