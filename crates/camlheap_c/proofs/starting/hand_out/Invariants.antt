use Rattle.std.proofs.Common.{◌≡◌, ◌++◌, List, length, map}
use Rattle.std.specs.Vec.Iter.{into_iter_items, into_iter_len}
use Rattle.run_seats.specs.Shared.Sharing.{SharedView}
use Rattle.camlheap_c.specs.Exported.{Fills}
use Rattle.camlheap_c.proofs.starting.hand_out.Given as goal

abbrev pub invariant-boxes : goal.invariant-boxes
invariant-boxes l = record {
  handed : List SharedView;
  rest : map (λ b. b.value) (into_iter_items l.initial.run-iterator) ≡ handed ++ map (λ b. b.value) (into_iter_items l.run-iterator);
  count : length handed ≡ l.at;
  fills : Fills handed l.initial.handles l.handles;
  len : into_iter_len l.run-iterator ≡ length (into_iter_items l.run-iterator);
}
