use Rattle.std.proofs.Common.{◌≡◌, []}
use Rattle.heap_rule.specs.Token.{IsIn}
use Rattle.step_marks.specs.Marking.Marking.{Next}
use Rattle.gc_mark.specs.Shares.{Marks, Noted, Walked, spot_from}
use Rattle.gc_mark.proofs.places.mark_pool.Given as goal

abbrev pub ghost-mark_place : goal.ghost-mark_place
ghost-mark_place a = Next a.pool a.class a.slot

abbrev pub invariant-loop-slot : goal.invariant-loop-slot
invariant-loop-slot l = record {
  here : IsIn l.dom l.heap;
  marks : Marks l.colours l.dom.view;
  walked : Walked (spot_from l.pool l.class l.slot) l.fn.dom.view l.dom.view;
  own : l.dom.view.seen.share.own_pool ≡ l.fn.dom.view.seen.share.own_pool;
  noted : Noted l.heap.config l.dom.view l.trail.items l.trail.lost;
  none : l.trail.items ≡ [];
}
