use Rattle.std.proofs.Common.{◌≡◌, false}
use Rattle.heap_rule.specs.Token.{IsIn}
use Rattle.step_marks.specs.Marking.Looks.{with_share}
use Rattle.gc_mark.specs.Shares.{Noted, fields_to, scanning}
use Rattle.gc_mark.proofs.scanning.scan_fields.Given as goal

abbrev pub invariant-loop-i : goal.invariant-loop-i
invariant-loop-i l = record {
  here : IsIn l.dom l.heap;
  view : l.dom.view ≡ with_share l.fn.dom.view (scanning l.fn.dom.view.seen.share l.dom.view.seen.share (fields_to l.i l.fn.dom.view.seen.share.scan) l.darkened);
  noted : Noted l.heap.config l.dom.view l.trail.items l.trail.lost;
  kept : l.darkened ≡ false → (l.trail.items ≡ l.fn.trail.items);
}
