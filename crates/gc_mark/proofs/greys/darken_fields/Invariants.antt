use Rattle.std.proofs.Common.{ℕ, ◌<◌}
use Rattle.heap_rule.specs.Beside.{IsPaid}
use Rattle.heap_rule.specs.Token.{IsIn}
use Rattle.step_marks.specs.Beside.Marking.{Field, StillFound}
use Rattle.gc_mark.specs.Slices.{Went}
use Rattle.gc_mark.proofs.greys.darken_fields.Given as goal

abbrev pub ghost-darken_field : goal.ghost-darken_field
ghost-darken_field g a = record { head = g.head; reason = Field a.block a.field }

abbrev pub invariant-loop-field : goal.invariant-loop-field
invariant-loop-field g l = record {
  here : IsIn l.dom l.heap;
  went : Went 0 0 0 l.fn.dom.view l.dom.view (g.K.Deck.counts l.fn.deck) (g.K.Deck.counts l.deck);
  paid : (i : ℕ) → i < l.field → IsPaid l.dom.view.seen.share.known l.block i;
  found : StillFound l.fn.dom.view l.dom.view;
}
