use Rattle.std.proofs.Common.{◌≡◌, ℕ, ◌+◌, ◌<◌}
use Rattle.heap_rule.specs.Token.{IsIn}
use Rattle.step_marks.specs.Marking.Looks.{knowing_colours}
use Rattle.gc_mark.specs.Slices.{Went}
use Rattle.gc_mark.proofs.slices.slice.Given as goal

abbrev pub invariant-loop-count : goal.invariant-loop-count
invariant-loop-count g l = record {
  here : IsIn l.dom l.heap;
  some : 0 < l.left;
  went : (gone : ℕ) × (gone + l.left ≡ 8192) × Went l.count gone (l.count + gone) (knowing_colours l.fn.dom.view l.colours) l.dom.view (g.K.Deck.counts l.fn.deck) (g.K.Deck.counts l.deck);
}
