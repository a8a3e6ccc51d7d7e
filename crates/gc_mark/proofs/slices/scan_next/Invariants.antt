use Rattle.heap_rule.specs.Token.{IsIn}
use Rattle.gc_mark.specs.Slices.{Went}
use Rattle.gc_mark.proofs.slices.scan_next.Given as goal

abbrev pub ghost-scan_hint : goal.ghost-scan_hint
ghost-scan_hint g a = a.colours

abbrev pub invariant-loop-let_go : goal.invariant-loop-let_go
invariant-loop-let_go g l = record {
  here : IsIn l.dom l.heap;
  went : Went 0 l.let_go l.let_go l.fn.dom.view l.dom.view (g.K.Deck.counts l.fn.deck) (g.K.Deck.counts l.deck);
}
