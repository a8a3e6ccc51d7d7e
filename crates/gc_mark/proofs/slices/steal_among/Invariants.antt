use Rattle.std.proofs.Common.{◌≡◌, ℕ, ◌<◌, ◌≤◌, true}
use Rattle.gc_mark.specs.Decks.{HasMissed}
use Rattle.gc_mark.specs.Slices.{Tries}
use Rattle.gc_mark.proofs.slices.steal_among.Given as goal

abbrev pub invariant-loop-from : goal.invariant-loop-from
invariant-loop-from g l = record {
  tries : Tries 0 (g.K.Deck.counts l.fn.deck) (g.K.Deck.counts l.deck);
  dry : (g.K.Deck.counts l.deck).is_dry ≡ true;
  missed : (d : ℕ) → l.first ≤ d → d < l.from → HasMissed (g.K.Deck.counts l.fn.deck) (g.K.Deck.counts l.deck) d;
}
