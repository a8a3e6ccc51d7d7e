use Rattle.gc_mark.specs.Decks.{DeckCounts}
use Rattle.gc_mark.proofs.Going.{read_went}
use Rattle.gc_mark.proofs.greys.darken_field.Goals as goal

pub returns-in_default-clause-went : goal.returns-in_default-clause-went
returns-in_default-clause-went g c =
    let l : DeckCounts = g.K.Deck.counts c.args.deck.now in
    read_went c.args.heap.now.config c.args.block c.args.field c.beside_read-word.result c.args.dom.now.view c.beside_read-word.new.dom.view l c.beside_read-word.ensures.told

pub returns-then-address-limits-clause-went : goal.returns-then-address-limits-clause-went
returns-then-address-limits-clause-went g c =
    let l : DeckCounts = g.K.Deck.counts c.args.deck.now in
    read_went c.args.heap.now.config c.args.block c.args.field c.beside_read-word.result c.args.dom.now.view c.beside_read-word.new.dom.view l c.beside_read-word.ensures.told
