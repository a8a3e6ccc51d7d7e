use Rattle.std.proofs.Common.{ℕ, subst, sym}
use Rattle.heap_rule.specs.declared.view.Known.TheVariants.{Shape}
use Rattle.heap_rule.specs.Beside.{IsKnown}
use Rattle.gc_mark.specs.Slices.{IsSized}
use Rattle.gc_mark.proofs.Going.{since_known, store_may}
use Rattle.gc_mark.proofs.greys.scan_word.Goals as goal

pub beside_scanned_store-requires-clause-may : goal.beside_scanned_store-requires-clause-may
beside_scanned_store-requires-clause-may g c =
    let scan = c.in-Some.ensures in
    let known = c.requires.1.1.1.1.1 scan.grey in
    store_may c.args.heap.now.config c.args.colours c.args.dom.now.view c.darken_fields.new.dom.view c.args.at c.args.word c.in-Some.block.fields c.in-Some.block.scanned (g.K.Deck.counts c.args.deck.now) (g.K.Deck.counts c.darken_fields.new.deck) c.requires.1.1.0 c.darken_fields.ensures.went known.2 c.darken_fields.ensures.found known.0 scan c.darken_fields.ensures.paid

pub darken_fields-requires : goal.darken_fields-requires
darken_fields-requires g c = λ lives outlives.
    let scan = c.in-Some.ensures in
    let known = c.requires.1.1.1.1.1 scan.grey in
    let names = c.requires.1.1.1.1.0 in (
      outlives,
      (
        c.requires.1.0,
        (
          c.requires.1.1.0,
          (
            c.requires.1.1.1.0,
            (
              subst (λ (w : ℕ). IsKnown c.args.dom.now.view.seen.share.known (Shape c.args.at w)) (sym names) (since_known c.args.dom.now.view.seen.share.known c.args.at c.args.word known.0),
              (
                subst (λ (w : ℕ). IsSized w c.in-Some.block.fields) (sym names) (record { shape = scan.grey.block.shape; is = scan.grey.block.head; count = scan.count }),
                (known.1, known.2),
              ),
            ),
          ),
        ),
      ),
    )
