use Rattle.std.proofs.Common.{◌+◌, ◌<◌, ℕ, IfNone, Option, arith, subst}
use Rattle.heap_rule.specs.declared.view.DomainView.{DomainView}
use Rattle.step_marks.specs.Marking.Looks.{knowing_colours}
use Rattle.gc_mark.specs.declared.slices.Why.{Why}
use Rattle.gc_mark.specs.Decks.{DeckCounts}
use Rattle.gc_mark.specs.Slices.{Went}
use Rattle.gc_mark.proofs.Going.{block_on}
use Rattle.gc_mark.proofs.slices.slice.Goals as goal

pub loop-count-preserved : goal.loop-count-preserved
loop-count-preserved g c =
    let l : DeckCounts = g.K.Deck.counts c.args.deck.now in
    let m : DeckCounts = g.K.Deck.counts c.loop-count.deck in
    let n : DeckCounts = g.K.Deck.counts c.scan_next-next.new.deck in
    let x : DomainView = knowing_colours c.args.dom.now.view c.colours_now-colours.result in
    let y : DomainView = c.loop-count.dom.view in
    let z : DomainView = c.scan_next-next.new.dom.view in
    let more : ℕ = c.scan_next-next.result.let_go in
    let next : (more < c.loop-count.left) × Went 1 more (more + 1) y z m n
    = subst (λ (o : Option Why). IfNone o ((more < c.loop-count.left) × Went 1 more (more + 1) y z m n)) c.in_default.is c.scan_next-next.ensures.scanned in
    let few = next.0 in
    let so_far = c.loop-count.invariant.went in
    let all = so_far.1 in record {
      here = c.scan_next-next.ensures.here;
      some = omega (arith, few);
      went = (so_far.0 + more, omega (arith, few, all), block_on c.loop-count.count so_far.0 more x y z l m n so_far.2 next.1);
    }
