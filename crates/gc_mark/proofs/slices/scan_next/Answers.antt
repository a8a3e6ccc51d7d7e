use Rattle.std.proofs.Common.{◌+◌, ℕ, Bool, cond, inl, refl, subst}
use Rattle.heap_rule.specs.declared.view.DomainView.{DomainView}
use Rattle.gc_mark.specs.Decks.{DeckCounts}
use Rattle.gc_mark.specs.Slices.{Went}
use Rattle.gc_mark.proofs.Going.{next_on, took_none, took_one}
use Rattle.gc_mark.proofs.slices.scan_next.Goals as goal

pub returns-in_default-clause-ended : goal.returns-in_default-clause-ended
returns-in_default-clause-ended g c =
    let l : DeckCounts = g.K.Deck.counts c.args.deck.now in
    let m : DeckCounts = g.K.Deck.counts c.loop-let_go.deck in
    let n : DeckCounts = g.K.Deck.counts c.next_hint.new.deck in
    let t = took_none c.loop-let_go.let_go c.args.dom.now.view c.loop-let_go.dom.view l m n c.loop-let_go.invariant.went c.in_default.ensures.none in inl (refl, c.loop-let_go-test.true, t.0, t.1)

pub returns-then-scan_hint-clause-scanned : goal.returns-then-scan_hint-clause-scanned
returns-then-scan_hint-clause-scanned g c =
    let l : DeckCounts = g.K.Deck.counts c.args.deck.now in
    let m : DeckCounts = g.K.Deck.counts c.loop-let_go.deck in
    let n : DeckCounts = g.K.Deck.counts c.next_hint.new.deck in
    let o : DeckCounts = g.K.Deck.counts c.scan_hint.new.deck in
    let x : DomainView = c.args.dom.now.view in
    let y : DomainView = c.loop-let_go.dom.view in
    let z : DomainView = c.scan_hint.new.dom.view in
    let gone : ℕ = c.loop-let_go.let_go in
    let took = took_one gone x y l m n c.loop-let_go.invariant.went c.in-Some.ensures.took in (
      c.loop-let_go-test.true,
      subst (λ (won : Bool). Went (cond won 1 0) (cond won gone (gone + 1)) (gone + 1) x z l o) c.if-scan_hint.true (next_on c.scan_hint.result gone x y z l n o took c.scan_hint.ensures.went),
    )

pub loop-let_go-preserved : goal.loop-let_go-preserved
loop-let_go-preserved g c =
    let l : DeckCounts = g.K.Deck.counts c.args.deck.now in
    let m : DeckCounts = g.K.Deck.counts c.loop-let_go.deck in
    let n : DeckCounts = g.K.Deck.counts c.next_hint.new.deck in
    let o : DeckCounts = g.K.Deck.counts c.scan_hint.new.deck in
    let x : DomainView = c.args.dom.now.view in
    let y : DomainView = c.loop-let_go.dom.view in
    let z : DomainView = c.scan_hint.new.dom.view in
    let gone : ℕ = c.loop-let_go.let_go in
    let took = took_one gone x y l m n c.loop-let_go.invariant.went c.in-Some.ensures.took in record {
      here = c.scan_hint.ensures.here;
      went = subst (λ (won : Bool). Went (cond won 1 0) (cond won gone (gone + 1)) (gone + 1) x z l o) c.if-scan_hint.false (next_on c.scan_hint.result gone x y z l n o took c.scan_hint.ensures.went);
    }
