use Rattle.std.proofs.Common.{ℕ, ◌*◌, ◌≤◌, refl, subst, sym}
use Rattle.heap_words.specs.declared.colours.Colours.{Colours}
use Rattle.heap_rule.specs.declared.view.DomainView.{DomainView}
use Rattle.gc_mark.specs.Slices.{LookedAtHint}
use Rattle.step_marks.specs.Marking.Marking.{IsGrey}
use Rattle.gc_mark.proofs.Going.{head_known, looked_on, still_slices}
use Rattle.gc_mark.proofs.slices.scan_hint.Goals as goal

pub scan_word-requires : goal.scan_word-requires
scan_word-requires g c = λ lives outlives.
    let at : ℕ = c.address-at.result in
    let x : DomainView = c.args.dom.now.view in
    let y : DomainView = c.look-word.new.dom.view in
    let looked : LookedAtHint c.args.colours at x c.look-word.result y = subst (λ (n : ℕ). LookedAtHint c.args.colours n x c.look-word.result y) (sym c.address-at.ensures.address) (subst (λ (k : Colours). LookedAtHint k c.args.hint x c.look-word.result y) c.requires.1.0 c.look-word.ensures.looked) in
    let inside = λ (grey : IsGrey c.args.colours c.look-word.result). subst (λ (n : ℕ). n ≤ c.args.heap.now.config.pools * 4096) (sym c.address-at.ensures.address) (c.look-word.ensures.inside (subst (λ (k : Colours). IsGrey k c.look-word.result) (sym c.requires.1.0) grey)) in
    let q = c.requires.1.1 in (
      outlives,
      (
        c.look-word.ensures.here,
        (
          still_slices c.args.colours at c.look-word.result x y q.1.0 looked,
          (
            q.1.1,
            (
              refl,
              λ (grey : IsGrey c.args.colours c.look-word.result). (head_known c.args.colours at c.look-word.result x y looked grey, c.address-at.ensures.pooled.0, inside grey),
            ),
          ),
        ),
      ),
    )

pub returns-clause-went : goal.returns-clause-went
returns-clause-went g c =
    let x : DomainView = c.args.dom.now.view in
    let y : DomainView = c.look-word.new.dom.view in
    let looked : LookedAtHint c.args.colours c.args.hint x c.look-word.result y = subst (λ (k : Colours). LookedAtHint k c.args.hint x c.look-word.result y) c.requires.1.0 c.look-word.ensures.looked in
    looked_on c.args.colours c.args.hint c.look-word.result c.scan_word.result x y c.scan_word.new.dom.view (g.K.Deck.counts c.args.deck.now) (g.K.Deck.counts c.scan_word.new.deck) looked c.scan_word.ensures.grey c.scan_word.ensures.went
