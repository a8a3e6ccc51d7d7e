-- The exchange of an unmarked block's head.
use Rattle.std.proofs.Common.{◌≡◌, ℕ, Some, Option, ⊎_elim, sym, refl, subst}
use Rattle.heap_words.specs.declared.colours.Colours.{Colours}
use Rattle.heap_words.specs.ColourWords.{IsPermutation}
use Rattle.heap_rule.specs.declared.view.DomainView.{DomainView}
use Rattle.heap_rule.specs.declared.view.FoundHead.{FoundHead}
use Rattle.step_marks.specs.Marking.Looks.{with_share}
use Rattle.step_marks.specs.Marking.Marking.{DarkenMay, Field, TargetTold, IsMarked, IsUnmarked, Reason, Register, OfDatum, OfQueue, Warrants, moved_on}
use Rattle.do_fields.specs.Darkening.Heads.{IsDarkened}
use Rattle.do_fields.proofs.OfDarkening.Exchanges.{not_both, one_meaning}
use Rattle.gc_mark.specs.Shares.{Darkens}

-- there is still a reason when a head was found
still : (reason : Reason) (x : DomainView) (at : ℕ) (g : Option FoundHead) → Warrants reason x at → Warrants reason (with_share x (record x.seen.share { found_head = g })) at
still (Register r) x at g w = record { few = w.few; holds = w.holds }
still Field x at g w = w
still OfDatum x at g w = w
still (OfQueue i) x at g w = w

-- the head that was found may be exchanged
pub exchange_may : (x y : DomainView) (colours : Colours) (at word new : ℕ) (reason : Reason) → IsPermutation colours → Darkens colours at reason x → IsDarkened colours word new → TargetTold at reason x word y → DarkenMay y at word new reason
exchange_may x y colours at word new reason p d n t =
    let same : t.colours ≡ colours = one_meaning x.seen.share.colours colours t.colours d.known t.known in
    let g : Option FoundHead = Some (record { address = at; word = word }) in
    ⊎_elim
    (λ (f : IsUnmarked t.colours word × (y ≡ with_share x (record x.seen.share { found_head = g }))).
    subst (λ (v : DomainView). DarkenMay v at word new reason) (sym f.1) record { kind = d.kind; stage = d.stage; darkening = d.darkening; colours = colours; known = d.known; found = refl; unmarked = n.unmarked; marks = n.marks; reason_is = still reason x at g d.reason_is })
    (λ (f : IsMarked t.colours word × (y ≡ with_share x (moved_on reason at x.seen.share))).
    absurd (not_both colours word p n.unmarked (subst (λ (c : Colours). IsMarked c word) same f.0)))
    t.told
