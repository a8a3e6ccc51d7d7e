-- The block that a place of the queue keeps alive is to be marked.
use Rattle.std.specs.Prelude.{is_some}
use Rattle.std.proofs.Common.{◌≡◌, ℕ, ◌+◌, Option, None, Some, MatchOption, ⊎_elim, option_and_then, slice_get, arith, sym, ap, subst, ◌∙◌}
use Rattle.heap_words.specs.declared.colours.Colours.{Colours}
use Rattle.heap_rule.specs.declared.phase.Kind.{Kind}
use Rattle.heap_rule.specs.declared.phase.Kind.TheVariants.{Queued, Roots}
use Rattle.heap_rule.specs.declared.phase.Stage.{Stage}
use Rattle.heap_rule.specs.declared.phase.Stage.TheVariants.{In}
use Rattle.heap_rule.specs.declared.view.DomainView.{DomainView}
use Rattle.heap_rule.specs.declared.view.Finalisers.{Finalisers}
use Rattle.heap_rule.specs.declared.view.Held.TheVariants.{Queue}
use Rattle.heap_rule.specs.declared.view.Waiting.{Waiting}
use Rattle.heap_rule.specs.declared.view.Waiting.TheVariants.{Fin}
use Rattle.heap_rule.specs.Finalisers.{address_in, held_at}
use Rattle.step_marks.specs.Marking.Marking.{IsDarkening, OfQueue, Reason}
use Rattle.gc_mark.specs.Shares.{Darkens, MarksRoots, darkened}

rooting_kind : (stage : Stage) → MarksRoots stage → (kind : Kind) × (stage ≡ In kind) × IsDarkening kind
rooting_kind stage is = ⊎_elim (λ (e : stage ≡ In Roots). (Roots, e, tt)) (λ (e : stage ≡ In Queued). (Queued, e, tt)) is

-- the item at a place names the block
pub held_here : (fs : Finalisers) (i a n r : ℕ) (w : Waiting) → Some w ≡ slice_get fs.queue.items i → w ≡ Fin a n r → held_at fs (Queue i) ≡ Some a
held_here fs i a n r w got is = ap (option_and_then address_in) (sym got ∙ ap Some is)

pub queue_darkens : (x : DomainView) (colours : Colours) (i a : ℕ) (reason : Reason) → MarksRoots x.seen.stage → x.seen.share.colours ≡ Some colours → reason ≡ OfQueue i → held_at x.own.finalisers (Queue i) ≡ Some a → Darkens colours a reason x
queue_darkens x colours i a reason phase known names held = let k = rooting_kind x.seen.stage phase in
    subst (λ (z : Reason). Darkens colours a z x) (sym names) record { kind = k.0; stage = k.1; darkening = k.2; known = known; reason_is = held }

-- a darkening is counted where there is a hint of it
pub counts_won : (x y : DomainView) (reason : Reason) (at : ℕ) (hint : Option ℕ) → y ≡ darkened reason at (is_some hint) x → MatchOption hint (y.seen.share.darkenings ≡ x.seen.share.darkenings) (λ _. y.seen.share.darkenings ≡ x.seen.share.darkenings + 1)
counts_won x y reason at None e =
    let a : ℕ = x.seen.share.darkenings in
    let b : ℕ = y.seen.share.darkenings in
    let same : b ≡ a + 0 = ap (λ (v : DomainView). v.seen.share.darkenings) e in omega (arith, same)
counts_won x y reason at (Some hint) e = ap (λ (v : DomainView). v.seen.share.darkenings) e
