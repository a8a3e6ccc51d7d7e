-- A pass through the listed ephemerons, and those after it.
use Rattle.std.proofs.Common.{◌≡◌, ℕ, zero, suc, ◌<◌, length, ◌==◌, eq-eqb, eqb-true, IsTrue, List, [], ◌∷◌, slice_get, Some, ⊎_elim, sym, ap, ◌∙◌}
use Rattle.model_core.proofs.Reach.ReachLemmas.{or_cases, or_left, or_right}
use Rattle.heap_rule.specs.declared.view.DomainView.{DomainView}
use Rattle.heap_rule.specs.Cycles.{seen_by}
use Rattle.std.proofs.lemmas.Option.{slice_get_within}
use Rattle.do_ephemerons.specs.Looking.{SeesListed}

-- an item of a list is among its items
pub among : (l : List ℕ) (i a : ℕ) → slice_get l i ≡ Some a → IsTrue (seen_by l a)
among [] i a e = cc
among (b ∷ rest) zero a e = let same : a ≡ b = cc in or_left (a == b) (seen_by rest a) (eq-eqb a b same)
among (b ∷ rest) (suc i) a e = or_right (a == b) (seen_by rest a) (among rest i a e)

-- and what is among them is an item
pub item_of : (l : List ℕ) (a : ℕ) → IsTrue (seen_by l a) → (i : ℕ) × (slice_get l i ≡ Some a)
item_of [] a is = cc
item_of (b ∷ rest) a is = ⊎_elim
    (λ (here : IsTrue (a == b)). (zero, ap Some (sym (eqb-true a b here))))
    (λ (later : IsTrue (seen_by rest a)). let t = item_of rest a later in (suc t.0, t.1))
    (or_cases (a == b) (seen_by rest a) is)

-- of the list of one domain the first so many are seen by another
abbrev pub SeesBelow : ℕ → DomainView → DomainView → Type 0
SeesBelow i x y = (j : ℕ) → j < i → (a : ℕ) → slice_get x.own.ephemerons.items j ≡ Some a → IsTrue (seen_by y.seen.share.places_seen a)

-- all of the list are seen
pub sees_listed : (x y : DomainView) → y.own.ephemerons.items ≡ x.own.ephemerons.items → SeesBelow (length x.own.ephemerons.items) x y → SeesListed y
sees_listed x y same all a is =
    let t = item_of y.own.ephemerons.items a is in
    let got : slice_get x.own.ephemerons.items t.0 ≡ Some a = ap (λ (l : List ℕ). slice_get l t.0) (sym same) ∙ t.1 in
    all t.0 (slice_get_within x.own.ephemerons.items t.0 a got) a got
