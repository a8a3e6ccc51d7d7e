-- Keys of an ephemeron of which some were emptied.
use Rattle.std.proofs.Common.{◌≡◌, ◌≢◌, ℕ, ◌||◌, Bool, true, false, List, [], set, slice_get, Option, None, sym, refl, ap, ◌∙◌, arith, ◌==◌, eq-eqb, ◌∷◌, suc, zero}
use Rattle.model_core.specs.declared.label.Label.{Label}
use Rattle.model_core.specs.declared.graph.Value.{Value}
use Rattle.model_core.specs.declared.graph.Node.TheVariants.{Ephe}
use Rattle.std.specs.List.{list_any}
use Rattle.model_cycle.specs.Progress.{KeysFound}
use Rattle.model_core.specs.Entries.{wiped_keys}
use Rattle.heap_rule.specs.Places.{without_keys}

abbrev pub no_places : List ℕ
no_places = []

set_other : {A : Type 0} (l : List A) (i j : ℕ) (a : A) → j ≢ i → slice_get (set l i a) j ≡ slice_get l j
set_other [] i j a differ = refl
set_other (x ∷ xs) zero zero a differ = absurd (differ refl)
set_other (x ∷ xs) zero (suc j) a differ = refl
set_other (x ∷ xs) (suc i) zero a differ = refl
set_other (x ∷ xs) (suc i) (suc j) a differ = set_other xs i j a (λ e. differ (ap suc e))

-- a key at none of the places stays
pub wiped_other : (places : List ℕ) (keys : List (Option Label)) (i : ℕ) → list_any (λ q. q == i) places ≡ false → slice_get (wiped_keys places keys) i ≡ slice_get keys i
wiped_other [] keys i none = refl
wiped_other (p ∷ ps) keys i none = set_other (wiped_keys ps keys) p i None (λ same. differs (p == i) (list_any (λ q. q == i) ps) none (eq-eqb p i (sym same))) ∙ wiped_other ps keys i (rest (p == i) (list_any (λ q. q == i) ps) none)
  where
    differs : (b e : Bool) → b || e ≡ false → b ≡ true → ⊥
    differs true e n is = cc
    differs false e n is = cc

    rest : (b e : Bool) → b || e ≡ false → e ≡ false
    rest true e n = cc
    rest false e n = n

-- an ephemeron without keys
pub without_ephe : (places : List ℕ) (keys : List (Option Label)) (datum : Value) → without_keys places (Ephe keys datum) ≡ Ephe (wiped_keys places keys) datum
without_ephe [] keys datum = refl
without_ephe (p ∷ ps) keys datum = refl

-- no key is at a place that a cleaning hasn't come to
pub not_emptied : (marked : Label → Bool) (keys : List (Option Label)) (i : ℕ) (places : List ℕ) → KeysFound marked keys i places → list_any (λ q. q == i) places ≡ false
not_emptied marked keys i places found = go (list_any (λ q. q == i) places) refl
  where
    go : (b : Bool) → list_any (λ q. q == i) places ≡ b → b ≡ false
    go true e = absurd (let low = found.below i e in omega (arith, low))
    go false e = refl
