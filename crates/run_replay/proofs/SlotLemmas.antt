-- The runs at their places.
use Rattle.std.proofs.Common.{◌≡◌, ◌<◌, ℕ, zero, suc, List, [], ◌∷◌, drop, length, Option, Some, None, sym, ap, arith, ◌∙◌}
use Rattle.std.specs.Prelude.{slice_get, slice_index_or}
use Rattle.run_turns.specs.Runs.{RunView}
use Rattle.run_replay.specs.Gathered.{HasRun}

pub slot_is : {A : Type 0} (xs : List A) (i : ℕ) (d x : A) → i < length xs → slice_index_or xs i d ≡ x → slice_get xs i ≡ Some x
slot_is [] i d x within is = absurd (omega (arith, within))
slot_is (y ∷ ys) zero d x within is = ap Some is
slot_is (y ∷ ys) (suc i) d x within is = slot_is ys i d x (omega (arith, within)) is

pub inside : {A : Type 0} (xs : List A) (i : ℕ) (x : A) → slice_get xs i ≡ Some x → i < length xs
inside [] i x at = cc
inside (y ∷ ys) zero x at = omega arith
inside (y ∷ ys) (suc i) x at = let more : i < length ys = inside ys i x at in omega arith

-- a run stands there
pub has_run : (runs : List (Option RunView)) (at : ℕ) (d : Option RunView) (r : RunView) → at < length runs → slice_index_or runs at d ≡ Some r → HasRun runs at r
has_run runs at d r within is = slot_is runs at d (Some r) within is

-- no place is empty
pub never_none : (runs : List (Option RunView)) (at : ℕ) (d : Option RunView) (r : RunView) → HasRun runs at r → slice_index_or runs at d ≡ None → ⊥
never_none runs at d r there none =
    let found : slice_get runs at ≡ Some None = slot_is runs at d None (inside runs at (Some r) there) none in
    let clash : ◌≡◌ {A = Option (Option RunView)} (Some None) (Some (Some r)) = sym found ∙ there in cc

-- one run at a place
pub one_there : (runs : List (Option RunView)) (at : ℕ) (r s : RunView) → HasRun runs at r → HasRun runs at s → r ≡ s
one_there runs at r s a b = let same : ◌≡◌ {A = Option (Option RunView)} (Some (Some r)) (Some (Some s)) = sym a ∙ b in cc

-- what an index finds there
pub slot_at : (runs : List (Option RunView)) (at : ℕ) (r : RunView) → HasRun runs at r → (o : Option RunView) → o ≡ slice_index_or runs at o → o ≡ Some r
slot_at [] at r there o is = cc
slot_at (x ∷ runs) zero r there o is = let same : x ≡ Some r = cc in is ∙ same
slot_at (x ∷ runs) (suc at) r there o is = slot_at runs at r there o is

-- what begins the rest of a list stands at its place
pub at_first : {A : Type 0} (xs : List A) (n : ℕ) (x : A) (rest : List A) → drop n xs ≡ x ∷ rest → slice_get xs n ≡ Some x
at_first [] zero x rest is = cc
at_first [] (suc n) x rest is = cc
at_first (y ∷ ys) zero x rest is = cc
at_first (y ∷ ys) (suc n) x rest is = at_first ys n x rest is
