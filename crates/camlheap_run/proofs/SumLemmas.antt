-- Sums of integers modulo 1,000,003.
use Rattle.std.proofs.Common.{◌≡◌, ◌∙◌, ℕ, suc, ◌+◌, ◌*◌, ◌-◌, ◌≤◌, ◌<◌, ◌%◌, ℤ, pos, negsuc, ◌+ℤ◌, unsigned_abs, List, [], ◌∷◌, ◌++◌, refl, sym, ap, arith}
use Rattle.std.specs.Prelude.{fold}
use Rattle.std.specs.Int.{int_rem_euclid}
use Rattle.std.proofs.lemmas.Int.{ints, int_rem_euclid_is}
use Rattle.std.proofs.lemmas.List.Sums.{fold-append}
use Rattle.std.proofs.Math.Nat.{mod-add-mod, add-mod-mod, mod-lt}
use Rattle.model_core.specs.Output.{int_sum}
use Rattle.camlheap_run.specs.Writing.{sum_with}

abbrev remainder : ℤ → ℕ
remainder z = unsigned_abs (int_rem_euclid z (pos 1000003))

-- how often the modulus is added to an integer for a natural number, and that number
abbrev lifts : ℤ → ℕ
lifts (pos a) = 0
lifts (negsuc a) = suc a

abbrev moved : ℤ → ℕ
moved (pos a) = a
moved (negsuc a) = suc a * 1000003 - suc a

lifted : (z : ℤ) → z +ℤ pos (lifts z * 1000003) ≡ pos (moved z)
lifted (pos a) = omega (arith, ints)
lifted (negsuc a) = omega (arith, ints)

remainder_is : (z : ℤ) (k m : ℕ) → z +ℤ pos (k * 1000003) ≡ pos m → remainder z ≡ m % 1000003
remainder_is z k m e = ap unsigned_abs (int_rem_euclid_is z (pos 1000003) 1000003 k m (omega arith) refl e)

remainder_moved : (z : ℤ) → remainder z ≡ moved z % 1000003
remainder_moved z = remainder_is z (lifts z) (moved z) (lifted z)

sums : (a v : ℤ) (j k m n : ℕ) → a +ℤ pos (j * 1000003) ≡ pos m → v +ℤ pos (k * 1000003) ≡ pos n → (a +ℤ v) +ℤ pos ((j + k) * 1000003) ≡ pos (m + n)
sums a v j k m n first second = omega (arith, ints, first, second)

both_lifted : (a v : ℤ) → (a +ℤ v) +ℤ pos ((lifts a + lifts v) * 1000003) ≡ pos (moved a + moved v)
both_lifted a v = sums a v (lifts a) (lifts v) (moved a) (moved v) (lifted a) (lifted v)

-- the remainder of a sum is that of the remainders
remainder_added : (a v : ℤ) → remainder (a +ℤ v) ≡ (remainder a + remainder v) % 1000003
remainder_added a v =
    let whole : remainder (a +ℤ v) ≡ (moved a + moved v) % 1000003 = remainder_is (a +ℤ v) (lifts a + lifts v) (moved a + moved v) (both_lifted a v) in
    let parts : (moved a % 1000003 + moved v % 1000003) % 1000003 ≡ (moved a + moved v) % 1000003 = mod-add-mod (moved a) 1000003 (moved v % 1000003) ∙ add-mod-mod (moved a) (moved v) 1000003 in
    whole ∙ sym parts ∙ ap (λ (n : ℕ). (n + moved v % 1000003) % 1000003) (sym (remainder_moved a)) ∙ ap (λ (n : ℕ). (remainder a + n) % 1000003) (sym (remainder_moved v))

-- the sum of integers with one more
pub sum_with_one : (vs : List ℤ) (v : ℤ) → int_sum (vs ++ v ∷ []) ≡ sum_with (int_sum vs) v
sum_with_one vs v = ap remainder (fold-append ◌+ℤ◌ (pos 0) vs (v ∷ [])) ∙ remainder_added (fold ◌+ℤ◌ (pos 0) vs) v

pub sum_below : (s : ℕ) (v : ℤ) → sum_with s v ≤ 1000002
sum_below s v = let below : (s + remainder v) % 1000003 < 1000003 = mod-lt (s + remainder v) (omega arith) in omega (arith, below)
