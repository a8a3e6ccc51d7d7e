-- Two texts differ in no line exactly where they are the same.
use Rattle.std.proofs.Common.{◌≡◌, ◌≢◌, ℕ, zero, suc, ◌+◌, ◌<◌, drop, length, Bool, true, false, cond, List, [], ◌∷◌, Some, None, refl, sym, ap, ◌∙◌, arith}
use Rattle.std.specs.Prelude.{◌==◌}
use Rattle.std.proofs.lemmas.Bool.Decides.{nat_tests}
use Rattle.judge_plain.specs.Scheduled.Lines.{differs_from}

same_head : (x y : ℕ) → (x == y) ≡ true → x ≡ y
same_head x y is = grind (arith, nat_tests)

same_more : (b : Bool) (line x y : ℕ) (xs ys : List ℕ) → (x == y) ≡ b → (differs_from (cond (x == 10) (line + 1) line) xs ys ≡ None → ys ≡ xs)
    → cond b (differs_from (cond (x == 10) (line + 1) line) xs ys) (Some line) ≡ None → y ∷ ys ≡ x ∷ xs
same_more true line x y xs ys is rest none = let tail : ys ≡ xs = rest none in let head : x ≡ y = same_head x y is in cc
same_more false line x y xs ys is rest none = cc

pub none_same : (line : ℕ) (xs ys : List ℕ) → differs_from line xs ys ≡ None → ys ≡ xs
none_same line [] [] none = refl
none_same line [] (y ∷ ys) none = cc
none_same line (x ∷ xs) [] none = cc
none_same line (x ∷ xs) (y ∷ ys) none = same_more (x == y) line x y xs ys refl (none_same (cond (x == 10) (line + 1) line) xs ys) none

self_head : (x : ℕ) → (x == x) ≡ true
self_head x = grind (arith, nat_tests)

same_none : (line : ℕ) (xs : List ℕ) → differs_from line xs xs ≡ None
same_none line [] = refl
same_none line (x ∷ xs) = rw (self_head x) (same_none (cond (x == 10) (line + 1) line) xs)

pub some_other : (line k : ℕ) (xs ys : List ℕ) → differs_from line xs ys ≡ Some k → ys ≢ xs
some_other line k xs ys some = λ same. let none : differs_from line xs ys ≡ None = ap (differs_from line xs) same ∙ same_none line xs in let clash : Some k ≡ None = sym some ∙ none in cc

short : (line i : ℕ) (xs rest : List ℕ) → i < length xs → length rest ≡ 0 → differs_from line (drop i xs) rest ≡ Some line
short line i xs (y ∷ rest) below empty = absurd (omega (arith, empty))
short line i [] [] below empty = absurd (omega (arith, below))
short line zero (x ∷ xs) [] below empty = refl
short line (suc i) (x ∷ xs) [] below empty = short line i xs [] (omega (arith, below)) refl

-- a text that has ended differs in the line that is next
pub ended_differs : (line i : ℕ) (xs ys rest : List ℕ) → i < length xs → length rest ≡ 0 → differs_from line (drop i xs) rest ≡ differs_from 1 xs ys → Some line ≡ differs_from 1 xs ys
ended_differs line i xs ys rest below empty same = sym (short line i xs rest below empty) ∙ same
