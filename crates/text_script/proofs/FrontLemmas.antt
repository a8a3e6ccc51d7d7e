-- What lies behind the front of a line.
use Rattle.std.proofs.Common.{◌≡◌, ℕ, ◌+◌, ◌-◌, ◌*◌, ◌/◌, ◌%◌, ◌^◌, ◌<◌, ◌≤◌, zero, suc, ℤ, pos, negsuc, List, [], ◌∷◌, ◌++◌, map, length, get_or, drop, take, append_assoc, refl, ap, sym, ◌∙◌, arith, decimal, length-append, FitsSigned, w64}
use Rattle.std.proofs.Math.Seq.{drop-nil, take-length, drop-append_seam}
use Rattle.std.proofs.Math.Nat.{one-le-pow}
use Rattle.std.proofs.lemmas.List.{length-drop}
use Rattle.std.proofs.lemmas.Fmt.{decimal_by_steps, length-decimal-le, length_signed_le}
use Rattle.std.specs.Fmt.{signed_decimal}
use Rattle.text_script.proofs.TextLemmas.{spaced}

pub drop_on : (a b : ℕ) (xs : List ℕ) → drop (a + b) xs ≡ drop b (drop a xs)
drop_on zero b xs =
    let same : 0 + b ≡ b = omega arith in
    ap (λ n. drop n xs) same
drop_on (suc a) b [] = drop-nil (suc a + b) ∙ sym (drop-nil b)
drop_on (suc a) b (x ∷ xs) =
    let same : suc a + b ≡ suc (a + b) = omega arith in
    ap (λ n. drop n (x ∷ xs)) same ∙ drop_on a b xs

-- all that stands behind a place
pub all_behind : (at : ℕ) (xs : List ℕ) → take (length xs - at) (drop at xs) ≡ drop at xs
all_behind at xs = ap (λ n. take n (drop at xs)) (sym (length-drop at xs)) ∙ take-length (drop at xs)

-- two lines that are the same from a place on are the same from a later place on
pub same_further : (a b : ℕ) (xs ys : List ℕ) → a ≤ b → drop a xs ≡ drop a ys → drop b xs ≡ drop b ys
same_further a b xs ys h e =
    let same : b ≡ a + (b - a) = omega arith in
    ap (λ n. drop n xs) same ∙ drop_on a (b - a) xs ∙ ap (drop (b - a)) e ∙ sym (drop_on a (b - a) ys) ∙ ap (λ n. drop n ys) (sym same)

-- one number more of a row: what is printed so far, and what is still to come
pub row_on : (now before all : List ℕ) (n : ℕ) (left more : List ℕ) → now ≡ (before ++ 32 ∷ []) ++ decimal n → before ++ spaced (map pos left) ≡ all → left ≡ n ∷ more → now ++ spaced (map pos more) ≡ all
row_on now before all n left more e said next =
    ap (λ x. x ++ spaced (map pos more)) (e ∙ append_assoc before (32 ∷ []) (decimal n))
    ∙ append_assoc before (32 ∷ decimal n) (spaced (map pos more)) ∙ ap (λ xs. before ++ spaced (map pos xs)) (sym next) ∙ said

-- what is left of numbers: the one at a place, and those behind it
pub number_at : (ns : List ℕ) (i : ℕ) → i < length ns → drop i ns ≡ get_or ns i 0 ∷ drop (i + 1) ns
number_at [] i h = absurd (omega arith)
number_at (n ∷ ns) zero h = refl
number_at (n ∷ ns) (suc i) h =
    let same : suc (i + 1) ≡ suc i + 1 = omega arith in
    number_at ns i (omega arith) ∙ ap (λ k. get_or ns i 0 ∷ drop k (n ∷ ns)) same

-- a number that isn't below a power of ten has a digit more than the power
digits_above : (n : ℕ) → n < 2 ^ 64 → (k : ℕ) → 10 ^ k ≤ n → k < length (decimal n)
digits_above = decimal_by_steps (λ m ds. (k : ℕ) → 10 ^ k ≤ m → k < length ds) one more
  where
    one : (m : ℕ) → m < 10 → (k : ℕ) → 10 ^ k ≤ m → k < 1
    one m l zero a = omega arith
    one m l (suc k) a = absurd (omega (arith, one-le-pow k 10 (omega arith)))

    more : (m : ℕ) (ds : List ℕ) → 10 ≤ m → ((k : ℕ) → 10 ^ k ≤ m / 10 → k < length ds) → (k : ℕ) → 10 ^ k ≤ m → k < length (ds ++ ((48 + m % 10) ∷ []))
    more m ds l h zero a = omega (arith, length-append ds ((48 + m % 10) ∷ []))
    more m ds l h (suc k) a = omega (arith, length-append ds ((48 + m % 10) ∷ []), h k (omega arith))

-- a number between two powers of ten has as many digits as the greater power
pub count_of_digits : (n k : ℕ) → n < 2 ^ 64 → 10 ^ k ≤ n → n < 10 * 10 ^ k → k + 1 ≡ length (decimal n)
count_of_digits n k small low high =
    let least : k < length (decimal n) = digits_above n small k low in
    let most : length (decimal n) ≤ suc k = length-decimal-le (suc k) n (omega arith) (omega arith) small in
    omega arith

-- what lies behind digits that were written up to a place
pub behind_digits : (at from : ℕ) (ds old new : List ℕ) → from + length ds ≡ at + length ds → drop from new ≡ ds ++ drop (at + length ds) old → drop (at + length ds) new ≡ drop (at + length ds) old
behind_digits at from ds old new place written =
    let same : from ≡ at = omega arith in
    drop_on at (length ds) new ∙ ap (λ k. drop (length ds) (drop k new)) (sym same) ∙ ap (drop (length ds)) written ∙ drop-append_seam ds (drop (at + length ds) old)

-- how long the text of a number is at most
pub short_number : (n : ℕ) → n < 2 ^ 32 → length (decimal n) ≤ 10
short_number n small = length-decimal-le 10 n (omega arith) (omega arith) (omega arith)

pub long_number : (n : ℕ) → n < 2 ^ 64 → length (decimal n) ≤ 20
long_number n small = length-decimal-le 20 n (omega arith) (omega arith) small

pub integer_number : (z : ℤ) → FitsSigned w64 z → length (signed_decimal z) ≤ 20
integer_number (pos n) small = let fits = small.sfits in length_signed_le 19 (pos n) (omega arith) (omega arith)
integer_number (negsuc n) small = let fits = small.sfits in length_signed_le 19 (negsuc n) (omega arith) (omega arith)
