-- The way to a key: no other key has it, and its digits fit the blocks.
use Rattle.std.proofs.Common.{◌≡◌, ℕ, zero, suc, ◌+◌, ◌*◌, ◌/◌, ◌%◌, ◌<◌, ◌≤◌, List, [], ◌∷◌, ◌++◌, length, refl, ap, sym, ◌∙◌, subst, arith}
use Rattle.std.proofs.lemmas.List.{length-append}
use Rattle.std.proofs.lemmas.Nat.{mod_below, mul-le, div-mul-add, mod-mul-add}
use Rattle.std.proofs.Math.Nat.{mod-add-div', div-lt_iff_lt-mul, suc-mul}
use Rattle.model_core.specs.declared.label.Label.{Label}
use Rattle.weak_laws.specs.Maps.Tries.{low_digits, digits, number_of, way_to, way_length, root_width, node_width, width_at, IsLabelOf}
use Rattle.weak_laws.specs.Maps.MapLaws.{WaysDiffer, WaysPart}

-- how many numbers so many digits tell apart
abbrev room : ℕ → ℕ
room zero = 1
room (suc d) = room d * node_width

smaller : (x r : ℕ) → x < r * node_width → x / node_width < r
smaller x r below = (div-lt_iff_lt-mul {k = node_width} {x = x} {y = r} (omega arith)).1 below

low_same : (d x y : ℕ) → x < room d → y < room d → low_digits d x ≡ low_digits d y → x ≡ y
low_same zero x y below_x below_y e = omega (arith, below_x, below_y)
low_same (suc d) x y below_x below_y e =
    let head : x % node_width ≡ y % node_width = cc in
    let tail : low_digits d (x / node_width) ≡ low_digits d (y / node_width) = cc in
    let rest = low_same d (x / node_width) (y / node_width) (smaller x (room d) below_x) (smaller y (room d) below_y) tail in
    sym (mod-add-div' x node_width) ∙ ((λ i. head i + rest i * node_width) ∙ mod-add-div' y node_width)

digits_same : (x y : ℕ) → x < room 6 * root_width → y < room 6 * root_width → digits x ≡ digits y → x ≡ y
digits_same x y below_x below_y e =
    let head : x % root_width ≡ y % root_width = cc in
    let tail : low_digits 6 (x / root_width) ≡ low_digits 6 (y / root_width) = cc in
    let rest = low_same 6 (x / root_width) (y / root_width)
    ((div-lt_iff_lt-mul {k = root_width} {x = x} {y = room 6} (omega arith)).1 below_x) ((div-lt_iff_lt-mul {k = root_width} {x = y} {y = room 6} (omega arith)).1 below_y) tail in
    sym (mod-add-div' x root_width) ∙ ((λ i. head i + rest i * root_width) ∙ mod-add-div' y root_width)

number_below : (n : ℕ) (k : Label) → n ≤ 8 → IsLabelOf n k → number_of n k < room 6 * root_width
number_below n k few (domain, serial) =
    let most : suc k.serial * n ≤ 4294967296 * 8 = mul-le (suc k.serial) n 4294967296 8 (omega (arith, serial)) few in
    let split : suc k.serial * n ≡ k.serial * n + n = suc-mul k.serial n in
    let whole : room 6 * root_width ≡ 549755813888 = refl in
    omega (arith, most, split, whole, domain)

number_same : (n : ℕ) (k l : Label) → k.domain < n → l.domain < n → number_of n k ≡ number_of n l → k ≡ l
number_same n k l below_k below_l e =
    let serial : k.serial ≡ l.serial = sym (div-mul-add k.serial n k.domain below_k) ∙ (ap (λ (m : ℕ). m / n) e ∙ div-mul-add l.serial n l.domain below_l) in
    let domain : k.domain ≡ l.domain = sym (mod-mul-add k.serial n k.domain below_k) ∙ (ap (λ (m : ℕ). m % n) e ∙ mod-mul-add l.serial n l.domain below_l) in
    λ i. record { domain = domain i; serial = serial i }

pub ways_differ : WaysDiffer
ways_differ n k l few is_k is_l e =
    number_same n k l is_k.0 is_l.0 (digits_same (number_of n k) (number_of n l) (number_below n k few is_k) (number_below n l few is_l) e)

way_long : (n : ℕ) (k : Label) → length (way_to n k) ≡ way_length
way_long n k = refl

-- what is left of a way behind some steps
rest_long : (n : ℕ) (k : Label) (p x : List ℕ) → way_to n k ≡ p ++ x → length p + length x ≡ way_length
rest_long n k p x way = sym (length-append p x) ∙ (ap length (sym way) ∙ way_long n k)

pub ways_part : WaysPart
ways_part n k l few is_k is_l differ p [] [] way_k way_l = absurd (differ (ways_differ n k l few is_k is_l (way_k ∙ sym way_l)))
ways_part n k l few is_k is_l differ p (a ∷ x) y way_k way_l = let long = rest_long n k p (a ∷ x) way_k in omega (arith, long)
ways_part n k l few is_k is_l differ p [] (b ∷ y) way_k way_l = let long = rest_long n l p (b ∷ y) way_l in omega (arith, long)

low_below : (d x : ℕ) (p : List ℕ) (i : ℕ) (q : List ℕ) → low_digits d x ≡ p ++ i ∷ q → i < node_width
low_below zero x [] i q e = cc
low_below zero x (a ∷ p) i q e = cc
low_below (suc d) x [] i q e = let is : x % node_width ≡ i = cc in subst (λ m. m < node_width) is (mod_below x node_width (omega arith))
low_below (suc d) x (a ∷ p) i q e = low_below d (x / node_width) p i q cc

-- each digit is below the width of the block whose field it names
pub digit_below : (n : ℕ) (k : Label) (p : List ℕ) (i : ℕ) (q : List ℕ) → way_to n k ≡ p ++ i ∷ q → i < width_at p
digit_below n k [] i q way = let is : number_of n k % root_width ≡ i = cc in subst (λ m. m < root_width) is (mod_below (number_of n k) root_width (omega arith))
digit_below n k (a ∷ p) i q way = low_below 6 (number_of n k / root_width) p i q cc

-- a way goes on below its length
pub way_goes_on : (n : ℕ) (k : Label) (p x : List ℕ) → way_to n k ≡ p ++ x → length p < way_length → (i : ℕ) × (q : List ℕ) × (x ≡ i ∷ q)
way_goes_on n k p [] way low = let long = rest_long n k p [] way in absurd (omega (arith, long, low))
way_goes_on n k p (i ∷ q) way low = (i, q, refl)
