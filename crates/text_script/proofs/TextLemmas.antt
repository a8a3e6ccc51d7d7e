-- A line's texts, and the text of a row with its numbers.
use Rattle.std.proofs.Common.{◌≡◌, ℕ, ◌<◌, ◌^◌, ℤ, List, [], ◌∷◌, ◌++◌, map, length, Bool, true, false, cond, not, ◌&&◌, refl, ap, sym, ◌∙◌, arith, None, Some}
use Rattle.std.specs.Prelude.{Option, option_map, option_and_then, flat_map, nat_lt, unsigned_abs, ◌==◌}
use Rattle.std.specs.Fmt.{signed_decimal}
use Rattle.std.specs.List.{list_all, slice_split, onto_first, join_with_byte}
use Rattle.std.proofs.lemmas.Bool.Decides.{nat_tests}
use Rattle.std.proofs.lemmas.List.{length-map, append-nil}
use Rattle.std.proofs.lemmas.List.Splits.{join_with_byte-slice_split}
use Rattle.std.proofs.lemmas.Bool.{and_parts}
use Rattle.text_script.specs.Number.{number, numbers, counted_numbers}
use Rattle.text_script.specs.Faults.{texts}
use Rattle.text_script.proofs.DecimalLemmas.{is_free, number-signed_decimal, number_read, signed_decimal_free}

-- a text is split at a mark that doesn't stand in its front
split_on : (t : Bool) (b : ℕ) (parts : List (List ℕ)) → not t ≡ true → cond t ([] ∷ parts) (onto_first b parts) ≡ onto_first b parts
split_on true b parts e = cc
split_on false b parts e = refl

pub split-free : (mark : ℕ) (bs rest : List ℕ) → is_free mark bs ≡ true → slice_split (λ b. b == mark) (bs ++ mark ∷ rest) ≡ bs ∷ slice_split (λ b. b == mark) rest
split-free mark [] rest e =
    let test : (mark == mark) ≡ true = grind (arith, nat_tests) in
    ap (λ t. cond t ([] ∷ slice_split (λ b. b == mark) rest) (onto_first mark (slice_split (λ b. b == mark) rest))) test
split-free mark (b ∷ bs) rest e =
    let p = and_parts (not (b == mark)) (is_free mark bs) e in
    split_on (b == mark) b (slice_split (λ x. x == mark) (bs ++ mark ∷ rest)) p.0 ∙ ap (onto_first b) (split-free mark bs rest p.1)

pub split-free_end : (mark : ℕ) (bs : List ℕ) → is_free mark bs ≡ true → slice_split (λ b. b == mark) bs ≡ bs ∷ []
split-free_end mark [] e = refl
split-free_end mark (b ∷ bs) e =
    let p = and_parts (not (b == mark)) (is_free mark bs) e in
    split_on (b == mark) b (slice_split (λ x. x == mark) bs) p.0 ∙ ap (onto_first b) (split-free_end mark bs p.1)

pub is_free-append : (mark : ℕ) (bs cs : List ℕ) → is_free mark bs ≡ true → is_free mark cs ≡ true → is_free mark (bs ++ cs) ≡ true
is_free-append mark [] cs e f = f
is_free-append mark (b ∷ bs) cs e f =
    let p = and_parts (not (b == mark)) (is_free mark bs) e in
    ap (λ x. x && is_free mark (bs ++ cs)) p.0 ∙ is_free-append mark bs cs p.1 f

-- numbers that 64 bits hold
abbrev pub are_small : List ℤ → Bool
are_small zs = list_all (λ z. nat_lt (unsigned_abs z) (2 ^ 63)) zs

small_head : (z : ℤ) (zs : List ℤ) → are_small (z ∷ zs) ≡ true → (unsigned_abs z < 2 ^ 63) × (are_small zs ≡ true)
small_head z zs e =
    let p = and_parts (nat_lt (unsigned_abs z) (2 ^ 63)) (are_small zs) e in
    let below : unsigned_abs z < 2 ^ 63 = grind (arith, nat_tests) in
    (below, p.1)

-- the numbers of a line, each behind a space
abbrev pub spaced : List ℤ → List ℕ
spaced zs = flat_map (λ z. 32 ∷ signed_decimal z) zs

-- the texts of a word and its numbers
pub texts-row : (word : List ℕ) (zs : List ℤ) → is_free 32 word ≡ true → are_small zs ≡ true → texts (word ++ spaced zs) ≡ word ∷ map signed_decimal zs
texts-row word [] e h = ap texts (append-nil word) ∙ split-free_end 32 word e
texts-row word (z ∷ zs) e h =
    let p = small_head z zs h in
    split-free 32 word (signed_decimal z ++ spaced zs) e
    ∙ ap (λ ts. word ∷ ts) (texts-row (signed_decimal z) zs (signed_decimal_free 32 z (omega arith) p.0) p.1)

pub spaced_free : (zs : List ℤ) → are_small zs ≡ true → is_free 10 (spaced zs) ≡ true
spaced_free [] h = refl
spaced_free (z ∷ zs) h =
    let p = small_head z zs h in
    is_free-append 10 (32 ∷ signed_decimal z) (spaced zs) (signed_decimal_free 10 z (omega arith) p.0) (spaced_free zs p.1)

joined : (word : List ℕ) (zs : List ℤ) → join_with_byte 32 (word ∷ map signed_decimal zs) ≡ word ++ spaced zs
joined word [] = sym (append-nil word)
joined word (z ∷ zs) = ap (λ x. word ++ 32 ∷ x) (joined (signed_decimal z) zs)

-- a line whose texts these are
pub row_read : (line word : List ℕ) (zs : List ℤ) → texts line ≡ word ∷ map signed_decimal zs → line ≡ word ++ spaced zs
row_read line word zs e = sym (join_with_byte-slice_split 32 line) ∙ ap (join_with_byte 32) e ∙ joined word zs

-- numbers are read from their decimals
pub numbers-map : (zs : List ℤ) → are_small zs ≡ true → numbers (map signed_decimal zs) ≡ Some zs
numbers-map [] h = refl
numbers-map (z ∷ zs) h =
    let p = small_head z zs h in
    ap (option_and_then (λ y. option_map (λ ys. y ∷ ys) (numbers (map signed_decimal zs)))) (number-signed_decimal z p.0)
    ∙ ap (option_map (λ ys. z ∷ ys)) (numbers-map zs p.1)

both_read : (n : Option ℤ) (o : Option (List ℤ)) (zs : List ℤ) → option_and_then (λ z. option_map (λ ys. z ∷ ys) o) n ≡ Some zs → (z : ℤ) × (ys : List ℤ) × (n ≡ Some z) × (o ≡ Some ys) × (z ∷ ys ≡ zs)
both_read None o zs e = cc
both_read (Some z) None zs e = cc
both_read (Some z) (Some ys) zs e = (z, ys, refl, refl, cc)

-- texts that are read as numbers are their decimals
pub numbers_read : (ts : List (List ℕ)) (zs : List ℤ) → numbers ts ≡ Some zs → are_small zs ≡ true → ts ≡ map signed_decimal zs
numbers_read [] zs e h =
    let none : [] ≡ zs = cc in
    ap (map signed_decimal) none
numbers_read (t ∷ ts) zs e h =
    let p = both_read (number t) (numbers ts) zs e in
    let small = small_head p.0 p.1 (ap are_small p.4 ∙ h) in
    let head = number_read t p.0 p.2 small.0 in
    let rest = numbers_read ts p.1 p.3 small.1 in
    ap (λ x. x ∷ ts) head ∙ ap (λ xs. signed_decimal p.0 ∷ xs) rest ∙ ap (map signed_decimal) p.4

pub counted-map : (count : ℕ) (zs : List ℤ) → length zs ≡ count → are_small zs ≡ true → counted_numbers count (map signed_decimal zs) ≡ Some zs
counted-map count zs n h =
    let counted : (length (map signed_decimal zs) == count) ≡ true = grind (arith, nat_tests, length-map zs signed_decimal) in
    ap (λ b. cond b (numbers (map signed_decimal zs)) None) counted ∙ numbers-map zs h

counted_by : (b : Bool) (o : Option (List ℤ)) (zs : List ℤ) → cond b o None ≡ Some zs → (b ≡ true) × (o ≡ Some zs)
counted_by true o zs e = (refl, e)
counted_by false o zs e = cc

pub counted_read : (count : ℕ) (ts : List (List ℕ)) (zs : List ℤ) → counted_numbers count ts ≡ Some zs → are_small zs ≡ true → (ts ≡ map signed_decimal zs) × (length zs ≡ count)
counted_read count ts zs e h =
    let p = counted_by (length ts == count) (numbers ts) zs e in
    let same = numbers_read ts zs p.1 h in
    let counted : length ts ≡ count = grind (arith, nat_tests) in
    (same, omega (arith, ap length same, length-map zs signed_decimal))

length_read : (ts : List (List ℕ)) (zs : List ℤ) → numbers ts ≡ Some zs → length zs ≡ length ts
length_read [] zs e =
    let none : [] ≡ zs = cc in
    ap length (sym none)
length_read (t ∷ ts) zs e =
    let p = both_read (number t) (numbers ts) zs e in
    omega (arith, ap length p.4, length_read ts p.1 p.3)

pub counted_length : (count : ℕ) (ts : List (List ℕ)) (zs : List ℤ) → counted_numbers count ts ≡ Some zs → length zs ≡ count
counted_length count ts zs e =
    let p = counted_by (length ts == count) (numbers ts) zs e in
    let counted : length ts ≡ count = grind (arith, nat_tests) in
    omega (arith, length_read ts zs p.1)
