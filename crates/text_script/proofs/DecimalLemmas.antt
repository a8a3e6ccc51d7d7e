-- A number with its sign has one text, which is read as the number.
use Rattle.std.proofs.Common.{◌≡◌, ℕ, ◌<◌, ◌^◌, zero, suc, ℤ, pos, negsuc, List, [], ◌∷◌, length, Bool, true, false, cond, not, ◌&&◌, refl, ap, sym, ◌∙◌, arith, None, Some, decimal}
use Rattle.std.specs.Prelude.{Option, option_map, unsigned_abs, ◌==◌}
use Rattle.std.specs.Fmt.{signed_decimal}
use Rattle.std.specs.Char.{is_ascii_digit}
use Rattle.std.specs.Str.{all_ascii_digits}
use Rattle.std.specs.List.{list_all}
use Rattle.std.proofs.lemmas.Bool.{and_parts}
use Rattle.std.proofs.lemmas.Bool.Decides.{nat_tests}
use Rattle.std.proofs.lemmas.Fmt.{digits_decimal, decimal_nonempty}
use Rattle.text_script.specs.Decimals.Natural.{natural}
use Rattle.text_script.proofs.OfDecimals.NaturalLemmas.{own, natural-decimal, natural_read}
use Rattle.text_script.specs.Number.{negated, number}

-- no byte is the mark
abbrev pub is_free : ℕ → List ℕ → Bool
is_free mark bytes = list_all (λ b. not (b == mark)) bytes

digit_free : (mark b : ℕ) → mark < 48 → is_ascii_digit b ≡ true → not (b == mark) ≡ true
digit_free mark b low e = grind (arith, nat_tests)

digits_free : (mark : ℕ) (ds : List ℕ) → mark < 48 → all_ascii_digits ds ≡ true → is_free mark ds ≡ true
digits_free mark [] low e = refl
digits_free mark (d ∷ ds) low e =
    let p = and_parts (is_ascii_digit d) (all_ascii_digits ds) e in
    ap (λ b. b && is_free mark ds) (digit_free mark d low p.0) ∙ digits_free mark ds low p.1

-- digits have no sign
plain_number : (ds : List ℕ) → all_ascii_digits ds ≡ true → 0 < length ds → number ds ≡ option_map pos (natural ds)
plain_number [] digits some = absurd (omega arith)
plain_number (d ∷ ds) digits some =
    let digit = (and_parts (is_ascii_digit d) (all_ascii_digits ds) digits).0 in
    let test : (d == 45) ≡ false = grind (arith, nat_tests) in
    ap (λ b. cond b (negated (natural ds)) (option_map pos (natural (d ∷ ds)))) test

negated-suc : (k : ℕ) → negated (Some (suc k)) ≡ Some (negsuc k)
negated-suc k =
    let test : (suc k == 0) ≡ false = grind (arith, nat_tests) in
    ap (λ b. cond b None (Some (negsuc k))) test

-- a number is read from its decimal
pub number-signed_decimal : (z : ℤ) → unsigned_abs z < 2 ^ 63 → number (signed_decimal z) ≡ Some z
number-signed_decimal (pos n) h =
    let small : n < 2 ^ 64 = omega arith in
    plain_number (decimal n) (digits_decimal own n small) (decimal_nonempty n small) ∙ ap (option_map pos) (natural-decimal n small)
number-signed_decimal (negsuc n) h = ap negated (natural-decimal (suc n) (omega arith)) ∙ negated-suc n

negated_read : (o : Option ℕ) (z : ℤ) → negated o ≡ Some z → (k : ℕ) × (o ≡ Some (suc k)) × (z ≡ negsuc k)
negated_read None z e = cc
negated_read (Some zero) z e = cc
negated_read (Some (suc k)) z e =
    let same : Some z ≡ Some (negsuc k) = sym e ∙ negated-suc k in
    (k, refl, cc)

plain_read : (o : Option ℕ) (z : ℤ) → option_map pos o ≡ Some z → (n : ℕ) × (o ≡ Some n) × (z ≡ pos n)
plain_read None z e = cc
plain_read (Some n) z e = (n, refl, cc)

read_by : (t : Bool) (b : ℕ) (bs : List ℕ) (z : ℤ) → (b == 45) ≡ t → cond t (negated (natural bs)) (option_map pos (natural (b ∷ bs))) ≡ Some z → unsigned_abs z < 2 ^ 63 → b ∷ bs ≡ signed_decimal z
read_by true b bs z sign e h =
    let p = negated_read (natural bs) z e in
    let minus : b ≡ 45 = grind (arith, nat_tests) in
    let small = ap unsigned_abs p.2 in
    let digits = natural_read bs (suc p.0) p.1 (omega (arith, small)) in
    ap (λ x. x ∷ bs) minus ∙ ap (λ x. 45 ∷ x) digits ∙ ap signed_decimal (sym p.2)
read_by false b bs z sign e h =
    let p = plain_read (natural (b ∷ bs)) z e in
    let small = ap unsigned_abs p.2 in
    natural_read (b ∷ bs) p.0 p.1 (omega (arith, small)) ∙ ap signed_decimal (sym p.2)

-- a text that is read as a number is its decimal
pub number_read : (t : List ℕ) (z : ℤ) → number t ≡ Some z → unsigned_abs z < 2 ^ 63 → t ≡ signed_decimal z
number_read [] z e h = cc
number_read (b ∷ bs) z e h = read_by (b == 45) b bs z refl e h

-- neither a space nor a line feed stands in a number
pub signed_decimal_free : (mark : ℕ) (z : ℤ) → mark < 45 → unsigned_abs z < 2 ^ 63 → is_free mark (signed_decimal z) ≡ true
signed_decimal_free mark (pos n) low h = digits_free mark (decimal n) (omega arith) (digits_decimal own n (omega arith))
signed_decimal_free mark (negsuc n) low h =
    let sign : not (45 == mark) ≡ true = grind (arith, nat_tests) in
    ap (λ b. b && is_free mark (decimal (suc n))) sign ∙ digits_free mark (decimal (suc n)) (omega arith) (digits_decimal own (suc n) (omega arith))
