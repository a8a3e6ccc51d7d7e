-- A number's text is its decimal, and its decimal is read as the number.
use Rattle.std.proofs.Common.{◌≡◌, ◌≢◌, ℕ, ◌<◌, ◌^◌, zero, suc, List, [], ◌∷◌, length, get_or, Bool, true, false, cond, not, ◌&&◌, refl, ap, sym, ◌∙◌, arith, rules, None, Some, decimal}
use Rattle.std.specs.Prelude.{◌==◌}
use Rattle.std.specs.Char.{is_ascii_digit}
use Rattle.std.specs.Str.{all_ascii_digits}
use Rattle.std.proofs.lemmas.Bool.Decides.{nat_tests}
use Rattle.std.proofs.lemmas.Str.Parse.{IsNumeralModel, numerals_by_fold}
use Rattle.std.proofs.lemmas.Fmt.{digits_decimal, digits_value-decimal, decimal-digits_value, first_decimal, decimal_digit, decimal_nonempty}
use Rattle.text_script.specs.Decimals.Natural.{is_natural, value_on, natural}

pub own : IsNumeralModel (λ ds. all_ascii_digits ds ≡ true) (value_on 0)
own = numerals_by_fold _ (search rules) value_on (search rules)

-- the two parts of a test
pub both : (a b : Bool) → (a && b) ≡ true → (a ≡ true) × (b ≡ true)
both true b e = (refl, e)
both false b e = cc

-- what has no zero in front of others is a number's text
natural_text : (ds : List ℕ) → all_ascii_digits ds ≡ true → 0 < length ds → (get_or ds 0 0 ≡ 48 → length ds ≡ 1) → is_natural ds ≡ true
natural_text [] digits some lead = absurd (omega arith)
natural_text (d ∷ []) digits some lead = (both (is_ascii_digit d) true digits).0
natural_text (d ∷ c ∷ ds) digits some lead =
    let other : d ≢ 48 = λ e. absurd (omega (arith, lead e)) in
    let test : not (d == 48) ≡ true = grind (arith, nat_tests) in
    ap (λ b. b && all_ascii_digits (d ∷ c ∷ ds)) test ∙ digits

decimal_lead : (n : ℕ) → n < 2 ^ 64 → get_or (decimal n) 0 0 ≡ 48 → length (decimal n) ≡ 1
decimal_lead zero h e = ap length (decimal_digit 0 (omega arith))
decimal_lead (suc n) h e = absurd (omega (arith, first_decimal (suc n) (omega arith) h, e))

-- a number is read from its decimal
pub natural-decimal : (n : ℕ) → n < 2 ^ 64 → natural (decimal n) ≡ Some n
natural-decimal n h =
    let test = natural_text (decimal n) (digits_decimal own n h) (decimal_nonempty n h) (decimal_lead n h) in
    ap (λ b. cond b (Some (value_on 0 (decimal n))) None) test ∙ ap Some (digits_value-decimal own n h)

picked : (b : Bool) (x n : ℕ) → cond b (Some x) None ≡ Some n → (b ≡ true) × (x ≡ n)
picked true x n e = (refl, cc)
picked false x n e = cc

-- what is read as a number is its digits
pub natural_is : (ds : List ℕ) (n : ℕ) → natural ds ≡ Some n → is_natural ds ≡ true
natural_is ds n e = (picked (is_natural ds) (value_on 0 ds) n e).0

natural_digits : (ds : List ℕ) → is_natural ds ≡ true → (all_ascii_digits ds ≡ true) × (0 < length ds) × (get_or ds 0 0 ≡ 48 → length ds ≡ 1)
natural_digits [] e = cc
natural_digits (d ∷ []) e = (ap (λ b. b && true) e, omega arith, λ h. refl)
natural_digits (d ∷ c ∷ ds) e =
    let p = both (not (d == 48)) (all_ascii_digits (d ∷ c ∷ ds)) e in
    let other : d ≢ 48 = grind (arith, nat_tests) in
    (p.1, omega arith, λ h. absurd (other h))

-- the text of a number is its decimal
pub natural_read : (ds : List ℕ) (n : ℕ) → natural ds ≡ Some n → n < 2 ^ 64 → ds ≡ decimal n
natural_read ds n e h =
    let p = picked (is_natural ds) (value_on 0 ds) n e in
    let digits = natural_digits ds p.0 in
    sym (decimal-digits_value own ds digits.0 digits.1 digits.2 (omega (arith, p.1))) ∙ ap decimal p.1
