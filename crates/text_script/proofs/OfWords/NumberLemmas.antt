-- The number of an option is read from its decimal, and from no other text.
use Rattle.std.proofs.Common.{◌≡◌, ℕ, ◌^◌, ◌<◌, Bool, true, false, refl, List, Some, None, decimal, ap, ◌∙◌, arith}
use Rattle.std.specs.Prelude.{Option, nat_lt, option_and_then, if◌then◌else◌}
use Rattle.std.proofs.lemmas.Bool.Decides.{nat_tests}
use Rattle.text_script.specs.Decimals.Natural.{natural}
use Rattle.text_script.proofs.OfDecimals.NaturalLemmas.{natural-decimal, natural_read}
use Rattle.text_script.specs.Words.Numbers.{if_small, option_number}

small_by : (b : Bool) (m n : ℕ) → nat_lt m (2 ^ 32) ≡ b → (if b then Some m else None) ≡ Some n → (m ≡ n) × (m < 2 ^ 32)
small_by true m n t e = (cc, grind (arith, nat_tests))
small_by false m n t e = cc

small_of : (o : Option ℕ) (n : ℕ) → option_and_then if_small o ≡ Some n → (o ≡ Some n) × (n < 2 ^ 32)
small_of None n e = cc
small_of (Some m) n e =
    let p = small_by (nat_lt m (2 ^ 32)) m n refl e in
    (ap Some p.0, omega (arith, p.0, p.1))

-- what is read as a number is a natural number in decimal
pub natural_of_number : (text : List ℕ) (n : ℕ) → option_number text ≡ Some n → (natural text ≡ Some n) × (n < 2 ^ 32)
natural_of_number text n e = small_of (natural text) n e

-- a text that is read as a number is its decimal
pub number_read : (text : List ℕ) (n : ℕ) → option_number text ≡ Some n → (text ≡ decimal n) × (n < 2 ^ 32)
number_read text n e =
    let p = natural_of_number text n e in
    (natural_read text n p.0 (omega (arith, p.1)), p.1)

-- and a number is read from its decimal
pub number_again : (n : ℕ) → n < 2 ^ 32 → option_number (decimal n) ≡ Some n
number_again n small =
    let test : nat_lt n (2 ^ 32) ≡ true = grind (arith, nat_tests) in
    ap (option_and_then if_small) (natural-decimal n (omega arith)) ∙ ap (λ (b : Bool). if b then Some n else None) test
