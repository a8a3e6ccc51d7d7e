-- Numbers of a line: `0`, or a digit from 1 to 9 and digits, or `-` and such a digit and digits. Any count of digits will do.
use Rattle.std.specs.Prelude.{ℕ, ◌-◌, ◌^◌, min, ℤ, pos, neg_ℤ, negsuc, suc, List, [], ◌∷◌, length, Option, None, Some, option_map, option_and_then, ◌==◌, if◌then◌else◌}
use Rattle.text_script.specs.Decimals.Natural.{natural}

-- a sign stands before a number that isn't 0
abbrev pub negated : Option ℕ → Option ℤ
negated None = None
negated (Some n) = if n == 0 then None else Some (neg_ℤ (pos n))

-- the number that bytes are
abbrev pub number : List ℕ → Option ℤ
number [] = None
number (b ∷ bs) = if b == 45 then negated (natural bs) else option_map pos (natural (b ∷ bs))

-- the numbers that these texts are, if each is one
abbrev pub numbers : List (List ℕ) → Option (List ℤ)
numbers [] = Some []
numbers (t ∷ ts) = option_and_then (λ z. option_map (λ zs. z ∷ zs) (numbers ts)) (number t)

-- exactly so many texts, each a number
abbrev pub counted_numbers : ℕ → List (List ℕ) → Option (List ℤ)
counted_numbers count ts = if length ts == count then numbers ts else None

-- no range of the grammar reaches the greatest magnitude of 64 bits, so the reader takes what lies beyond it for it
abbrev pub clipped : ℤ → ℤ
clipped (pos n) = pos (min n (2 ^ 63 - 1))
clipped (negsuc n) = neg_ℤ (pos (min (suc n) (2 ^ 63 - 1)))
