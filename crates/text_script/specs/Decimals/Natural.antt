-- Natural numbers in decimal: `0`, or a digit from 1 to 9 and digits. Any count of digits will do.
use Rattle.std.specs.Prelude.{ℕ, ◌+◌, ◌-◌, ◌*◌, Bool, false, not, ◌&&◌, List, [], ◌∷◌, Option, None, Some, ◌==◌, if◌then◌else◌}
use Rattle.std.specs.Char.{is_ascii_digit}
use Rattle.std.specs.Str.{all_ascii_digits}

-- whether the bytes are digits with no zero (48) in front of others
abbrev pub is_natural : List ℕ → Bool
is_natural [] = false
is_natural (b ∷ []) = is_ascii_digit b
is_natural (b ∷ c ∷ bs) = not (b == 48) && all_ascii_digits (b ∷ c ∷ bs)

-- the number that digits are, behind those that were read
abbrev pub value_on : ℕ → List ℕ → ℕ
value_on n [] = n
value_on n (b ∷ bs) = value_on (10 * n + (b - 48)) bs

-- the number that bytes are
abbrev pub natural : List ℕ → Option ℕ
natural bytes = if is_natural bytes then Some (value_on 0 bytes) else None
