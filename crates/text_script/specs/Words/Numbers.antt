-- Numbers on the command line.
use Rattle.std.specs.Prelude.{ℕ, ◌^◌, nat_lt, List, Option, Some, None, option_and_then, if◌then◌else◌}
use Rattle.text_script.specs.Decimals.Natural.{natural}

-- a number below 2^32: every range lies below
abbrev pub if_small : ℕ → Option ℕ
if_small n = if nat_lt n (2 ^ 32) then Some n else None

-- the number that a text writes in decimal, without a sign and without leading zeros, where it is below 2^32
abbrev pub option_number : List ℕ → Option ℕ
option_number text = option_and_then if_small (natural text)
