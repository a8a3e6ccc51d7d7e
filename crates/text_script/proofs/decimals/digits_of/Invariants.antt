use Rattle.std.proofs.Common.{◌≡◌, ◌^◌, ◌-◌, ℕ, min, drop}
use Rattle.std.specs.Str.{all_ascii_digits}
use Rattle.text_script.specs.Decimals.Natural.{value_on}
use Rattle.text_script.proofs.decimals.digits_of.Given as goal

-- the digits so far are a number, of which the sum is the clipped one
abbrev pub invariant-loop-byte : goal.invariant-loop-byte
invariant-loop-byte l =
    (n : ℕ) × (l.sum ≡ min n (2 ^ 64 - 1)) × (value_on 0 l.bytes ≡ value_on n (drop l.byte-index l.bytes)) × (all_ascii_digits l.bytes ≡ all_ascii_digits (drop l.byte-index l.bytes))
