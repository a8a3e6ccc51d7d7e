use Rattle.std.proofs.Common.{◌≡◌, ◌≤◌, ◌+◌, ◌-◌, ◌^◌, ℕ, min, drop, length}
use Rattle.std.specs.Str.{all_ascii_digits}
use Rattle.text_script.specs.Decimals.Natural.{value_on}
use Rattle.text_script.specs.Split.{first_text}
use Rattle.text_script.proofs.number.digits_on.Given as goal

-- the digits so far are a number, of which the value is the clipped one
abbrev pub invariant-digits : goal.invariant-digits
invariant-digits l = record {
  value : (n : ℕ) × (l.value ≡ min n (2 ^ 64 - 1)) × (value_on l.fn.first (first_text (drop l.fn.at l.fn.bytes)) ≡ value_on n (first_text (drop l.end l.bytes)));
  digits : all_ascii_digits (first_text (drop l.fn.at l.fn.bytes)) ≡ all_ascii_digits (first_text (drop l.end l.bytes));
  place : l.fn.at + length (first_text (drop l.fn.at l.fn.bytes)) ≡ l.end + length (first_text (drop l.end l.bytes));
  begun : l.fn.at ≤ l.end;
  inside : l.end ≤ length l.bytes;
}

abbrev pub decreases-digits : goal.decreases-digits
decreases-digits l = length l.bytes - l.end
