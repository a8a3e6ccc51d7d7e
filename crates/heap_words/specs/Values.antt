-- The words of values.
use Rattle.std.specs.Prelude.{◌≡◌, ℕ, ◌+◌, ◌*◌, ◌^◌, ◌<◌, ◌≤◌, ℤ, pos, ◌+ℤ◌, ◌*ℤ◌, ◌≤ℤ◌, ◌<ℤ◌, neg_ℤ}
use Rattle.std.specs.Int.{cast_unsigned, w64}
use Rattle.heap_words.specs.declared.value.Value.{Value}
use Rattle.heap_words.specs.declared.value.Value.TheVariants.{Int, Ref, Nothing}

-- the values that have a word: integers of 63 bits and addresses from 1 on
abbrev pub IsPackable : Value → Type 0
IsPackable (Int v) = (neg_ℤ (pos (2 ^ 62)) ≤ℤ v) × (v <ℤ pos (2 ^ 62))
IsPackable (Ref address) = (1 ≤ address) × (address < 2 ^ 32)
IsPackable Nothing = Unit {0}

-- the word of a value: an integer has the lowest bit 1, an address and nothing have it 0
abbrev pub value_word : Value → ℕ
value_word (Int v) = cast_unsigned w64 (pos 2 *ℤ v +ℤ pos 1)
value_word (Ref address) = 2 * address
value_word Nothing = 0
