-- The words of heads.
use Rattle.std.specs.Prelude.{ℕ, ◌+◌, ◌*◌, ◌^◌, ◌<◌, ◌≤◌, Bool, true, false}
use Rattle.heap_words.specs.declared.head.Head.{Head}
use Rattle.heap_words.specs.declared.head.Head.TheVariants.{Free, Plain, Ephe, Forward}

-- a mark as a bit
abbrev pub bit_of : Bool → ℕ
bit_of true = 1
bit_of false = 0

-- the heads that have a word: sizes, keys, colours and addresses in their ranges
abbrev pub IsPackableHead : Head → Type 0
IsPackableHead Free = Unit {0}
IsPackableHead (Plain size tag colour scanned) = (1 ≤ size) × (size ≤ 1022) × (tag < 256) × (colour < 3)
IsPackableHead (Ephe keys colour scanned) = (1 ≤ keys) × (keys ≤ 8) × (colour < 3)
IsPackableHead (Forward address) = (1 ≤ address) × (address < 2 ^ 32)

-- the word of a block's kind, colour, scanned mark, tag and size
abbrev pub block_word : ℕ → ℕ → Bool → ℕ → ℕ → ℕ
block_word kind colour scanned tag size = kind + 8 * colour + 32 * bit_of scanned + 256 * tag + 65536 * size

-- the word of a head
abbrev pub head_word : Head → ℕ
head_word Free = 0
head_word (Plain size tag colour scanned) = block_word 1 colour scanned tag size
head_word (Ephe keys colour scanned) = block_word 2 colour scanned 0 keys
head_word (Forward address) = 3 + 2 ^ 32 * address
