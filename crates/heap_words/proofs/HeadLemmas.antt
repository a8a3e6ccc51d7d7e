-- What a head's word says of its parts.
use Rattle.std.proofs.Common.{◌≡◌, ℕ, ◌+◌, ◌*◌, ◌/◌, ◌%◌, ◌≤◌, ◌<◌, Bool, true, false, arith, None}
use Rattle.heap_words.specs.declared.head.Head.{Head}
use Rattle.heap_words.specs.declared.head.Head.TheVariants.{Free, Plain, Ephe, Forward}
use Rattle.heap_words.specs.Heads.{IsPackableHead, head_word, block_word, bit_of}
use Rattle.heap_words.specs.Marks.{HasNoMarks}
use Rattle.heap_words.specs.Unpacked.{Unpacks}

-- where no parts make up a word of a block's kind, no head has that word
pub no_block : (word : ℕ) → 1 ≤ word % 8 → word % 8 ≤ 2 → HasNoMarks word → (h : Head) → IsPackableHead h → head_word h ≡ word → ⊥
no_block word low high apart Free p e = omega arith
no_block word low high apart (Plain size tag colour scanned) p e = apart 1 colour tag size scanned (omega arith) (omega arith) (omega arith) (omega arith) e
no_block word low high apart (Ephe keys colour scanned) p e = apart 2 colour 0 keys scanned (omega arith) (omega arith) (omega arith) (omega arith) e
no_block word low high apart (Forward address) p e = omega arith

pub unpacks_none : (word : ℕ) → 1 ≤ word % 8 → word % 8 ≤ 2 → HasNoMarks word → Unpacks IsPackableHead head_word word None
unpacks_none word low high apart = record { found = tt; only = λ h p e. absurd (no_block word low high apart h p e) }

-- darkening, scanning and recolouring change these bits of a block's word, and no others
pub block_word-marks : (kind tag size before after : ℕ) (was is : Bool) →
    block_word kind after is tag size + 8 * before + 32 * bit_of was ≡ block_word kind before was tag size + 8 * after + 32 * bit_of is
block_word-marks kind tag size before after was is = omega arith

-- the parts of a block's word, each by itself
pub block_word-kind : (kind colour tag size : ℕ) (scanned : Bool) → kind < 8 → colour < 4 → tag < 256 → block_word kind colour scanned tag size % 8 ≡ kind
block_word-kind kind colour tag size scanned k c t = omega arith

pub block_word-colour : (kind colour tag size : ℕ) (scanned : Bool) → kind < 8 → colour < 4 → tag < 256 → block_word kind colour scanned tag size / 8 % 4 ≡ colour
block_word-colour kind colour tag size true k c t = omega arith
block_word-colour kind colour tag size false k c t = omega arith

pub block_word-scanned : (kind colour tag size : ℕ) (scanned : Bool) → kind < 8 → colour < 4 → tag < 256 → block_word kind colour scanned tag size / 32 % 2 ≡ bit_of scanned
block_word-scanned kind colour tag size true k c t = omega arith
block_word-scanned kind colour tag size false k c t = omega arith

pub block_word-tag : (kind colour tag size : ℕ) (scanned : Bool) → kind < 8 → colour < 4 → tag < 256 → block_word kind colour scanned tag size / 256 % 256 ≡ tag
block_word-tag kind colour tag size true k c t = omega arith
block_word-tag kind colour tag size false k c t = omega arith

pub block_word-size : (kind colour tag size : ℕ) (scanned : Bool) → kind < 8 → colour < 4 → tag < 256 → size < 65536 → block_word kind colour scanned tag size / 65536 ≡ size
block_word-size kind colour tag size true k c t s = omega arith
block_word-size kind colour tag size false k c t s = omega arith
