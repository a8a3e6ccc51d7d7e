-- The parts of a block's head word.
use Rattle.std.specs.Prelude.{◌≡◌, ℕ, ◌%◌, ◌<◌, Bool}
use Rattle.heap_words.specs.declared.head.Marks.{Marks}
use Rattle.heap_words.specs.Heads.{block_word}

-- these parts, with the word's own kind, make up the word
pub record AreMarksOf (word : ℕ) (m : Marks) : Type 0 where
  pub colour : m.colour < 3
  pub tag : m.tag < 256
  pub whole : block_word (word % 8) m.colour m.scanned m.tag m.size ≡ word

-- no parts make up the word
abbrev pub HasNoMarks : ℕ → Type 0
HasNoMarks word = (kind colour tag size : ℕ) (scanned : Bool) → kind < 8 → colour < 3 → tag < 256 → size < 65536 → block_word kind colour scanned tag size ≡ word → ⊥
