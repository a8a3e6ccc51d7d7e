-- What the word of a head says of its block.
use Rattle.std.specs.Prelude.{ℕ}
use Rattle.model_core.specs.Fronts.{Shape}
use Rattle.heap_words.specs.declared.head.Head.TheVariants.{Forward}
use Rattle.heap_words.specs.Heads.{IsPackableHead, head_word}
use Rattle.heap_rule.specs.Places.{IsHeadOf}

-- the head of a block that forwards to an address
abbrev pub IsForward : ℕ → Type 0
IsForward copy = IsPackableHead (Forward copy)

-- the word of such a head
abbrev pub forward_word : ℕ → ℕ
forward_word copy = head_word (Forward copy)

-- the word is the head of a block of a shape, which doesn't forward
pub record IsHeadFor (shape : Shape) (word : ℕ) : Type 0 where
  pub head : IsHeadOf shape word
