-- How a step reads the word that it found.
use Rattle.std.specs.Prelude.{◌≡◌, ℕ}
use Rattle.heap_words.specs.declared.value.Value.{Value}
use Rattle.heap_words.specs.declared.value.Value.TheVariants.{Nothing}
use Rattle.heap_words.specs.Values.{IsPackable, value_word}
use Rattle.heap_rule.specs.declared.change.Reading.{Reading}
use Rattle.heap_rule.specs.declared.change.Reading.TheVariants.{Unread, AsValue}

-- the word can be read as this value
abbrev pub Reads : Reading → ℕ → Value → Type 0
Reads Unread word v = v ≡ Nothing
Reads AsValue word v = IsPackable v × (value_word v ≡ word)
