-- Reading a packed word back.
use Rattle.std.specs.Prelude.{◌≡◌, ℕ, IfSome, Option, Some}

-- what a word unpacks to: the one packable thing with that word, or nothing where there is none
pub record Unpacks {T : Type 0} (IsPackable : T → Type 0) (word_of : T → ℕ) (word : ℕ) (result : Option T) : Type 0 where
  pub found : IfSome result (λ x. IsPackable x × (word_of x ≡ word))
  pub only : (x : T) → IsPackable x → word_of x ≡ word → result ≡ Some x

-- something packable has this word
abbrev pub IsWordOf : {T : Type 0} (IsPackable : T → Type 0) (word_of : T → ℕ) (word : ℕ) → Type 0
IsWordOf IsPackable word_of word = (x : _) × IsPackable x × (word_of x ≡ word)

-- what the word of something packable reads as: that one thing
abbrev pub ReadsAs : {T : Type 0} (IsPackable : T → Type 0) (word_of : T → ℕ) (word : ℕ) (result : T) → Type 0
ReadsAs IsPackable word_of word result = Unpacks IsPackable word_of word (Some result)
