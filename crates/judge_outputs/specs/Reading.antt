-- What is read of a source. Where the source tells its bytes, these are the bytes that it had left.
use Rattle.std.specs.Prelude.{◌≡◌, ℕ, List, length, Option}
use Rattle.std.specs.Io.KnownBytes.{Consumes, IsAtEnd}

-- as many bytes as this are too many
abbrev pub too_many : ℕ
too_many = 1073741824

-- the source was read to its end, and these were its bytes
pub record IsReadWhole (before after : Option (List ℕ)) (bytes : List ℕ) : Type 0 where
  pub consumed : Consumes before after bytes
  pub at_end : IsAtEnd after

-- too many bytes were read
pub record IsReadInPart (before after : Option (List ℕ)) : Type 0 where
  pub bytes : List ℕ
  pub consumed : Consumes before after bytes
  pub many : length bytes ≡ too_many

-- the source was read to its end, and this holds of its bytes
pub record ReadsAll (Holds : List ℕ → Type 0) (before after : Option (List ℕ)) : Type 0 where
  pub bytes : List ℕ
  pub read : IsReadWhole before after bytes
  pub holds : Holds bytes
