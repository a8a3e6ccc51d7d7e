-- What a write of a text does to the bytes of a sink.
use Rattle.std.specs.Prelude.{◌≡◌, ℕ, List, ◌++◌, Option, Result, MatchResult}
use Rattle.std.specs.Io.KnownBytes.{Appends}

-- a front part of the text was appended
pub record AppendsFront (before after : Option (List ℕ)) (text : List ℕ) : Type 0 where
  pub front : List ℕ
  pub rest : List ℕ
  pub splits : text ≡ front ++ rest
  pub appended : Appends before after front

-- the text was appended, or where that failed a front part of it
abbrev pub Writes : {T E : Type 0} → Option (List ℕ) → Option (List ℕ) → Result T E → List ℕ → Type 0
Writes before after result text = MatchResult result (λ _. Appends before after text) (λ _. AppendsFront before after text)
