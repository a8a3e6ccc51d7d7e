-- What a judge has written by the end, by which text tells an answer of the bytes that were read.
use Rattle.std.specs.Prelude.{ℕ, List, Option}
use Rattle.std.specs.Io.KnownBytes.{Appends}
use Rattle.judge_outputs.specs.Reading.{ReadsAll}
use Rattle.text_ends.specs.Writing.{AppendsFront}

-- the text of the answer was written
pub record WritesAnswer {J : Type 0} (Tells : J → List ℕ → Type 0) (judged : J) (before after : Option (List ℕ)) : Type 0 where
  pub text : List ℕ
  pub tells : Tells judged text
  pub written : Appends before after text

-- a front part of the text of some answer was written
pub record WritesFront {J : Type 0} (Tells : J → List ℕ → Type 0) (before after : Option (List ℕ)) : Type 0 where
  pub judged : J
  pub text : List ℕ
  pub tells : Tells judged text
  pub written : AppendsFront before after text

-- the input was read to its end, and the text of its answer was written
abbrev pub Judges : {J : Type 0} → (List ℕ → J → List ℕ → Type 0) → J → Option (List ℕ) → Option (List ℕ) → Option (List ℕ) → Option (List ℕ) → Type 0
Judges Tells judged left_before left_after before after = ReadsAll (λ bytes. WritesAnswer (Tells bytes) judged before after) left_before left_after

-- or a front part of it
abbrev pub StopsWriting : {J : Type 0} → (List ℕ → J → List ℕ → Type 0) → Option (List ℕ) → Option (List ℕ) → Option (List ℕ) → Option (List ℕ) → Type 0
StopsWriting Tells left_before left_after before after = ReadsAll (λ bytes. WritesFront (Tells bytes) before after) left_before left_after
