-- What the judge of sections comes to.
use Rattle.std.specs.Prelude.{◌≡◌, ℕ, ◌<◌, List, length, slice_get, Some}
use Rattle.table_text.specs.declared.line.TableLine.{TableLine}
use Rattle.table_text.specs.Sections.Spelling.{Sections}
use Rattle.judge_outputs.specs.declared.sections.turn.Turn.{Turn}
use Rattle.judge_outputs.specs.declared.sections.explain.Explained.{Explained}
use Rattle.judge_outputs.specs.declared.sections.explain.Explained.TheVariants.{Legal, NoneFound, GivenUp}
use Rattle.judge_outputs.specs.Sections.Turns.{TurnsAnswered, lines_of, told_from}

-- each turn is one of so many domains
abbrev pub AreOf : ℕ → List Turn → Type 0
AreOf domains turns = (i : ℕ) (t : Turn) → slice_get turns i ≡ Some t → t.domain < domains

-- each section has just the lines of its domain
abbrev pub MakesAll : Sections → List Turn → Type 0
MakesAll sections turns = (d : ℕ) (lines : List TableLine) → slice_get sections d ≡ Some lines → lines_of d turns ≡ lines

-- the bytes are the replies to all lines of these sections, in an order in which the machine may give them: each line stands in one turn, and those of a domain in their order
pub record SectionsExplain (sections : Sections) (output : List ℕ) (turns : List Turn) : Type 0 where
  pub domains : AreOf (length sections) turns
  pub makes : MakesAll sections turns
  pub answers : TurnsAnswered (length sections) turns
  pub prints : told_from 0 (length sections) turns ≡ output

-- only an order claims something: that it explains the output
abbrev pub IsTrueAnswer : Sections → List ℕ → Explained → Type 0
IsTrueAnswer sections output (Legal turns) = SectionsExplain sections output turns.items
IsTrueAnswer sections output NoneFound = Unit {0}
IsTrueAnswer sections output GivenUp = Unit {0}
