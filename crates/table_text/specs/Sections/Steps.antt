-- What the reader of sections does at one line.
use Rattle.std.specs.Prelude.{◌≡◌, ℕ, ◌<◌, ◌≤◌, ◌⊎◌, true, List, [], ◌∷◌, ◌++◌, length, sum_by}
use Rattle.std.specs.List.{list_all}
use Rattle.model_core.specs.Output.{line}
use Rattle.text_script.specs.Script.{with_last}
use Rattle.text_script.specs.Spelling.{heading_text}
use Rattle.table_text.specs.declared.line.TableLine.{TableLine}
use Rattle.table_text.specs.declared.version.Version.TheVariants.{Two}
use Rattle.table_text.specs.Texts.{most_lines}
use Rattle.table_text.specs.Spelling.{first_line, line_text}
use Rattle.table_text.specs.Sections.Spelling.{Sections, may_stand, sections_spelling}

-- the line is the next heading, and opens a section
pub record OpensSection (domains : ℕ) (old new : Sections) (text : List ℕ) : Type 0 where
  pub text_is : text ≡ heading_text (length old)
  pub room : length old < domains
  pub sections : new ≡ old ++ [] ∷ []

-- the line is added to the last section
pub record AddsLine (old new : Sections) (text : List ℕ) : Type 0 where
  pub added : TableLine
  pub text_is : text ≡ line_text added
  pub stands : may_stand added ≡ true
  pub begun : 0 < length old
  pub room : sum_by length old < most_lines Two
  pub sections : new ≡ with_last old added

-- the line was taken
abbrev pub TakesText : ℕ → Sections → Sections → List ℕ → Type 0
TakesText domains old new text = OpensSection domains old new text ⊎ AddsLine old new text

-- what stands behind the first line spells these sections, one for each domain
pub record SpellsBehind (domains : ℕ) (sections : Sections) (text : List ℕ) : Type 0 where
  pub text_is : line (first_line Two) ++ text ≡ sections_spelling sections
  pub one_each : length sections ≡ domains
  pub writable : list_all (list_all may_stand) sections ≡ true
  pub few_lines : sum_by length sections ≤ most_lines Two
