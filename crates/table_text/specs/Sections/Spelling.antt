-- The text of a table for several domains, by what it prints as: the line `table 2`, and for each domain its heading and the lines of its section. It has one spelling.
use Rattle.std.specs.Prelude.{◌≡◌, ℕ, ◌+◌, ◌≤◌, Bool, true, false, not, ◌&&◌, List, [], ◌∷◌, ◌++◌, map, length, flat_map, sum_by}
use Rattle.std.specs.List.{list_all}
use Rattle.model_core.specs.Output.{line}
use Rattle.text_script.specs.Spelling.{heading_text}
use Rattle.table_text.specs.declared.line.TableLine.{TableLine}
use Rattle.table_text.specs.declared.word.Word.{Word}
use Rattle.table_text.specs.declared.word.Word.TheVariants as word
use Rattle.table_text.specs.declared.version.Version.TheVariants.{Two}
use Rattle.table_text.specs.Texts.{most_lines}
use Rattle.table_text.specs.Forms.{parts, is_writable}
use Rattle.table_text.specs.Spelling.{first_line, line_text}

-- the word of lines that may stand in no section: what all domains bind can't be counted beside the others
abbrev pub is_count : Word → Bool
is_count word.Count = true
is_count _ = false

-- whether a line may stand in a section
abbrev pub may_stand : TableLine → Bool
may_stand l = not (is_count (parts l).word) && is_writable l

-- the lines of each section
abbrev pub Sections : Type 0
Sections = List (List TableLine)

-- the lines of sections, the first of which is that of domain d: each heading, and the lines behind it
abbrev pub lines_from : ℕ → Sections → List (List ℕ)
lines_from d [] = []
lines_from d (ls ∷ sections) = (heading_text d ∷ map line_text ls) ++ lines_from (d + 1) sections

-- all lines of a text
abbrev pub sections_lines : Sections → List (List ℕ)
sections_lines sections = first_line Two ∷ lines_from 0 sections

-- what a text with these sections prints as
abbrev pub sections_spelling : Sections → List ℕ
sections_spelling sections = flat_map line (sections_lines sections)

-- the bytes spell these sections, one for each domain: each line is one of their grammar, and neither they nor the bytes are too many
pub record SpellsSections (domains : ℕ) (sections : Sections) (bytes : List ℕ) : Type 0 where
  pub bytes_are : bytes ≡ sections_spelling sections
  pub one_each : length sections ≡ domains
  pub writable : list_all (list_all may_stand) sections ≡ true
  pub few_lines : sum_by length sections ≤ most_lines Two
  pub few_bytes : length bytes ≤ 16777216
