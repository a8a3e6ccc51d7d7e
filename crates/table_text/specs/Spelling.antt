-- The grammar by what a table's text prints as. A text has one spelling.
use Rattle.std.specs.Prelude.{◌≡◌, ℕ, ◌≤◌, ℤ, true, List, ◌∷◌, ◌++◌, map, length, flat_map, codes}
use Rattle.std.specs.List.{list_all}
use Rattle.std.specs.Fmt.{signed_decimal}
use Rattle.model_core.specs.Output.{line}
use Rattle.table_text.specs.declared.line.TableLine.{TableLine}
use Rattle.table_text.specs.declared.word.Word.{Word}
use Rattle.table_text.specs.declared.version.Version.{Version}
use Rattle.table_text.specs.declared.version.Version.TheVariants.{One, Two}
use Rattle.table_text.specs.Texts.{Text, most_lines}
use Rattle.table_text.specs.Forms.{form, parts, is_writable}

-- the first line
abbrev pub first_line : Version → List ℕ
first_line One = codes "table 1"
first_line Two = codes "table 2"

-- a row with its numbers, as text: one space before each number
abbrev pub row_text : Word → List ℤ → List ℕ
row_text w zs = (form w).text ++ flat_map (λ z. 32 ∷ signed_decimal z) zs

-- a line as text
abbrev pub line_text : TableLine → List ℕ
line_text l = row_text (parts l).word (parts l).numbers

-- what these lines print as, with the first line before them
abbrev pub spelled : Version → List TableLine → List ℕ
spelled version lines = flat_map line (first_line version ∷ map line_text lines)

abbrev pub spelling : Text → List ℕ
spelling text = spelled text.version text.lines

-- the bytes spell this text: each line is one of the grammar, and neither they nor the bytes are too many
pub record Spells (text : Text) (bytes : List ℕ) : Type 0 where
  pub bytes_are : bytes ≡ spelling text
  pub writable : list_all is_writable text.lines ≡ true
  pub few_lines : length text.lines ≤ most_lines text.version
  pub few_bytes : length bytes ≤ 16777216
