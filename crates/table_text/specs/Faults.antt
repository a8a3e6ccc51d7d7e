-- The faults of a table's text: what is wrong with a line, and the first fault of all.
use Rattle.std.specs.Prelude.{◌≡◌, map, ℕ, ◌+◌, ◌==◌, ℤ, List, [], ◌∷◌, length, bytes_eq, Option, None, Some, option_map, nat_lt, nat_le, if◌then◌else◌}
use Rattle.std.specs.List.{slice_split}
use Rattle.text_script.specs.declared.fault.ScriptFault.{ScriptFault}
use Rattle.text_script.specs.declared.fault.ScriptFault.TheVariants.{Syntax, Range, TooLong, TooMany}
use Rattle.text_script.specs.Number.{counted_numbers, clipped}
use Rattle.text_script.specs.Faults.{texts, or_else}
use Rattle.table_text.specs.declared.word.Operand.{Operand}
use Rattle.table_text.specs.declared.word.Word.{Word}
use Rattle.table_text.specs.declared.version.Version.{Version}
use Rattle.table_text.specs.declared.version.Version.TheVariants.{One, Two}
use Rattle.table_text.specs.Texts.{most_lines}
use Rattle.table_text.specs.Forms.{form, fits, word_of}
use Rattle.table_text.specs.Spelling.{first_line}

-- what a line says: a word of the table with its count of numbers, or nothing
pub data LineShape : Type 0 where
  says : Word → List ℤ → LineShape
  neither : LineShape

abbrev pub says_if : Word → Option (List ℤ) → LineShape
says_if w None = neither
says_if w (Some zs) = says w zs

-- the texts behind the word of a row
abbrev pub row_shape : Option Word → List (List ℕ) → LineShape
row_shape None ts = neither
row_shape (Some w) ts = says_if w (counted_numbers (length (form w).operands) ts)

-- the texts behind the first space of a line, if there is one
abbrev pub texts_behind : Option (List ℕ) → List (List ℕ)
texts_behind None = []
texts_behind (Some rest) = texts rest

-- what the texts of a line say
abbrev pub shape_of_texts : List (List ℕ) → LineShape
shape_of_texts [] = neither
shape_of_texts (t ∷ ts) = row_shape (word_of t) ts

-- what a line says
abbrev pub line_shape : List ℕ → LineShape
line_shape line = shape_of_texts (texts line)

-- a line says this row, and these are its numbers. One that is too large for 64 bits is the nearest that isn't
pub record SaysRow (line : List ℕ) (w : Word) (numbers : List ℤ) : Type 0 where
  pub said : List ℤ
  pub shape : line_shape line ≡ says w said
  pub numbers_are : numbers ≡ map clipped said

-- the place, counted from `which`, of the first number that is outside the range of its operand
abbrev pub first_out_of_range : ℕ → List Operand → List ℤ → Option ℕ
first_out_of_range which (kind ∷ kinds) (z ∷ zs) = if fits kind z then first_out_of_range (which + 1) kinds zs else Some which
first_out_of_range which _ _ = None

-- what is wrong with a line, by how many lines there may be, its number, how many such lines stand before it, and what it says
abbrev pub fault_of_shape : ℕ → ℕ → ℕ → LineShape → Option ScriptFault
fault_of_shape most number before neither = Some (Syntax number)
fault_of_shape most number before (says w zs) = if nat_le most before then Some (TooMany number) else option_map (Range number) (first_out_of_range 1 (form w).operands zs)

-- what stands behind the last line feed is to be empty
abbrev pub end_fault : ℕ → List ℕ → Option ScriptFault
end_fault before [] = None
end_fault before (b ∷ bs) = Some (Syntax (before + 2))

-- the first fault of the lines behind the first and so many more, where there may be so many
abbrev pub fault_from : ℕ → ℕ → List (List ℕ) → Option ScriptFault
fault_from most before [] = None
fault_from most before (rest ∷ []) = end_fault before rest
fault_from most before (line ∷ next ∷ more) = or_else (fault_of_shape most (before + 2) before (line_shape line)) (fault_from most (before + 1) (next ∷ more))

-- the version that a first line names
abbrev pub version_of : List ℕ → Option Version
version_of first = if bytes_eq first (first_line One) then Some One else if bytes_eq first (first_line Two) then Some Two else None

-- the first fault of the lines behind it
abbrev pub fault_behind : Option Version → List (List ℕ) → Option ScriptFault
fault_behind None lines = Some (Syntax 1)
fault_behind (Some version) lines = fault_from (most_lines version) 0 lines

-- the first fault of all lines
abbrev pub text_fault : List (List ℕ) → Option ScriptFault
text_fault (first ∷ next ∷ more) = fault_behind (version_of first) (next ∷ more)
text_fault _ = Some (Syntax 1)

-- the first fault of a text
abbrev pub first_fault : List ℕ → Option ScriptFault
first_fault bytes =
    if nat_lt 16777216 (length bytes) then Some (TooLong (length bytes))
    else text_fault (slice_split (λ b. b == 10) bytes)
