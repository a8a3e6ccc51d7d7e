-- The faults of a table's text for several domains: what is wrong with a line, given what stands before it, and the first fault of all.
use Rattle.std.specs.Prelude.{ℕ, ◌+◌, ◌==◌, ℤ, pos, List, [], ◌∷◌, length, sum_by, bytes_eq, Option, None, Some, nat_lt, if◌then◌else◌}
use Rattle.std.specs.List.{slice_split}
use Rattle.std.specs.Ordering.{int_eq}
use Rattle.text_script.specs.declared.fault.ScriptFault.{ScriptFault}
use Rattle.text_script.specs.declared.fault.ScriptFault.TheVariants.{Syntax, Order, Range, TooLong}
use Rattle.text_script.specs.declared.version.Version.TheVariants as script
use Rattle.text_script.specs.Faults.{LineShape as ScriptShape, heading, line_shape as script_shape, is_section, or_else}
use Rattle.table_text.specs.declared.version.Version.TheVariants.{Two}
use Rattle.table_text.specs.Texts.{most_lines}
use Rattle.table_text.specs.Spelling.{first_line}
use Rattle.table_text.specs.Sections.Spelling.{Sections, is_count}
use Rattle.table_text.specs.Faults.{LineShape, says, neither, line_shape, fault_of_shape}

-- the number of a heading, which is spelled as a script's
abbrev pub number_if : ScriptShape → Option ℤ
number_if (heading z) = Some z
number_if _ = None

abbrev pub heading_of : List ℕ → Option ℤ
heading_of line = number_if (script_shape script.One line)

-- what a line says in a section: a count says nothing there
abbrev pub shared_shape : LineShape → LineShape
shared_shape neither = neither
shared_shape (says w zs) = if is_count w then neither else says w zs

-- what stands before a line: so many headings, and so many lines of sections
pub record Place : Type 0 where
  pub headings : ℕ
  pub lines : ℕ

abbrev pub start : Place
start = record { headings = 0; lines = 0 }

-- behind these sections
abbrev pub place_in : Sections → Place
place_in sections = record { headings = length sections; lines = sum_by length sections }

-- the number of the line that stands there, counted from 1
abbrev pub number_at : Place → ℕ
number_at p = p.headings + p.lines + 2

-- what is wrong with a heading
abbrev pub heading_fault : ℕ → Place → ℤ → Option ScriptFault
heading_fault domains p z =
    if is_section domains z then (if int_eq z (pos p.headings) then None else Some (Order (number_at p))) else Some (Range (number_at p) 1)

-- what is wrong with another line
abbrev pub section_fault : Place → LineShape → Option ScriptFault
section_fault p neither = Some (Syntax (number_at p))
section_fault p (says w zs) = if p.headings == 0 then Some (Order (number_at p)) else fault_of_shape (most_lines Two) (number_at p) p.lines (says w zs)

-- what is wrong with a line, by its heading's number, if it is one, and by what it says
abbrev pub fault_of_line : ℕ → Place → Option ℤ → LineShape → Option ScriptFault
fault_of_line domains p (Some z) shape = heading_fault domains p z
fault_of_line domains p None shape = section_fault p (shared_shape shape)

abbrev pub line_fault : ℕ → Place → List ℕ → Option ScriptFault
line_fault domains p line = fault_of_line domains p (heading_of line) (line_shape line)

-- what stands before the next line
abbrev pub behind : Place → Option ℤ → Place
behind p (Some z) = record p { headings = p.headings + 1 }
behind p None = record p { lines = p.lines + 1 }

-- behind the last line feed nothing is to stand, and each domain is to have its heading before
abbrev pub end_fault : ℕ → Place → List ℕ → Option ScriptFault
end_fault domains p [] = if p.headings == domains then None else Some (Order (number_at p))
end_fault domains p (b ∷ bs) = Some (Syntax (number_at p))

-- the first fault of the lines that stand there
abbrev pub fault_from : ℕ → Place → List (List ℕ) → Option ScriptFault
fault_from domains p [] = None
fault_from domains p (rest ∷ []) = end_fault domains p rest
fault_from domains p (line ∷ next ∷ more) = or_else (line_fault domains p line) (fault_from domains (behind p (heading_of line)) (next ∷ more))

-- the first fault of all lines: the first one is `table 2` and has a line feed
abbrev pub lines_fault : ℕ → List (List ℕ) → Option ScriptFault
lines_fault domains (first ∷ next ∷ more) = if bytes_eq first (first_line Two) then fault_from domains start (next ∷ more) else Some (Syntax 1)
lines_fault domains _ = Some (Syntax 1)

-- the first fault of a text for so many domains
abbrev pub first_sections_fault : ℕ → List ℕ → Option ScriptFault
first_sections_fault domains bytes =
    if nat_lt 16777216 (length bytes) then Some (TooLong (length bytes))
    else lines_fault domains (slice_split (λ b. b == 10) bytes)
