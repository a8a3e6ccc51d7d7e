-- The faults of a script: what is wrong with a line, given the lines before it, and the first fault of all.
use Rattle.std.specs.Prelude.{◌≡◌, ℕ, ◌+◌, ℤ, pos, negsuc, Bool, true, false, List, [], ◌∷◌, ◌++◌, length, fold, codes, bytes_eq, Option, None, Some, option_map, option_and_then, ◌==◌, nat_lt, nat_le, if◌then◌else◌}
use Rattle.std.specs.List.{slice_split}
use Rattle.std.specs.Ordering.{int_eq}
use Rattle.text_script.specs.declared.form.Operand.{Operand}
use Rattle.text_script.specs.declared.form.Word.{Word}
use Rattle.text_script.specs.declared.version.Version.{Version}
use Rattle.text_script.specs.declared.version.Version.TheVariants.{One, Two, Three}
use Rattle.text_script.specs.declared.fault.ScriptFault.{ScriptFault}
use Rattle.text_script.specs.declared.fault.ScriptFault.TheVariants.{Syntax, Order, Range, TooLong, TooMany, Spawn, Memory}
use Rattle.text_script.specs.Number.{counted_numbers}
use Rattle.text_script.specs.Forms.{form, fits, made, version_number, first_line, word_of}
use Rattle.text_script.specs.Spawning.{Place, start, opened, called, may_begin, may_follow}

-- what a line says, whatever stands before it
pub data LineShape : Type 0 where
  heading : ℤ → LineShape
  command : Word → List ℤ → LineShape
  neither : LineShape

-- a command, if it has its count of numbers
abbrev pub command_shape : Word → Option (List ℤ) → LineShape
command_shape w None = neither
command_shape w (Some zs) = command w zs

-- a heading, if it has one number
abbrev pub heading_shape : Option (List ℤ) → LineShape
heading_shape (Some (z ∷ [])) = heading z
heading_shape _ = neither

-- the texts behind the word of a row
abbrev pub row_shape : Option Word → List (List ℕ) → LineShape
row_shape None ts = neither
row_shape (Some w) ts = command_shape w (counted_numbers (length (form w).operands) ts)

-- what the texts of a line say
abbrev pub shape_of_texts : Version → List (List ℕ) → LineShape
shape_of_texts ver [] = neither
shape_of_texts ver (t ∷ ts) = if bytes_eq t (codes "domain") then heading_shape (counted_numbers 1 ts) else row_shape (word_of ver t) ts

-- a line, split at each space
abbrev pub texts : List ℕ → List (List ℕ)
texts line = slice_split (λ b. b == 32) line

-- what a line says
abbrev pub line_shape : Version → List ℕ → LineShape
line_shape ver line = shape_of_texts ver (texts line)

-- what stands before the next line, by what a line says
abbrev pub behind_shape : Place → LineShape → Place
behind_shape p (heading z) = opened p
behind_shape p (command w zs) = called p (made w zs)
behind_shape p neither = p

-- what stands behind some lines
abbrev pub place_of : Version → List (List ℕ) → Place
place_of ver lines = fold (λ p l. behind_shape p (line_shape ver l)) start lines

-- the place, counted from `which`, of the first number that is outside the range of its operand
abbrev pub first_out_of_range : Version → ℕ → ℕ → List Operand → List ℤ → Option ℕ
first_out_of_range ver domains which (kind ∷ kinds) (z ∷ zs) = if fits ver domains kind z then first_out_of_range ver domains (which + 1) kinds zs else Some which
first_out_of_range ver domains which _ _ = None

-- whether a number is that of a section in a run with so many domains
abbrev pub is_section : ℕ → ℤ → Bool
is_section domains (pos n) = nat_lt n domains
is_section domains (negsuc n) = false

-- the first of two faults
abbrev pub or_else : Option ScriptFault → Option ScriptFault → Option ScriptFault
or_else (Some f) later = Some f
or_else None later = later

-- the last in the order of a line: a spawn, a join or a heading that may not stand there
abbrev pub order_fault : Bool → ℕ → Option ScriptFault
order_fault true line = None
order_fault false line = Some (Spawn line)

-- what is wrong with a line below the first, by its number, what stands before it, and what it says
abbrev pub fault_of_shape : Version → ℕ → ℕ → Place → LineShape → Option ScriptFault
fault_of_shape ver domains line p neither = Some (Syntax line)
fault_of_shape ver domains line p (heading z) =
    if is_section domains z then (if int_eq z (pos p.headings) then order_fault (may_begin ver p) line else Some (Order line)) else Some (Range line 1)
fault_of_shape ver domains line p (command w zs) =
    if p.headings == 0 then Some (Order line)
    else if nat_le 200000 p.commands then Some (TooMany line)
    else or_else (option_map (Range line) (first_out_of_range ver domains 1 (form w).operands zs)) (order_fault (may_follow ver p (made w zs)) line)

-- the version whose scripts have this first line, if there is one
abbrev pub version_of : List ℕ → Option Version
version_of line =
    if bytes_eq line (first_line One) then Some One
    else if bytes_eq line (first_line Two) then Some Two
    else if bytes_eq line (first_line Three) then Some Three
    else None

-- the same, unless it is newer than the newest that is read
abbrev pub read_version : Version → List ℕ → Option Version
read_version newest line = option_and_then (λ ver. if nat_le (version_number ver) (version_number newest) then Some ver else None) (version_of line)

-- what is wrong with a line below the first, given the lines before it
abbrev pub line_fault : Version → ℕ → List (List ℕ) → List ℕ → Option ScriptFault
line_fault ver domains lines line = fault_of_shape ver domains (length lines + 1) (place_of ver lines) (line_shape ver line)

-- what is wrong with what stands behind the last line feed, given the lines: it is to be empty, and not the first
abbrev pub end_fault : List (List ℕ) → List ℕ → Option ScriptFault
end_fault (first ∷ before) [] = None
end_fault lines rest = Some (Syntax (length lines + 1))

-- the first fault of these lines and of what stands behind their last line feed, given the lines before them, which begin with the first line
abbrev pub fault_from : Version → ℕ → List (List ℕ) → List (List ℕ) → Option ScriptFault
fault_from ver domains before [] = None
fault_from ver domains before (rest ∷ []) = end_fault before rest
fault_from ver domains before (line ∷ next ∷ more) = or_else (line_fault ver domains before line) (fault_from ver domains (before ++ line ∷ []) (next ∷ more))

-- the first fault of the lines behind the first, which names the version
abbrev pub fault_behind : ℕ → List ℕ → Option Version → List (List ℕ) → Option ScriptFault
fault_behind domains first None lines = Some (Syntax 1)
fault_behind domains first (Some ver) lines = fault_from ver domains (first ∷ []) lines

-- the first fault of all lines: the first one has a line feed and names a version that is read
abbrev pub script_fault : Version → ℕ → List (List ℕ) → Option ScriptFault
script_fault newest domains (first ∷ next ∷ more) = fault_behind domains first (read_version newest first) (next ∷ more)
script_fault newest domains _ = Some (Syntax 1)

-- the first fault of a script, where versions up to the newest are read
abbrev pub first_fault : Version → ℕ → List ℕ → Option ScriptFault
first_fault newest domains bytes =
    if nat_lt 16777216 (length bytes) then Some (TooLong (length bytes))
    else script_fault newest domains (slice_split (λ b. b == 10) bytes)

-- the fault is the first one, unless memory ran out
abbrev pub IsFaultUnlessMemory : ScriptFault → Option ScriptFault → Type 0
IsFaultUnlessMemory Memory first = Unit {0}
IsFaultUnlessMemory fault first = first ≡ Some fault
