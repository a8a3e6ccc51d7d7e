-- What the reader does at one line of a section.
use Rattle.std.specs.Prelude.{◌≡◌, ℕ, ◌<◌, ◌⊎◌, Bool, true, false, slice_index_or, ◌++◌, ◌∷◌, [], List, ℤ, drop, length, sum_by, IfSome, Option, Some, None, option_map, option_and_then, pos}
use Rattle.model_core.specs.declared.command.Command.{Command}
use Rattle.model_core.specs.declared.command.Command.TheVariants.{Spawn}
use Rattle.text_script.specs.declared.form.Word.{Word}
use Rattle.text_script.specs.declared.form.Word.TheVariants as word
use Rattle.text_script.specs.declared.version.Version.{Version}
use Rattle.text_script.specs.declared.fault.ScriptFault.{ScriptFault}
use Rattle.text_script.specs.declared.fault.ScriptFault.TheVariants.{Syntax}
use Rattle.text_script.specs.Number.{clipped}
use Rattle.text_script.specs.Split.{split_at_mark, numbers_behind}
use Rattle.text_script.specs.Forms.{form, made}
use Rattle.text_script.specs.Script.{RunGrammar, Scripted, with_command}
use Rattle.text_script.specs.Spawning.{Place, place_in, has, may_begin, may_follow}
use Rattle.text_script.specs.Faults.{first_out_of_range, IsFaultUnlessMemory, LineShape, heading, command, neither, heading_shape, line_shape, fault_of_shape}

-- what a line says, and what stands behind its line feed, unless it says nothing
abbrev pub said_with : LineShape → List ℕ → Option (LineShape × List ℕ)
said_with neither left = None
said_with shape left = Some (shape, left)

-- the same of the line that begins the bytes, if it has a line feed
abbrev pub line_said : Version → List ℕ → Option (LineShape × List ℕ)
line_said ver bytes = option_and_then (λ p. said_with (line_shape ver p.0) p.1) (split_at_mark 10 bytes)

-- the same of a row's line behind its word
abbrev pub row_said : Word → List ℕ → Option (LineShape × List ℕ)
row_said w bytes = option_map (λ p. (command w p.0, p.1)) (numbers_behind (length (form w).operands) bytes)

-- the same of a heading behind its word
abbrev pub heading_said : List ℕ → Option (LineShape × List ℕ)
heading_said bytes = option_and_then (λ p. said_with (heading_shape (Some p.0)) p.1) (numbers_behind 1 bytes)

-- the number that was read of a heading, clipped, and what is left
abbrev pub IsHeading : Option (LineShape × List ℕ) → Option (ℤ × List ℕ) → Type 0
IsHeading said None = said ≡ None
IsHeading said (Some p) = (z : ℤ) × (said ≡ Some (heading z, p.1)) × (p.0 ≡ clipped z)

-- what is wrong with a line below the first, by what it says
abbrev pub fault_of_said : Version → ℕ → ℕ → Place → Option (LineShape × List ℕ) → Option ScriptFault
fault_of_said ver domains line place None = Some (Syntax line)
fault_of_said ver domains line place (Some p) = fault_of_shape ver domains line place p.0

-- a heading opened the next section
pub record OpensSection (ver : Version) (domains : ℕ) (shape : LineShape) (old new : List (List Command)) : Type 0 where
  pub is_next : shape ≡ heading (pos (length old))
  pub in_range : length old < domains
  pub in_order : may_begin ver (place_in old) ≡ true
  pub sections : new ≡ old ++ [] ∷ []

-- a line says this command of a row, and nothing but the order of spawns may be wrong with it behind these sections
pub record Says (ver : Version) (domains : ℕ) (said : Option (LineShape × List ℕ)) (left : List ℕ) (old : List (List Command)) (word : Word) (c : Command) : Type 0 where
  pub numbers : List ℤ
  pub is_said : said ≡ Some (command word numbers, left)
  pub in_ranges : first_out_of_range ver domains 1 (form word).operands numbers ≡ None
  pub begun : 0 < length old
  pub room : sum_by length old < 200000
  pub is : c ≡ made word numbers

-- a command was added to the last section
pub record AddsCommand (ver : Version) (domains : ℕ) (shape : LineShape) (old new : List (List Command)) : Type 0 where
  pub word : Word
  pub numbers : List ℤ
  pub is_command : shape ≡ command word numbers
  pub in_ranges : first_out_of_range ver domains 1 (form word).operands numbers ≡ None
  pub begun : 0 < length old
  pub room : sum_by length old < 200000
  pub in_order : may_follow ver (place_in old) (made word numbers) ≡ true
  pub sections : new ≡ with_command old (made word numbers)

-- the line was taken
abbrev pub TakesLine : Version → ℕ → LineShape → List (List Command) → List (List Command) → Type 0
TakesLine ver domains shape old new = OpensSection ver domains shape old new ⊎ AddsCommand ver domains shape old new

-- the line that said this was taken, and these bytes are left
pub record TakesSaid (ver : Version) (domains : ℕ) (said : Option (LineShape × List ℕ)) (left : List ℕ) (old new : List (List Command)) : Type 0 where
  pub shape : LineShape
  pub is_said : said ≡ Some (shape, left)
  pub takes : TakesLine ver domains shape old new

-- whether a row's commands may stand anywhere in the order of spawns
abbrev pub stands_anywhere : Word → Bool
stands_anywhere word.Spawn = false
stands_anywhere word.Join = false
stands_anywhere _ = true

-- marks, by the numbers of sections, say which sections are among these
abbrev pub AreMarks : List Bool → List ℕ → Type 0
AreMarks marks ns = (n : ℕ) → slice_index_or marks n false ≡ has ns n

-- what the reader knows of spawns so far
pub record Knows (named own : List Bool) (p : Place) : Type 0 where
  pub all_named : AreMarks named p.named
  pub own_named : AreMarks own p.own

-- a spawn names a section that a run can have
abbrev pub IsInside : Command → Type 0
IsInside (Spawn section item) = section < 8
IsInside _ = Unit {0}

-- what the line that begins at a place says
abbrev pub line_at : RunGrammar → List ℕ → ℕ → Option (LineShape × List ℕ)
line_at g bytes at = line_said g.version (drop at bytes)

-- the line that said this was taken, and the next one begins at this place
abbrev pub Takes : RunGrammar → Option (LineShape × List ℕ) → List ℕ → Scripted → Scripted → ℕ → Type 0
Takes g said bytes old new next = TakesSaid g.version g.domains said (drop next bytes) old.sections new.sections

-- the same of a line whose command is added
abbrev pub TakesCommand : RunGrammar → Option (LineShape × List ℕ) → List ℕ → Scripted → Command × ℕ → Type 0
TakesCommand g said bytes old found = TakesSaid g.version g.domains said (drop found.1 bytes) old.sections (with_command old.sections found.0)

-- what is known of spawns stays known with such a command
abbrev pub StaysKnown : List (List Command) → Option (Command × ℕ) → Type 0
StaysKnown old found = (named own : List Bool) → Knows named own (place_in old) → IfSome found (λ p. Knows named own (place_in (with_command old p.0)))

-- what is wrong with the line that says this, behind these sections, unless memory ran out
abbrev pub IsFaultOf : RunGrammar → ℕ → Scripted → Option (LineShape × List ℕ) → ScriptFault → Type 0
IsFaultOf g line old said fault = IsFaultUnlessMemory fault (fault_of_said g.version g.domains line (place_in old.sections) said)
