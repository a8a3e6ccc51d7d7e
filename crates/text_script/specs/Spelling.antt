-- The grammar by what a script prints as. A script has one spelling.
use Rattle.std.specs.Prelude.{◌≡◌, ℕ, ◌+◌, ◌-◌, ◌≤◌, ℤ, true, List, [], ◌∷◌, ◌++◌, map, length, flat_map, sum_by, replicate, codes, decimal, Result, Err}
use Rattle.std.specs.List.{list_all}
use Rattle.std.specs.Fmt.{signed_decimal}
use Rattle.model_core.specs.declared.command.Command.{Command}
use Rattle.model_core.specs.Output.{line}
use Rattle.text_script.specs.declared.form.Word.{Word}
use Rattle.text_script.specs.declared.fault.ScriptFault.{ScriptFault}
use Rattle.text_script.specs.declared.fault.ScriptFault.TheVariants.{Memory}
use Rattle.text_script.specs.declared.version.Version.{Version}
use Rattle.text_script.specs.Script.{Scripted}
use Rattle.text_script.specs.Forms.{form, parts, version_number, first_line, is_writable}
use Rattle.text_script.specs.Spawning.{start, sections_follow}

-- a row with its numbers, as text: one space before each number
abbrev pub row_text : Word → List ℤ → List ℕ
row_text w zs = (form w).text ++ flat_map (λ z. 32 ∷ signed_decimal z) zs

-- a command as text
abbrev pub command_text : Command → List ℕ
command_text c = row_text (parts c).word (parts c).numbers

-- the heading of section n as text
abbrev pub heading_text : ℕ → List ℕ
heading_text n = codes "domain " ++ decimal n

-- the lines of section n
abbrev pub section_lines : ℕ → List Command → List (List ℕ)
section_lines n cs = heading_text n ∷ map command_text cs

-- the lines of sections, the first of which has the number n
abbrev pub lines_from : ℕ → List (List Command) → List (List ℕ)
lines_from n [] = []
lines_from n (cs ∷ sections) = section_lines n cs ++ lines_from (n + 1) sections

-- the lines of a script
abbrev pub script_lines : Version → List (List Command) → List (List ℕ)
script_lines ver sections = first_line ver ∷ lines_from 0 sections

-- what a script with these sections prints as
abbrev pub spelling : Version → List (List Command) → List ℕ
spelling ver sections = flat_map line (script_lines ver sections)

-- what has a spelling: a section for each of the first domains, with commands of the version's grammar, and spawns and joins in order
pub record IsWritten (ver : Version) (domains : ℕ) (sections : List (List Command)) : Type 0 where
  pub few_sections : length sections ≤ domains
  pub few_commands : sum_by length sections ≤ 200000
  pub writable : list_all (list_all (is_writable ver domains)) sections ≡ true
  pub in_order : sections_follow ver start sections ≡ true

-- a script as the run gets it: the sections that are written, and an empty one for each further domain
abbrev pub with_empty : ℕ → List (List Command) → List (List Command)
with_empty domains sections = sections ++ replicate (domains - length sections) []

-- the bytes spell this script, whose version is at most the newest, for a run with so many domains
pub record Spells (newest : Version) (domains : ℕ) (script : Scripted) (bytes : List ℕ) : Type 0 where
  pub is_read : version_number script.version ≤ version_number newest
  pub written : List (List Command)
  pub is_written : IsWritten script.version domains written
  pub bytes_are : bytes ≡ spelling script.version written
  pub few_bytes : length bytes ≤ 16777216
  pub script_is : script.sections ≡ with_empty domains written

-- the answer is this one, unless memory ran out
abbrev pub IsUnlessMemory : {A : Type 0} → Result A ScriptFault → Result A ScriptFault → Type 0
IsUnlessMemory (Err Memory) answer = Unit {0}
IsUnlessMemory given answer = given ≡ answer
