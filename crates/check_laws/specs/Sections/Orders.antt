-- How the sections of a script spawn and join one another.
use Rattle.std.specs.Prelude.{◌≡◌, ℕ, ◌<◌, ◌≤◌, IsTrue, List, ◌∷◌, ◌++◌, length, sum_by, count_by}
use Rattle.std.specs.List.{list_any}
use Rattle.model_core.specs.declared.command.Command.{Command}
use Rattle.model_core.specs.declared.command.Command.TheVariants.{Spawn, Join}
use Rattle.model_traces.specs.Spawns.Expansion.{is_spawn_of, section_at}
use Rattle.text_script.specs.Spawned.Reads.{IsRead}
use Rattle.text_script.specs.Script.{Scripted}

-- how many spawns of a script name a section
abbrev pub spawns_of : List (List Command) → ℕ → ℕ
spawns_of script section = sum_by (count_by (is_spawn_of section)) script

-- each section has a domain, none is spawned twice, each is spawned by an earlier one, and a join names one that its own section has spawned before it
pub record IsOrderly (domains : ℕ) (script : List (List Command)) : Type 0 where
  pub few : length script ≤ domains
  pub once : (section : ℕ) → spawns_of script section ≤ 1
  pub inside : (d section item : ℕ) (before behind : List Command) → section_at script d ≡ before ++ Spawn section item ∷ behind → section < domains
  pub later : (d section item : ℕ) (before behind : List Command) → section_at script d ≡ before ++ Spawn section item ∷ behind → d < section
  pub own : (d dst section : ℕ) (before behind : List Command) → section_at script d ≡ before ++ Join dst section ∷ behind → IsTrue (list_any (is_spawn_of section) before)

-- each script of version 3 that is read is such a script
abbrev pub ScriptsAreOrderly : Type 0
ScriptsAreOrderly = (domains : ℕ) (script : Scripted) → IsRead domains script → IsOrderly domains script.sections
