-- A script: its version, and its sections.
use Rattle.std.specs.Prelude.{ℕ, List, [], ◌∷◌, ◌++◌}
use Rattle.model_core.specs.declared.command.Command.{Command}
use Rattle.text_script.specs.declared.version.Version.{Version}

-- a script as contracts see it
pub record Scripted : Type 0 where
  pub version : Version
  pub sections : List (List Command)

-- a grammar as contracts see it: a version, and for how many domains a script is read
pub record RunGrammar : Type 0 where
  pub version : Version
  pub domains : ℕ

-- lists with one more at the end of the last
abbrev pub with_last : {C : Type 0} → List (List C) → C → List (List C)
with_last [] c = []
with_last (cs ∷ []) c = (cs ++ c ∷ []) ∷ []
with_last (cs ∷ next ∷ lists) c = cs ∷ with_last (next ∷ lists) c

-- the sections with a command at the end of the last
abbrev pub with_command : List (List Command) → Command → List (List Command)
with_command sections c = with_last sections c
