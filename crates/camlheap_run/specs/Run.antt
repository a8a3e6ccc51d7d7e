-- A run of a script: one history in which each domain makes its section and ends.
use Rattle.std.specs.Prelude.{◌≡◌, ℕ, ◌<◌, List, [], slice_index_or, IsTrue}
use Rattle.std.specs.List.{list_any}
use Rattle.model_core.specs.declared.command.Command.{Command}
use Rattle.model_core.specs.declared.entry.Entry.{Entry}
use Rattle.model_core.specs.declared.state.Sizes.{Sizes}
use Rattle.model_core.specs.History.{Legal, commands}
use Rattle.run_turns.specs.Runs.{is_end_of}
use Rattle.text_script.specs.declared.version.Version.{Version}
use Rattle.text_script.specs.declared.version.Version.TheVariants.{Three}
use Rattle.text_script.specs.Spawning.{is_spawned}
use Rattle.model_core.specs.Output.{output}
use Rattle.model_traces.specs.Spawns.Expansion.{IsScriptRun}
use Rattle.model_traces.specs.Spawns.Joined.{IsJoined}
use Rattle.model_traces.specs.Spawns.Printed.{spawning_output}

-- a legal history in which each domain's commands are those of its section, each once and in order, and each domain ends
pub record IsRunOf (z : Sizes) (script : List (List Command)) (history : List Entry) : Type 0 where
  pub legal : Legal z history
  pub each_command : (d : ℕ) → d < z.domains → commands history d ≡ slice_index_or script d []
  pub each_ends : (d : ℕ) → d < z.domains → IsTrue (list_any (is_end_of d) history)

-- of a script with spawns: a legal history that begins with the entries by which the hidden block is made, in which each domain makes the steps of its section and ends. So what a join rests on holds of each section that a spawn names
pub record IsSpawningRunOf (z : Sizes) (script : List (List Command)) (history : List Entry) : Type 0 where
  pub legal : Legal z history
  pub run : IsScriptRun z script history
  pub each_ends : (d : ℕ) → d < z.domains → IsTrue (list_any (is_end_of d) history)
  pub joins : (section : ℕ) → section < z.domains → IsTrue (is_spawned script section) → IsJoined z script section run.behind

-- a run of a script of the version
abbrev pub is_run_of : Version → Sizes → List (List Command) → List Entry → Type 0
is_run_of Three = IsSpawningRunOf
is_run_of _ = IsRunOf

-- and what it prints
abbrev pub output_of : Version → Sizes → List Entry → List ℕ
output_of Three = spawning_output
output_of _ = output
