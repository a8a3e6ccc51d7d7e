-- What it is that a history explains an output of a script whose sections spawn one another.
use Rattle.std.specs.Prelude.{◌≡◌, ℕ, ◌<◌, Bool, true, List, [], ◌++◌, flat_map, IsTrue}
use Rattle.std.specs.List.{list_any, range_with_len}
use Rattle.model_core.specs.declared.command.Command.{Command}
use Rattle.model_core.specs.declared.entry.Entry.{Entry}
use Rattle.model_core.specs.declared.state.Sizes.{Sizes}
use Rattle.model_core.specs.Domains.{opening}
use Rattle.model_core.specs.History.{Legal, state_after}
use Rattle.judge_plain.specs.History.Steps.{is_end_of}
use Rattle.model_traces.specs.Spawns.Expansion.{IsScriptRun, IsSection, Step, is_spawned, section_at, steps_from}
use Rattle.model_traces.specs.Spawns.Hidden.{prelude}
use Rattle.model_traces.specs.Spawns.Printed.{spawning_output, spawning_section_text}

-- a legal history that begins with the entries by which the hidden block is made, in which each domain makes the steps of its section and ends, and which prints these bytes
pub record ExplainsSpawning (z : Sizes) (script : List (List Command)) (bytes : List ℕ) (history : List Entry) : Type 0 where
  pub legal : Legal z history
  pub run : IsScriptRun z script history
  pub each_ends : (d : ℕ) → d < z.domains → IsTrue (list_any (is_end_of d) history)
  pub prints : spawning_output z history ≡ bytes

-- these are the steps of section d, behind which its domain has ended
pub record MakesSection (script : List (List Command)) (d : ℕ) (steps : List Step) (ended : Bool) : Type 0 where
  pub section : IsSection d (is_spawned script d) (section_at script d) steps
  pub over : ended ≡ true

-- domain d makes the steps of its section in what stands behind those entries, and ends
pub record Makes (z : Sizes) (script : List (List Command)) (history behind : List Entry) (d : ℕ) : Type 0 where
  pub section : IsSection d (is_spawned script d) (section_at script d) (steps_from (state_after (opening z) (prelude z.domains)) behind d)
  pub ends : IsTrue (list_any (is_end_of d) history)
  pub legal : Legal z history

-- the same of the first n domains, whose sections of lines stand before the rest of the bytes
pub record ExplainsSpawningFront (z : Sizes) (script : List (List Command)) (bytes : List ℕ) (history behind : List Entry) (n : ℕ) (rest : List ℕ) : Type 0 where
  pub each : (d : ℕ) → d < n → Makes z script history behind d
  pub bytes_are : bytes ≡ flat_map (spawning_section_text z history) (range_with_len 0 n) ++ rest
