-- Which scripts can be replayed under a schedule.
use Rattle.std.specs.Prelude.{◌≡◌, ℕ, ◌*◌, ◌≤◌, ◌==◌, nat_lt, Bool, true, false, List, Option, None, Some, if◌then◌else◌}
use Rattle.std.specs.List.{list_any}
use Rattle.model_core.specs.declared.command.Command.{Command}
use Rattle.model_core.specs.declared.command.Command.TheVariants.{Major}
pub use Rattle.model_traces.specs.Schedules.Pools.{allocations, pools_of}
use Rattle.text_script.specs.Forms.{version_number}
use Rattle.text_script.specs.Script.{Scripted}

-- whether a command asks for a collection that may go on beside running domains
abbrev pub is_major : Command → Bool
is_major Major = true
is_major _ = false

-- whether there is one in a script
abbrev pub has_major : List (List Command) → Bool
has_major script = list_any (list_any is_major) script

-- whether a script is of the version whose sections are spawned
abbrev pub has_spawns : Scripted → Bool
has_spawns script = version_number script.version == 3

-- a script that can be replayed on a heap with so many domains and pools
pub record CanReplay (domains pools : ℕ) (script : Scripted) : Type 0 where
  pub no_spawns : has_spawns script ≡ false
  pub no_major : has_major script.sections ≡ false
  pub few : 2 * pools_of domains script.sections ≤ pools

-- why another one can't: 3 where it is of version 3, and else 1 where it has a `major`, and else 2
abbrev pub why_not : ℕ → ℕ → Scripted → Option ℕ
why_not domains pools script =
    if has_spawns script then Some 3
    else if has_major script.sections then Some 1
    else if nat_lt pools (2 * pools_of domains script.sections) then Some 2
    else None
