-- The text of a replay: a schedule, and behind it a script.
use Rattle.std.specs.Prelude.{◌≡◌, ◌⊎◌, ℕ, ◌≤◌, ◌<◌, List, drop, length, Option, Some, Result, Err}
use Rattle.text_script.specs.declared.fault.ScriptFault.{ScriptFault}
use Rattle.text_script.specs.declared.fault.ScriptFault.TheVariants.{TooLong}
use Rattle.text_script.specs.declared.version.Version.TheVariants.{Three}
use Rattle.text_script.specs.Faults.{first_fault}
use Rattle.text_script.specs.Script.{Scripted}
use Rattle.text_script.specs.Spelling.{Spells as SpellsScript}
use Rattle.model_traces.specs.declared.schedules.items.Item.{Item}
use Rattle.text_script.specs.declared.schedule.text.replay.ReplayFault.{ReplayFault}
use Rattle.text_script.specs.declared.schedule.text.replay.ReplayFault.TheVariants.{Schedule, Script, NotReplayable, Memory}
use Rattle.text_script.specs.Schedule.Text.Faults.{first_wrong}
use Rattle.text_script.specs.Schedule.Text.Replayable.{CanReplay, why_not}
use Rattle.text_script.specs.Schedule.Text.Spelling.{Spells}

-- what is read: the items of the schedule, and the script
pub record Replayed : Type 0 where
  pub items : List Item
  pub script : Scripted

-- the bytes spell a schedule and then a script, each for so many domains, and the script can be replayed on a heap of so many pools
pub record SpellsReplay (domains pools : ℕ) (r : Replayed) (bytes : List ℕ) : Type 0 where
  pub few : length bytes ≤ 16777216
  pub place : ℕ
  pub schedule : Spells domains r.items place bytes
  pub script : SpellsScript Three domains r.script (drop place bytes)
  pub can : CanReplay domains pools r.script

-- the first line that isn't one of a schedule
pub record WrongSchedule (domains : ℕ) (bytes : List ℕ) (line : ℕ) : Type 0 where
  pub few : length bytes ≤ 16777216
  pub wrong : first_wrong domains bytes ≡ Some line

-- there are too many bytes
pub record IsTooLong (bytes : List ℕ) (fault : ScriptFault) : Type 0 where
  pub many : 16777216 < length bytes
  pub is : fault ≡ TooLong (length bytes)

-- the first fault of the script behind a schedule, in which lines are counted from 1 again
pub record WrongScript (domains : ℕ) (bytes : List ℕ) (fault : ScriptFault) : Type 0 where
  pub few : length bytes ≤ 16777216
  pub items : List Item
  pub place : ℕ
  pub schedule : Spells domains items place bytes
  pub first : first_fault Three domains (drop place bytes) ≡ Some fault

-- why the script can't be replayed
pub record CannotReplay (domains pools : ℕ) (bytes : List ℕ) (why : ℕ) : Type 0 where
  pub few : length bytes ≤ 16777216
  pub items : List Item
  pub place : ℕ
  pub schedule : Spells domains items place bytes
  pub script : Scripted
  pub spelled : SpellsScript Three domains script (drop place bytes)
  pub reason : why_not domains pools script ≡ Some why

-- the first fault of the bytes: there are too many, a line of the schedule is wrong, the script has a fault, or it can't be replayed
abbrev pub HasFault : ℕ → ℕ → List ℕ → ReplayFault → Type 0
HasFault domains pools bytes (Schedule line) = WrongSchedule domains bytes line
HasFault domains pools bytes (Script fault) = IsTooLong bytes fault ⊎ WrongScript domains bytes fault
HasFault domains pools bytes (NotReplayable why) = CannotReplay domains pools bytes why
HasFault domains pools bytes Memory = ⊥

-- the fault is the first one, unless memory ran out
abbrev pub IsFirstUnlessMemory : ℕ → ℕ → List ℕ → ReplayFault → Type 0
IsFirstUnlessMemory domains pools bytes Memory = Unit {0}
IsFirstUnlessMemory domains pools bytes fault = HasFault domains pools bytes fault

-- the answer is this one, unless memory ran out
abbrev pub IsUnlessNoMemory : Result Replayed ReplayFault → Result Replayed ReplayFault → Type 0
IsUnlessNoMemory (Err Memory) answer = Unit {0}
IsUnlessNoMemory given answer = given ≡ answer

-- a fault that is the first one of a script, or want of memory
abbrev pub IsScriptFault : ReplayFault → Option ScriptFault → Type 0
IsScriptFault (Script fault) first = first ≡ Some fault
IsScriptFault Memory first = Unit {0}
IsScriptFault fault first = ⊥
