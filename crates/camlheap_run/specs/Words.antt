-- What the words of the command line ask for.
use Rattle.std.specs.Prelude.{ℕ, List, String, Option, Some, map, string_bytes}
use Rattle.text_script.specs.declared.version.Version.TheVariants.{Three}
use Rattle.text_script.specs.declared.fault.ScriptFault.{ScriptFault}
use Rattle.text_script.specs.Faults.{first_fault as script_fault}
use Rattle.model_core.specs.declared.state.Sizes.{Sizes}
use Rattle.text_script.specs.declared.schedule.text.replay.ReplayFault.TheVariants.{Script}
use Rattle.text_script.specs.Schedule.Text.Replays.{HasFault}
use Rattle.text_script.specs.Words.Jobs.{asked_job}
use Rattle.text_script.specs.declared.words.job.Job.{Job}
use Rattle.text_script.specs.declared.words.job.Job.TheVariants.{Run, Replay, Table}
use Rattle.camlheap_run.specs.Reading.{IsFirst, first_table_fault}

-- what the words behind the program's name ask for
abbrev pub asked : {Z : Type 0} → List (String Z) → Option Job
asked words = asked_job (map string_bytes words)

-- the words ask that a text is read, and this holds of which fault its grammar says is the first of bytes
abbrev pub AsksToRead : Option Job → ((List ℕ → ScriptFault → Type 0) → Type 0) → Type 0
AsksToRead (Some (Run z)) Holds = Holds (IsFirst (script_fault Three z.domains))
AsksToRead (Some (Replay z)) Holds = Holds (λ bytes fault. HasFault z.domains z.pools bytes (Script fault))
AsksToRead (Some (Table z)) Holds = Holds (IsFirst (first_table_fault z.domains))
AsksToRead _ Holds = ⊥

-- the words ask that a text is read
abbrev pub ReadsSource : Option Job → Type 0
ReadsSource job = AsksToRead job (λ is_first. Unit {0})

-- the words ask for a replay on a heap of these sizes, and this holds of them
abbrev pub AsksToReplay : Option Job → (Sizes → Type 0) → Type 0
AsksToReplay (Some (Replay z)) Holds = Holds z
AsksToReplay _ Holds = ⊥
