-- What the top call has done by the end. Where the source tells its bytes they are those that were read, and where the sink tells its own they have grown by those that were written.
use Rattle.std.specs.Prelude.{◌≡◌, ℕ, ◌⊎◌, List, Option, Some}
use Rattle.std.specs.Io.KnownBytes.{Appends}
use Rattle.model_core.specs.declared.command.Command.{Command}
use Rattle.model_core.specs.declared.entry.Entry.{Entry}
use Rattle.model_core.specs.declared.state.Sizes.{Sizes}
use Rattle.model_core.specs.Output.{summary}
use Rattle.heap_rule.specs.Ending.{EndedHeap}
use Rattle.camlheap_run.specs.declared.status.Status.{Status}
use Rattle.camlheap_run.specs.declared.status.Status.TheVariants.{Done, Usage, Script, Schedule, NotReplayable, ReadFault, WriteFault, Memory}
use Rattle.camlheap_run.specs.declared.read.texts.NoScript.{NoScript}
use Rattle.camlheap_run.specs.declared.read.texts.NoScript.TheVariants.{ReadFault as NoRead, Refused, Memory as NoMemory}
use Rattle.text_script.specs.declared.words.job.Generated.{Generated}
use Rattle.text_script.specs.Words.Jobs.{load_sizes}
use Rattle.camlheap_run.specs.Generating.{script_of}
use Rattle.text_script.specs.Script.{Scripted}
use Rattle.camlheap_run.specs.Reading.{ReadsScript}
use Rattle.text_ends.specs.Writing.{AppendsFront}
use Rattle.camlheap_run.specs.Run.{IsRunOf, is_run_of, output_of}

-- the heap that has ended is one of these sizes, and its history is a run of this script, as the relation has it
pub record HasRunBy (IsOf : Sizes → List (List Command) → List Entry → Type 0) (z : Sizes) (script : List (List Command)) (ended : Option EndedHeap) : Type 0 where
  pub past : EndedHeap
  pub is_past : ended ≡ Some past
  pub sizes : past.sizes ≡ z
  pub run : IsOf z script past.history

-- such a run, and the text of its history was written
pub record WritesRunBy (IsOf : Sizes → List (List Command) → List Entry → Type 0) (text : Sizes → List Entry → List ℕ) (z : Sizes) (script : List (List Command)) (ended : Option EndedHeap) (before after : Option (List ℕ)) : Type 0 where
  pub ran : HasRunBy IsOf z script ended
  pub written : Appends before after (text z ran.past.history)

-- such a run, and a front part of the text of its history was written
pub record WritesFrontOfRunBy (IsOf : Sizes → List (List Command) → List Entry → Type 0) (text : Sizes → List Entry → List ℕ) (z : Sizes) (script : List (List Command)) (ended : Option EndedHeap) (before after : Option (List ℕ)) : Type 0 where
  pub ran : HasRunBy IsOf z script ended
  pub written : AppendsFront before after (text z ran.past.history)

-- the same of a script without spawns
abbrev pub HasRun : Sizes → List (List Command) → Option EndedHeap → Type 0
HasRun z script ended = HasRunBy IsRunOf z script ended

abbrev pub WritesRun : (Sizes → List Entry → List ℕ) → Sizes → List (List Command) → Option EndedHeap → Option (List ℕ) → Option (List ℕ) → Type 0
WritesRun text z script ended before after = WritesRunBy IsRunOf text z script ended before after

abbrev pub WritesFrontOfRun : (Sizes → List Entry → List ℕ) → Sizes → List (List Command) → Option EndedHeap → Option (List ℕ) → Option (List ℕ) → Type 0
WritesFrontOfRun text z script ended before after = WritesFrontOfRunBy IsRunOf text z script ended before after

-- and of a script of any version: what its run is and prints
abbrev pub WritesScriptRun : Sizes → Scripted → Option EndedHeap → Option (List ℕ) → Option (List ℕ) → Type 0
WritesScriptRun z script ended before after = WritesRunBy (is_run_of script.version) (output_of script.version) z script.sections ended before after

abbrev pub WritesFrontOfScriptRun : Sizes → Scripted → Option EndedHeap → Option (List ℕ) → Option (List ℕ) → Type 0
WritesFrontOfScriptRun z script ended before after = WritesFrontOfRunBy (is_run_of script.version) (output_of script.version) z script.sections ended before after

-- Done: the source was read to its end, its bytes spell a script, a heap made a run of it, and what its history prints was written
pub record RunsToEnd (z : Sizes) (ended : Option EndedHeap) (left_before left_after written_before written_after : Option (List ℕ)) : Type 0 where
  pub script : Scripted
  pub reads : ReadsScript z.domains left_before left_after script
  pub writes : WritesScriptRun z script ended written_before written_after

-- WriteFault: the same, and a front part was written
pub record StopsWriting (z : Sizes) (ended : Option EndedHeap) (left_before left_after written_before written_after : Option (List ℕ)) : Type 0 where
  pub script : Scripted
  pub reads : ReadsScript z.domains left_before left_after script
  pub writes : WritesFrontOfScriptRun z script ended written_before written_after

-- Done of a generated script: a heap made a run of it, and the summary of its history was written
abbrev pub LoadsToEnd : Generated → Option EndedHeap → Option (List ℕ) → Option (List ℕ) → Type 0
LoadsToEnd g ended before after = WritesRun summary (load_sizes g) (script_of g) ended before after

-- WriteFault of a generated script: the same, and a front part was written
abbrev pub StopsLoading : Generated → Option EndedHeap → Option (List ℕ) → Option (List ℕ) → Type 0
StopsLoading g ended before after = WritesFrontOfRun summary (load_sizes g) (script_of g) ended before after

-- one of two answers
abbrev pub IsEither : {A : Type 0} → A → A → A → Type 0
IsEither answer a b = (answer ≡ a) ⊎ (answer ≡ b)

-- a status after which nothing was written
abbrev pub IsSilent : Status → Type 0
IsSilent (Done ended) = ⊥
IsSilent (WriteFault ended) = ⊥
IsSilent _ = Unit {0}

-- a write failed
abbrev pub IsWriteFault : Status → Type 0
IsWriteFault (WriteFault ended) = Unit {0}
IsWriteFault _ = ⊥

-- what it comes to that a source gave no text
abbrev pub read_status : NoScript → Status
read_status NoRead = ReadFault
read_status (Refused fault) = Script fault
read_status NoMemory = Memory

-- the run was done, or memory ran out before its first byte
abbrev pub IsDoneOrMemory : Status → Type 0
IsDoneOrMemory (Done ended) = Unit {0}
IsDoneOrMemory Memory = Unit {0}
IsDoneOrMemory _ = ⊥

-- what a run of a script answers: that, or that a write failed
abbrev pub IsRunAnswer : Status → Type 0
IsRunAnswer (Done ended) = Unit {0}
IsRunAnswer (WriteFault ended) = Unit {0}
IsRunAnswer Memory = Unit {0}
IsRunAnswer _ = ⊥

-- what a run of what is read answers: any status but those of words and of a replay's text
abbrev pub IsSourceAnswer : Status → Type 0
IsSourceAnswer Usage = ⊥
IsSourceAnswer (Schedule line) = ⊥
IsSourceAnswer (NotReplayable why) = ⊥
IsSourceAnswer _ = Unit {0}

-- what a replay of what is read answers: any status but that of words
abbrev pub IsReplayAnswer : Status → Type 0
IsReplayAnswer Usage = ⊥
IsReplayAnswer _ = Unit {0}
