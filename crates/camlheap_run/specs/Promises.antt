-- What the top call promises of each command, by what its words ask for. What it promises of `run` where that ends well stands at the call itself.
use Rattle.std.specs.Prelude.{◌≡◌, ◌≢◌, ℕ, ◌<◌, ◌≤◌, List, Option, None, Some, IsSome}
use Rattle.model_core.specs.declared.state.Sizes.{Sizes}
use Rattle.heap_rule.specs.Ending.{EndedHeap}
use Rattle.text_ends.specs.Faults.{Rose}
use Rattle.text_script.specs.Script.{Scripted}
use Rattle.text_script.specs.declared.fault.ScriptFault.{ScriptFault}
use Rattle.text_script.specs.declared.schedule.text.replay.ReplayFault.{ReplayFault}
use Rattle.text_script.specs.declared.schedule.text.replay.ReplayFault.TheVariants.{NotReplayable as NotReplayableOf, Schedule as ScheduleOf}
use Rattle.text_script.specs.Schedule.Text.Replays.{Replayed}
use Rattle.text_script.specs.declared.words.job.Generated.{Generated}
use Rattle.text_script.specs.declared.words.job.Job.{Job}
use Rattle.text_script.specs.declared.words.job.Job.TheVariants.{Run, Replay, Table, Gen, Load}
use Rattle.camlheap_run.specs.declared.status.Status.{Status}
use Rattle.camlheap_run.specs.declared.status.Status.TheVariants.{Done, Usage, Script, Schedule, NotReplayable, ReadFault, WriteFault, Memory}
use Rattle.camlheap_run.specs.Generating.{WritesFrontOfScript, WritesScript}
use Rattle.camlheap_run.specs.Outcome.{IsDoneOrMemory, IsEither, IsSilent, IsWriteFault, LoadsToEnd, StopsLoading}
use Rattle.camlheap_run.specs.Reading.{IsFirst, IsTableText, ReadsFirstFault, ReadsReplayFault, Tells, TellsFault, TellsFirst, TellsReplay, TellsReplayFault, TellsScript, first_table_fault}
use Rattle.camlheap_run.specs.Replaying.{ReplaysToEnd, StopsReplaying, fault_status}
use Rattle.camlheap_run.specs.Tables.{TableRunsToEnd, TableStopsWriting}
use Rattle.camlheap_run.specs.Words.{AsksToRead, AsksToReplay, ReadsSource}

-- what was read and written by `replay`: the replies of the scheduled history, which are those of the heap's own
pub record ReplayAnswers (asks : Option Job) (result : Status) (left_before left_after written_before written_after : Option (List ℕ)) : Type 0 where
  pub replay : (z : Sizes) (ended : Option EndedHeap) → asks ≡ Some (Replay z) → result ≡ Done ended → ReplaysToEnd z ended left_before left_after written_before written_after
  pub replay_cut : (z : Sizes) (ended : Option EndedHeap) → asks ≡ Some (Replay z) → result ≡ WriteFault ended → StopsReplaying z ended left_before left_after written_before written_after

-- what was read and written by `table`: of one domain the replies are those of the machine of the text, whose registers, bindings and slots are those of the heap at a prefix of its history for each line; of several the replies of each section are those of its lines in order, between prefixes of one history, in which all share one map
pub record TableAnswers (asks : Option Job) (result : Status) (left_before left_after written_before written_after : Option (List ℕ)) : Type 0 where
  pub table : (z : Sizes) (ended : Option EndedHeap) → asks ≡ Some (Table z) → result ≡ Done ended → TableRunsToEnd z ended left_before left_after written_before written_after
  pub table_cut : (z : Sizes) (ended : Option EndedHeap) → asks ≡ Some (Table z) → result ≡ WriteFault ended → TableStopsWriting z ended left_before left_after written_before written_after

-- what was written by `gen`, and what was run and written by `load`
pub record GeneratedAnswers (asks : Option Job) (result : Status) (written_before written_after : Option (List ℕ)) : Type 0 where
  pub generated : (g : Generated) (ended : Option EndedHeap) → asks ≡ Some (Gen g) → result ≡ Done ended → WritesScript g ended written_before written_after
  pub generated_cut : (g : Generated) (ended : Option EndedHeap) → asks ≡ Some (Gen g) → result ≡ WriteFault ended → WritesFrontOfScript g ended written_before written_after
  pub loaded : (g : Generated) (ended : Option EndedHeap) → asks ≡ Some (Load g) → result ≡ Done ended → LoadsToEnd g ended written_before written_after
  pub loaded_cut : (g : Generated) (ended : Option EndedHeap) → asks ≡ Some (Load g) → result ≡ WriteFault ended → StopsLoading g ended written_before written_after

-- what stays: the sink where nothing was to be written, and the source where it isn't to be read
pub record Stays {S K : Type 0} (asks : Option Job) (result : Status) (src_before src_after : S) (out_before out_after : K) : Type 0 where
  pub quiet : IsSilent result → out_after ≡ out_before
  pub unread : ¬ (ReadsSource asks) → src_after ≡ src_before

-- when each answer comes that says why nothing was done, or what went wrong
pub record Refusals (asks : Option Job) (result : Status) (left_before left_after : Option (List ℕ)) (reads_before reads_after writes_before writes_after : ℕ) : Type 0 where
  pub usage : result ≡ Usage → asks ≡ None
  pub words : result ≢ Usage → IsSome asks
  pub script : (f : ScriptFault) → result ≡ Script f → AsksToRead asks (λ is_first. ReadsFirstFault is_first left_before left_after f)
  pub schedule : (l : ℕ) → result ≡ Schedule l → AsksToReplay asks (λ z. ReadsReplayFault z left_before left_after (ScheduleOf l))
  pub not_replayable : (w : ℕ) → result ≡ NotReplayable w → AsksToReplay asks (λ z. ReadsReplayFault z left_before left_after (NotReplayableOf w))
  pub reads : reads_before ≤ reads_after
  pub writes : writes_before ≤ writes_after
  pub read_fault : result ≡ ReadFault → AsksToRead asks (λ _. Rose reads_before reads_after)
  pub write_fault : (ended : Option EndedHeap) → result ≡ WriteFault ended → Rose writes_before writes_after
  -- a read or a write that failed decides the answer: none is tried again
  pub read_failed : reads_before < reads_after → result ≡ ReadFault
  pub write_failed : writes_before < writes_after → IsWriteFault result

-- where the source tells its bytes, they decide what `run`, `replay` and `table` answer, unless a read or a write fails or memory runs out
pub record Decides (asks : Option Job) (result : Status) (left : Option (List ℕ)) (ReadsFail WritesFail : Type 0) : Type 0 where
  pub complete : (z : Sizes) (s : Scripted) → asks ≡ Some (Run z) → TellsScript z.domains left s → ¬ ReadsFail → ¬ WritesFail → IsDoneOrMemory result
  pub refused : (z : Sizes) (f : ScriptFault) → asks ≡ Some (Run z) → TellsFault z.domains left f → ¬ ReadsFail → IsEither result (Script f) Memory
  pub replay_complete : (z : Sizes) (r : Replayed) → asks ≡ Some (Replay z) → TellsReplay z left r → ¬ ReadsFail → ¬ WritesFail → IsDoneOrMemory result
  pub replay_refused : (z : Sizes) (f : ReplayFault) → asks ≡ Some (Replay z) → TellsReplayFault z left f → ¬ ReadsFail → IsEither result (fault_status f) Memory
  pub table_complete : (z : Sizes) → asks ≡ Some (Table z) → Tells (IsTableText z.domains) left → ¬ ReadsFail → ¬ WritesFail → IsDoneOrMemory result
  pub table_refused : (z : Sizes) (f : ScriptFault) → asks ≡ Some (Table z) → TellsFirst (IsFirst (first_table_fault z.domains)) left f → ¬ ReadsFail → IsEither result (Script f) Memory
  -- `gen` and `load` are done, unless a write fails or memory runs out
  pub complete_unread : IsSome asks → ¬ (ReadsSource asks) → ¬ WritesFail → IsDoneOrMemory result
