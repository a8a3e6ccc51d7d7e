-- A script that the program runs under a schedule.
use Rattle.std.specs.Prelude.{◌≡◌, ℕ, List, Option}
use Rattle.std.specs.Io.KnownBytes.{Appends}
use Rattle.model_core.specs.declared.state.Sizes.{Sizes}
use Rattle.model_core.specs.Domains.{class_count}
use Rattle.model_core.specs.Output.{output}
use Rattle.heap_rule.specs.Ending.{EndedHeap}
use Rattle.model_traces.specs.Schedules.Scheduled.{scheduled}
use Rattle.text_script.specs.declared.schedule.text.replay.ReplayFault as replay_fault
use Rattle.text_script.specs.declared.schedule.text.replay.ReplayFault.TheVariants.{Schedule as ScheduleOf, Script as ScriptOf, NotReplayable as NotReplayableOf, Memory as ReplayMemory}
use Rattle.text_script.specs.Schedule.Text.Replays.{Replayed}
use Rattle.text_script.specs.Words.Jobs.{AreReplaySizes}
use Rattle.camlheap_run.specs.declared.status.Status.{Status}
use Rattle.camlheap_run.specs.declared.status.Status.TheVariants.{Schedule, Script, NotReplayable, Memory}
use Rattle.camlheap_run.specs.Outcome.{WritesFrontOfRun, WritesRun}
use Rattle.camlheap_run.specs.Reading.{ReadsReplay}
use Rattle.text_ends.specs.Writing.{AppendsFront}

-- sizes of a heap with all classes on which a script may be replayed
abbrev pub MayReplay : Sizes → Type 0
MayReplay z = AreReplaySizes z × (z.classes ≡ class_count)

-- what the scheduled history prints
abbrev pub scheduled_text : Sizes → Replayed → List ℕ
scheduled_text z r = output z (scheduled z r.script.sections r.items)

-- a heap made a run of the script, and what its history prints was written: it is what the scheduled history prints
pub record WritesReplay (z : Sizes) (r : Replayed) (ended : Option EndedHeap) (before after : Option (List ℕ)) : Type 0 where
  pub writes : WritesRun output z r.script.sections ended before after
  pub scheduled : Appends before after (scheduled_text z r)

-- or a front part of it was written
pub record WritesFrontOfReplay (z : Sizes) (r : Replayed) (ended : Option EndedHeap) (before after : Option (List ℕ)) : Type 0 where
  pub writes : WritesFrontOfRun output z r.script.sections ended before after
  pub scheduled : AppendsFront before after (scheduled_text z r)

-- Done: the source was read to its end, its bytes spell a schedule and a script that can be replayed, a heap made a run of the script, and what the scheduled history prints was written
pub record ReplaysToEnd (z : Sizes) (ended : Option EndedHeap) (left_before left_after written_before written_after : Option (List ℕ)) : Type 0 where
  pub replay : Replayed
  pub reads : ReadsReplay z left_before left_after replay
  pub writes : WritesReplay z replay ended written_before written_after

-- WriteFault: the same, and a front part was written
pub record StopsReplaying (z : Sizes) (ended : Option EndedHeap) (left_before left_after written_before written_after : Option (List ℕ)) : Type 0 where
  pub replay : Replayed
  pub reads : ReadsReplay z left_before left_after replay
  pub writes : WritesFrontOfReplay z replay ended written_before written_after

-- the answer to a fault of a replay's text
abbrev pub fault_status : replay_fault.ReplayFault → Status
fault_status (ScheduleOf l) = Schedule l
fault_status (ScriptOf fault) = Script fault
fault_status (NotReplayableOf why) = NotReplayable why
fault_status ReplayMemory = Memory
