-- What the judge of replays has done by the end.
use Rattle.std.specs.Prelude.{◌≡◌, ◌≢◌, ℕ, List, ◌++◌, Option, Some, codes, decimal}
use Rattle.model_core.specs.declared.state.Sizes.{Sizes}
use Rattle.model_core.specs.Output.{line, output}
use Rattle.model_traces.specs.Schedules.Scheduled.{scheduled}
use Rattle.judge_plain.specs.Scheduled.Lines.{differs_from}
use Rattle.text_script.specs.declared.schedule.text.replay.ReplayFault.{ReplayFault}
use Rattle.text_script.specs.Schedule.Text.Replays.{HasFault, Replayed, SpellsReplay}
use Rattle.judge_outputs.specs.declared.replaying.JudgedReplay.{JudgedReplay}
use Rattle.judge_outputs.specs.declared.replaying.JudgedReplay.TheVariants.{Legal, Differs, Replay, NoSeparator, TooLong, Memory, ReadFault, WriteFault}
use Rattle.judge_outputs.specs.Input.{HasNoParts, HasParts}
use Rattle.judge_outputs.specs.Reading.{IsReadInPart, ReadsAll}
use Rattle.judge_outputs.specs.Written.{Judges, StopsWriting}

-- the bytes are a replay for a heap of these sizes, the line between, and an output
pub record IsReplayInput (z : Sizes) (bytes : List ℕ) (r : Replayed) (shown : List ℕ) : Type 0 where
  pub text : List ℕ
  pub parts : HasParts bytes text shown
  pub spelled : SpellsReplay z.domains z.pools r text

-- what the scheduled history prints
abbrev pub scheduled_output : Sizes → Replayed → List ℕ
scheduled_output z r = output z (scheduled z r.script.sections r.items)

-- the text of each answer
abbrev pub same_text : List ℕ
same_text = line (codes "legal")

abbrev pub other_text : ℕ → List ℕ
other_text n = codes "not legal: line " ++ decimal n ++ line (codes " of the output is the first that the scheduled history prints otherwise")

-- the output is what the scheduled history prints
pub record TellsSame (z : Sizes) (bytes text : List ℕ) : Type 0 where
  pub replay : Replayed
  pub shown : List ℕ
  pub input : IsReplayInput z bytes replay shown
  pub same : shown ≡ scheduled_output z replay
  pub text_is : text ≡ same_text

-- it isn't, first in this line
pub record TellsOther (z : Sizes) (bytes : List ℕ) (n : ℕ) (text : List ℕ) : Type 0 where
  pub replay : Replayed
  pub shown : List ℕ
  pub input : IsReplayInput z bytes replay shown
  pub differs : differs_from 1 (scheduled_output z replay) shown ≡ Some n
  pub other : shown ≢ scheduled_output z replay
  pub text_is : text ≡ other_text n

-- the text of an answer
abbrev pub TellsReplay : Sizes → List ℕ → JudgedReplay → List ℕ → Type 0
TellsReplay z bytes Legal text = TellsSame z bytes text
TellsReplay z bytes (Differs n) text = TellsOther z bytes n text
TellsReplay z bytes _ text = ⊥

-- the replay before the line between has this first fault
pub record WrongReplay (z : Sizes) (bytes : List ℕ) (fault : ReplayFault) : Type 0 where
  pub text : List ℕ
  pub shown : List ℕ
  pub parts : HasParts bytes text shown
  pub first : HasFault z.domains z.pools text fault

-- why there is no answer: the bytes are no input, or memory ran out
abbrev pub RefusesReplay : Sizes → List ℕ → JudgedReplay → Type 0
RefusesReplay z bytes (Replay fault) = WrongReplay z bytes fault
RefusesReplay z bytes NoSeparator = HasNoParts bytes
RefusesReplay z bytes Memory = Unit {0}
RefusesReplay z bytes _ = ⊥

-- what was written by the end, where a text is or a front part of one
pub record Wrote (z : Sizes) (judged : JudgedReplay) (left_before left_after before after : Option (List ℕ)) : Type 0 where
  pub legal : judged ≡ Legal → Judges (TellsReplay z) Legal left_before left_after before after
  pub differs : (n : ℕ) → judged ≡ Differs n → Judges (TellsReplay z) (Differs n) left_before left_after before after
  pub cut : judged ≡ WriteFault → StopsWriting (TellsReplay z) left_before left_after before after

-- when each answer comes that says what is wrong with the bytes that were read
pub record FindsFault (z : Sizes) (judged : JudgedReplay) (before after : Option (List ℕ)) : Type 0 where
  pub replay : (f : ReplayFault) → judged ≡ Replay f → ReadsAll (λ bytes. WrongReplay z bytes f) before after
  pub no_separator : judged ≡ NoSeparator → ReadsAll HasNoParts before after
  pub too_long : judged ≡ TooLong → IsReadInPart before after

-- an answer that is written
abbrev pub IsReplayTold : JudgedReplay → Type 0
IsReplayTold Legal = Unit {0}
IsReplayTold (Differs n) = Unit {0}
IsReplayTold _ = ⊥

-- an answer that isn't written
abbrev pub IsReplaySilent : JudgedReplay → Type 0
IsReplaySilent Legal = ⊥
IsReplaySilent (Differs n) = ⊥
IsReplaySilent WriteFault = ⊥
IsReplaySilent _ = Unit {0}

-- an answer that says that the bytes are no input
abbrev pub IsReplayRefused : JudgedReplay → Type 0
IsReplayRefused (Replay fault) = Unit {0}
IsReplayRefused NoSeparator = Unit {0}
IsReplayRefused _ = ⊥

-- an answer of which the bytes that were read are the cause, or the sink, or want of memory
abbrev pub IsOfReplay : JudgedReplay → Type 0
IsOfReplay ReadFault = ⊥
IsOfReplay TooLong = ⊥
IsOfReplay _ = Unit {0}
