-- What the judge has written where a schedule is asked for.
use Rattle.std.specs.Prelude.{◌≡◌, ◌≢◌, ◌⊎◌, ℕ, IsTrue, List, [], Option, Some, None}
use Rattle.std.specs.List.{list_all}
use Rattle.model_core.specs.declared.command.Command.{Command}
use Rattle.model_core.specs.declared.entry.Entry.{Entry}
use Rattle.model_core.specs.declared.state.Sizes.{Sizes}
use Rattle.model_core.specs.Output.{output}
use Rattle.text_script.specs.Forms.{version_number}
use Rattle.text_script.specs.Script.{Scripted}
use Rattle.text_script.specs.declared.fault.ScriptFault.{ScriptFault}
use Rattle.judge_plain.specs.History.Explains.{Explains}
use Rattle.model_traces.specs.Orders.Turns.{is_call, turns_of}
use Rattle.model_traces.specs.declared.schedules.items.Item.{Item}
use Rattle.model_traces.specs.Schedules.Scheduled.{scheduled}
use Rattle.text_script.specs.Schedule.Text.Spelling.{spelling}
use Rattle.judge_outputs.specs.declared.judged.Judged.TheVariants.{Legal, NoneFound, GaveUp, Script, NoSeparator, TooLong, WriteFault}
use Rattle.judge_outputs.specs.declared.scheduling.TurnsJudged.{TurnsJudged}
use Rattle.judge_outputs.specs.declared.scheduling.TurnsJudged.TheVariants.{Printed, NoSchedule, Other}
use Rattle.judge_outputs.specs.Answer.{ExplainsScript}
use Rattle.judge_outputs.specs.Input.{HasNoParts}
use Rattle.judge_outputs.specs.Judging.{IsInput, IsOfBytes, IsRefused, IsSilent, IsTold, IsWrong, Refuses, Tells}
use Rattle.judge_outputs.specs.Reading.{IsReadInPart, ReadsAll}
use Rattle.judge_outputs.specs.Turns.{turns_in}
use Rattle.judge_outputs.specs.Written.{Judges, StopsWriting}

-- what a script prints under the schedule of these items
abbrev pub turns_output : Sizes → List (List Command) → List Item → List ℕ
turns_output z sections items = output z (scheduled z sections items)

-- a history explains the output, this is the text of the schedule of its turns, and a replay of it prints the output again
pub record PrintsTurns (z : Sizes) (bytes text : List ℕ) : Type 0 where
  pub script : Scripted
  pub output : List ℕ
  pub input : IsInput z.domains bytes script output
  pub history : List Entry
  pub explains : Explains z script.sections output history
  pub items : List Item
  pub turns : turns_in history ≡ Some items
  pub prints : turns_output z script.sections items ≡ output
  pub text_is : text ≡ spelling items
  pub calls : IsTrue (list_all is_call history) → items ≡ turns_of history

-- the turns of a history that was found for a script: there are none where it spawns
abbrev pub FoundTurns : Scripted → List Entry → Option (List Item) → Type 0
FoundTurns script history None = (version_number script.version ≡ 3) ⊎ (turns_in history ≡ None)
FoundTurns script history (Some items) = (version_number script.version ≢ 3) × (turns_in history ≡ Some items)

-- a history has turns, and their schedule prints otherwise
abbrev pub PrintsOther : Sizes → Scripted → List ℕ → List Entry → Type 0
PrintsOther z script shown history = (items : List Item) × FoundTurns script history (Some items) × (turns_output z script.sections items ≢ shown)

-- the turns of a history whose schedule prints this output
abbrev pub PrintedTurns : Sizes → Scripted → List ℕ → List Entry → Option (List Item) → Type 0
PrintedTurns z script shown history None = FoundTurns script history None ⊎ PrintsOther z script shown history
PrintedTurns z script shown history (Some items) = FoundTurns script history (Some items) × (turns_output z script.sections items ≡ shown)

-- a history explains the output, and has no schedule that prints it: nothing is written. One of calls alone, where no collection and no finaliser comes in, has one
pub record HasNoSchedule (z : Sizes) (bytes text : List ℕ) : Type 0 where
  pub script : Scripted
  pub output : List ℕ
  pub input : IsInput z.domains bytes script output
  pub history : List Entry
  pub explains : ExplainsScript z script output history
  pub none : PrintedTurns z script output history None
  pub no_calls : version_number script.version ≢ 3 → IsTrue (list_all is_call history) → ⊥
  pub text_is : text ≡ []

-- the text of an answer
abbrev pub TellsTurns : Sizes → List ℕ → TurnsJudged → List ℕ → Type 0
TellsTurns z bytes Printed text = PrintsTurns z bytes text
TellsTurns z bytes NoSchedule text = HasNoSchedule z bytes text
TellsTurns z bytes (Other Legal) text = ⊥
TellsTurns z bytes (Other judged) text = Tells z bytes judged text

-- what was written by the end, where a text is or a front part of one
pub record Wrote (z : Sizes) (judged : TurnsJudged) (left_before left_after before after : Option (List ℕ)) : Type 0 where
  pub printed : judged ≡ Printed → Judges (TellsTurns z) Printed left_before left_after before after
  pub no_schedule : judged ≡ NoSchedule → Judges (TellsTurns z) NoSchedule left_before left_after before after
  pub none_found : judged ≡ Other NoneFound → Judges (TellsTurns z) (Other NoneFound) left_before left_after before after
  pub gave_up : judged ≡ Other GaveUp → Judges (TellsTurns z) (Other GaveUp) left_before left_after before after
  pub cut : judged ≡ Other WriteFault → StopsWriting (TellsTurns z) left_before left_after before after

-- when each answer comes that says what is wrong with the bytes that were read
pub record FindsFault (domains : ℕ) (judged : TurnsJudged) (before after : Option (List ℕ)) : Type 0 where
  pub script : (f : ScriptFault) → judged ≡ Other (Script f) → ReadsAll (λ bytes. IsWrong domains bytes f) before after
  pub no_separator : judged ≡ Other NoSeparator → ReadsAll HasNoParts before after
  pub too_long : judged ≡ Other TooLong → IsReadInPart before after

-- an answer that is written whole, with a schedule or without one
abbrev pub IsTurnsTold : TurnsJudged → Type 0
IsTurnsTold (Other judged) = IsTold judged
IsTurnsTold _ = Unit {0}

-- an answer before which nothing was written
abbrev pub IsTurnsSilent : TurnsJudged → Type 0
IsTurnsSilent (Other judged) = IsSilent judged
IsTurnsSilent _ = ⊥

-- an answer that says that the bytes are no input
abbrev pub IsTurnsRefused : TurnsJudged → Type 0
IsTurnsRefused (Other judged) = IsRefused judged
IsTurnsRefused _ = ⊥

abbrev pub RefusesTurns : ℕ → List ℕ → TurnsJudged → Type 0
RefusesTurns domains bytes (Other judged) = Refuses domains bytes judged
RefusesTurns domains bytes _ = ⊥

-- an answer of which the bytes that were read are the cause, or the sink, or want of memory
abbrev pub IsTurnsOfBytes : TurnsJudged → Type 0
IsTurnsOfBytes (Other judged) = IsOfBytes judged
IsTurnsOfBytes _ = Unit {0}
