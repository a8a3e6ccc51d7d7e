-- What the judge has done by the end. Where the source tells its bytes they are those that were read, and where the sink tells its own they have grown by those that were written.
use Rattle.std.specs.Prelude.{◌≡◌, ℕ, List, Option, Some}
use Rattle.model_core.specs.declared.entry.Entry.{Entry}
use Rattle.model_core.specs.declared.state.Sizes.{Sizes}
use Rattle.text_script.specs.declared.fault.ScriptFault.{ScriptFault}
use Rattle.text_script.specs.declared.version.Version.TheVariants.{Three}
use Rattle.text_script.specs.Faults.{first_fault}
use Rattle.text_script.specs.Script.{Scripted}
use Rattle.text_script.specs.Spelling.{Spells}
use Rattle.judge_outputs.specs.declared.judged.Judged.{Judged}
use Rattle.judge_outputs.specs.declared.judged.Judged.TheVariants.{Legal, NoneFound, GaveUp, Script, NoSeparator, TooLong, Memory, ReadFault, WriteFault}
use Rattle.judge_outputs.specs.declared.explain.Near.{Near}
use Rattle.judge_outputs.specs.Answer.{ExplainsScript, IsTrueNear}
use Rattle.judge_outputs.specs.Input.{HasParts, HasNoParts}
use Rattle.judge_outputs.specs.Reading.{IsReadInPart, ReadsAll}
use Rattle.judge_outputs.specs.Refusal.{refused_text}
use Rattle.judge_outputs.specs.Show.{legal_text, none_text, gave_up_text}
use Rattle.judge_outputs.specs.Written.{Judges, StopsWriting}

-- the bytes are a script, the line between, and an output
pub record IsInput (domains : ℕ) (bytes : List ℕ) (script : Scripted) (output : List ℕ) : Type 0 where
  pub text : List ℕ
  pub parts : HasParts bytes text output
  pub spelled : Spells Three domains script text

-- a legal history of the script makes the output, and this is the text of that history
pub record TellsLegal (z : Sizes) (bytes text : List ℕ) : Type 0 where
  pub script : Scripted
  pub output : List ℕ
  pub input : IsInput z.domains bytes script output
  pub history : List Entry
  pub explains : ExplainsScript z script output history
  pub text_is : text ≡ legal_text history

-- a refusal, and what is told beside it: nothing, or a legal output that the judged one is as up to a line
pub record TellsRefused (z : Sizes) (bytes refusal text : List ℕ) : Type 0 where
  pub script : Scripted
  pub output : List ℕ
  pub input : IsInput z.domains bytes script output
  pub near : Option Near
  pub is : IsTrueNear z script output near
  pub text_is : text ≡ refused_text refusal near

-- the text of an answer
abbrev pub Tells : Sizes → List ℕ → Judged → List ℕ → Type 0
Tells z bytes Legal text = TellsLegal z bytes text
Tells z bytes NoneFound text = (states : ℕ) × TellsRefused z bytes (none_text states) text
Tells z bytes GaveUp text = (states : ℕ) × TellsRefused z bytes (gave_up_text states) text
Tells z bytes _ text = ⊥

-- the script before the line between has this first fault
pub record IsWrong (domains : ℕ) (bytes : List ℕ) (fault : ScriptFault) : Type 0 where
  pub text : List ℕ
  pub output : List ℕ
  pub parts : HasParts bytes text output
  pub first : first_fault Three domains text ≡ Some fault

-- why there is no answer: the bytes are no input, or memory ran out
abbrev pub Refuses : ℕ → List ℕ → Judged → Type 0
Refuses domains bytes (Script fault) = IsWrong domains bytes fault
Refuses domains bytes NoSeparator = HasNoParts bytes
Refuses domains bytes Memory = Unit {0}
Refuses domains bytes _ = ⊥

-- what was written by the end, where a text is or a front part of one
pub record Wrote (z : Sizes) (judged : Judged) (left_before left_after before after : Option (List ℕ)) : Type 0 where
  pub legal : judged ≡ Legal → Judges (Tells z) Legal left_before left_after before after
  pub none_found : judged ≡ NoneFound → Judges (Tells z) NoneFound left_before left_after before after
  pub gave_up : judged ≡ GaveUp → Judges (Tells z) GaveUp left_before left_after before after
  pub cut : judged ≡ WriteFault → StopsWriting (Tells z) left_before left_after before after

-- when each answer comes that says what is wrong with the bytes that were read
pub record FindsFault (domains : ℕ) (judged : Judged) (before after : Option (List ℕ)) : Type 0 where
  pub script : (f : ScriptFault) → judged ≡ Script f → ReadsAll (λ bytes. IsWrong domains bytes f) before after
  pub no_separator : judged ≡ NoSeparator → ReadsAll HasNoParts before after
  pub too_long : judged ≡ TooLong → IsReadInPart before after

-- an answer that isn't written
abbrev pub IsSilent : Judged → Type 0
IsSilent Legal = ⊥
IsSilent NoneFound = ⊥
IsSilent GaveUp = ⊥
IsSilent WriteFault = ⊥
IsSilent _ = Unit {0}

-- an answer that is written
abbrev pub IsTold : Judged → Type 0
IsTold Legal = Unit {0}
IsTold NoneFound = Unit {0}
IsTold GaveUp = Unit {0}
IsTold _ = ⊥

-- an answer that says that the bytes are no input
abbrev pub IsRefused : Judged → Type 0
IsRefused (Script fault) = Unit {0}
IsRefused NoSeparator = Unit {0}
IsRefused _ = ⊥

-- an answer of which the bytes that were read are the cause, or the sink, or want of memory
abbrev pub IsOfBytes : Judged → Type 0
IsOfBytes ReadFault = ⊥
IsOfBytes TooLong = ⊥
IsOfBytes _ = Unit {0}
