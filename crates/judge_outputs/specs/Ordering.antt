-- What the judge of outputs of several domains' texts of a table has done by the end.
use Rattle.std.specs.Prelude.{◌≡◌, ℕ, List, ◌++◌, Option, Some, codes, decimal, flat_map}
use Rattle.model_core.specs.Output.{line}
use Rattle.text_script.specs.declared.fault.ScriptFault.{ScriptFault}
use Rattle.table_text.specs.Machine.Texts.{line_reply_text}
use Rattle.table_text.specs.Sections.Faults.{first_sections_fault}
use Rattle.table_text.specs.Sections.Spelling.{Sections, SpellsSections}
use Rattle.judge_outputs.specs.declared.judged.Judged.{Judged}
use Rattle.judge_outputs.specs.declared.judged.Judged.TheVariants.{Legal, NoneFound, GaveUp, Script, NoSeparator, TooLong, Memory, WriteFault}
use Rattle.judge_outputs.specs.declared.sections.turn.Turn.{Turn}
use Rattle.judge_outputs.specs.Input.{HasNoParts, HasParts}
use Rattle.judge_outputs.specs.Reading.{IsReadInPart, ReadsAll}
use Rattle.judge_outputs.specs.Sections.Answer.{SectionsExplain}
use Rattle.judge_outputs.specs.Show.{gave_up_text}
use Rattle.judge_outputs.specs.Written.{Judges, StopsWriting}

-- the bytes are a text of a table with a section for each domain, the line between, and an output
pub record IsSectionsInput (domains : ℕ) (bytes : List ℕ) (sections : Sections) (output : List ℕ) : Type 0 where
  pub text : List ℕ
  pub parts : HasParts bytes text output
  pub spelled : SpellsSections domains sections text

-- a turn: whose line comes next, and what it is answered
abbrev pub turn_text : Turn → List ℕ
turn_text t = codes "domain " ++ decimal t.domain ++ codes ": " ++ line (line_reply_text t.reply)

-- the answer `legal`, and the order
abbrev pub order_text : List Turn → List ℕ
order_text turns = line (codes "legal") ++ flat_map turn_text turns

abbrev pub no_order_text : List ℕ
no_order_text = line (codes "no order found; tests alone show that there is none then")

-- some order explains the output, and this is its text
pub record TellsOrder (domains : ℕ) (bytes text : List ℕ) : Type 0 where
  pub sections : Sections
  pub output : List ℕ
  pub input : IsSectionsInput domains bytes sections output
  pub turns : List Turn
  pub explains : SectionsExplain sections output turns
  pub text_is : text ≡ order_text turns

-- the text of an answer
abbrev pub TellsSections : ℕ → ℕ → List ℕ → Judged → List ℕ → Type 0
TellsSections domains states bytes Legal text = TellsOrder domains bytes text
TellsSections domains states bytes NoneFound text = text ≡ no_order_text
TellsSections domains states bytes GaveUp text = text ≡ gave_up_text states
TellsSections domains states bytes _ text = ⊥

-- the text before the line between has this first fault
pub record WrongSections (domains : ℕ) (bytes : List ℕ) (fault : ScriptFault) : Type 0 where
  pub text : List ℕ
  pub output : List ℕ
  pub parts : HasParts bytes text output
  pub first : first_sections_fault domains text ≡ Some fault

-- why there is no answer: the bytes are no input, or memory ran out
abbrev pub RefusesSections : ℕ → List ℕ → Judged → Type 0
RefusesSections domains bytes (Script fault) = WrongSections domains bytes fault
RefusesSections domains bytes NoSeparator = HasNoParts bytes
RefusesSections domains bytes Memory = Unit {0}
RefusesSections domains bytes _ = ⊥

-- what was written by the end, where a text is or a front part of one
pub record Wrote (domains states : ℕ) (judged : Judged) (left_before left_after before after : Option (List ℕ)) : Type 0 where
  pub legal : judged ≡ Legal → Judges (TellsSections domains states) Legal left_before left_after before after
  pub none_found : judged ≡ NoneFound → Judges (TellsSections domains states) NoneFound left_before left_after before after
  pub gave_up : judged ≡ GaveUp → Judges (TellsSections domains states) GaveUp left_before left_after before after
  pub cut : judged ≡ WriteFault → StopsWriting (TellsSections domains states) left_before left_after before after

-- when each answer comes that says what is wrong with the bytes that were read
pub record FindsFault (domains : ℕ) (judged : Judged) (before after : Option (List ℕ)) : Type 0 where
  pub text : (f : ScriptFault) → judged ≡ Script f → ReadsAll (λ bytes. WrongSections domains bytes f) before after
  pub no_separator : judged ≡ NoSeparator → ReadsAll HasNoParts before after
  pub too_long : judged ≡ TooLong → IsReadInPart before after
