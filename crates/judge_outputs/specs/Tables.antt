-- What the judge of tables has done by the end.
use Rattle.std.specs.Prelude.{◌≡◌, ℕ, ◌+◌, List, ◌++◌, Option, Some, codes, decimal, flat_map}
use Rattle.model_core.specs.declared.state.Sizes.{Sizes}
use Rattle.model_core.specs.Output.{line}
use Rattle.text_script.specs.declared.fault.ScriptFault.{ScriptFault}
use Rattle.judge_outputs.specs.Texts.Answer.{Explains}
use Rattle.judge_outputs.specs.declared.texts.machine.Gone.{Gone}
use Rattle.table_text.specs.Faults.{first_fault}
use Rattle.table_text.specs.Spelling.{Spells}
use Rattle.table_text.specs.Texts as texts
use Rattle.judge_outputs.specs.declared.tables.JudgedTable.{JudgedTable}
use Rattle.judge_outputs.specs.declared.tables.JudgedTable.TheVariants.{Legal, NoneFound, Text, NoSeparator, TooLong, Memory, ReadFault, WriteFault}
use Rattle.judge_outputs.specs.Input.{HasNoParts, HasParts}
use Rattle.judge_outputs.specs.Reading.{IsReadInPart, ReadsAll}
use Rattle.judge_outputs.specs.Show.{line_feed}
use Rattle.judge_outputs.specs.Written.{Judges, StopsWriting}

-- the bytes are a table's text, the line between, and an output
pub record IsTableInput (bytes : List ℕ) (table : texts.Text) (output : List ℕ) : Type 0 where
  pub text : List ℕ
  pub parts : HasParts bytes text output
  pub spelled : Spells table text

-- which key goes before which line: lines of the text are told by their places in it, and its first has none of the table
abbrev pub gone_text : Gone → List ℕ
gone_text g = codes "the key of line " ++ decimal (g.key + 2) ++ codes " goes before line " ++ (decimal (g.before + 2) ++ line_feed)

-- the text of each answer
abbrev pub run_text : List Gone → List ℕ
run_text gone = line (codes "legal") ++ flat_map gone_text gone

abbrev pub no_run_text : ℕ → List ℕ
no_run_text n = codes "no run found: line " ++ decimal n ++ line (codes " of the output is the first that the run which was tried hasn't; tests alone show that there is none then")

-- the output is that of a run of the text, and this tells which keys go in it
pub record TellsRun (z : Sizes) (bytes text : List ℕ) : Type 0 where
  pub table : texts.Text
  pub output : List ℕ
  pub input : IsTableInput bytes table output
  pub gone : List Gone
  pub explains : Explains z table output gone
  pub text_is : text ≡ run_text gone

-- the text of an answer
abbrev pub TellsTable : Sizes → List ℕ → JudgedTable → List ℕ → Type 0
TellsTable z bytes Legal text = TellsRun z bytes text
TellsTable z bytes (NoneFound n) text = text ≡ no_run_text n
TellsTable z bytes _ text = ⊥

-- the text before the line between has this first fault
pub record WrongTable (bytes : List ℕ) (fault : ScriptFault) : Type 0 where
  pub text : List ℕ
  pub output : List ℕ
  pub parts : HasParts bytes text output
  pub first : first_fault text ≡ Some fault

-- why there is no answer: the bytes are no input, or memory ran out
abbrev pub RefusesTable : List ℕ → JudgedTable → Type 0
RefusesTable bytes (Text fault) = WrongTable bytes fault
RefusesTable bytes NoSeparator = HasNoParts bytes
RefusesTable bytes Memory = Unit {0}
RefusesTable bytes _ = ⊥

-- what was written by the end, where a text is or a front part of one
pub record Wrote (z : Sizes) (judged : JudgedTable) (left_before left_after before after : Option (List ℕ)) : Type 0 where
  pub legal : judged ≡ Legal → Judges (TellsTable z) Legal left_before left_after before after
  pub none_found : (n : ℕ) → judged ≡ NoneFound n → Judges (TellsTable z) (NoneFound n) left_before left_after before after
  pub cut : judged ≡ WriteFault → StopsWriting (TellsTable z) left_before left_after before after

-- when each answer comes that says what is wrong with the bytes that were read
pub record FindsFault (judged : JudgedTable) (before after : Option (List ℕ)) : Type 0 where
  pub table : (f : ScriptFault) → judged ≡ Text f → ReadsAll (λ bytes. WrongTable bytes f) before after
  pub no_separator : judged ≡ NoSeparator → ReadsAll HasNoParts before after
  pub too_long : judged ≡ TooLong → IsReadInPart before after

-- an answer that is written
abbrev pub IsTableTold : JudgedTable → Type 0
IsTableTold Legal = Unit {0}
IsTableTold (NoneFound n) = Unit {0}
IsTableTold _ = ⊥

-- an answer that isn't written
abbrev pub IsTableSilent : JudgedTable → Type 0
IsTableSilent Legal = ⊥
IsTableSilent (NoneFound n) = ⊥
IsTableSilent WriteFault = ⊥
IsTableSilent _ = Unit {0}

-- an answer that says that the bytes are no input
abbrev pub IsTableRefused : JudgedTable → Type 0
IsTableRefused (Text fault) = Unit {0}
IsTableRefused NoSeparator = Unit {0}
IsTableRefused _ = ⊥

-- an answer of which the bytes that were read are the cause, or the sink, or want of memory
abbrev pub IsOfTable : JudgedTable → Type 0
IsOfTable ReadFault = ⊥
IsOfTable TooLong = ⊥
IsOfTable _ = Unit {0}
