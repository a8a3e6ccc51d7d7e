-- How a script is played: some legal history has its commands.
use Rattle.std.specs.Prelude.{◌≡◌, ℕ, List, [], slice_index_or, Option}
use Rattle.model_core.specs.declared.command.Command.{Command}
use Rattle.model_core.specs.declared.entry.Entry.{Entry}
use Rattle.model_core.specs.declared.state.State.{State}
use Rattle.model_core.specs.Domains.{opening, sizes_of}
use Rattle.model_core.specs.History.{commands, state_after, LegalFrom}
use Rattle.text_script.specs.declared.fault.ScriptFault.{ScriptFault}
use Rattle.text_script.specs.declared.version.Version.TheVariants.{Three}
use Rattle.text_script.specs.Faults.{IsFaultUnlessMemory}
use Rattle.text_script.specs.Script.{Scripted}
use Rattle.text_script.specs.Spelling.{Spells}
use Rattle.heap_picture.specs.declared.fault.PictureFault.{PictureFault}
use Rattle.heap_picture.specs.declared.fault.PictureFault.TheVariants.{Script, Play}
use Rattle.heap_picture.specs.Sections.{made_of}
use Rattle.heap_picture.specs.Steps.{played}
use Rattle.heap_picture.specs.Text.{picture_text}

-- legal entries lead from one state to another, and the commands of domain 0 in them are these
pub record Plays (before after : State) (cs : List Command) : Type 0 where
  pub entries : List Entry
  pub legal : LegalFrom before entries
  pub leads : after ≡ state_after before entries
  pub commands_are : commands entries 0 ≡ cs

-- the state before a script: one domain, and the sizes that a run has without options
abbrev pub start : State
start = opening (sizes_of 1 512 32768 6)

-- the text is the picture of the state to which these commands are played, and that is a legal history
pub record IsDrawn (cs : List Command) (text : List ℕ) : Type 0 where
  pub legal : Plays start (played start cs) cs
  pub text_is : text ≡ picture_text (played start cs)

-- so drawn are the commands that a run of one domain makes of what the bytes spell
pub record IsPictureOf (bytes text : List ℕ) : Type 0 where
  pub script : Scripted
  pub spelled : Spells Three 1 script bytes
  pub drawn : IsDrawn (made_of script.version (slice_index_or script.sections 0 [])) text

-- only what is told of a script needs a cause in its bytes
abbrev pub IsFaultOf : Option ScriptFault → PictureFault → Type 0
IsFaultOf first (Script fault) = IsFaultUnlessMemory fault first
IsFaultOf first (Play fault) = Unit {0}
