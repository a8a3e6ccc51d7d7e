-- What the judge of a table's text comes to.
use Rattle.std.specs.Prelude.{◌≡◌, ℕ, List}
use Rattle.model_core.specs.declared.state.Sizes.{Sizes}
use Rattle.table_text.specs.Texts.{Text}
use Rattle.table_text.specs.declared.machine.reply.LineReply.{LineReply}
use Rattle.table_text.specs.Machine.Machine.{MachineAnswers}
use Rattle.table_text.specs.Machine.Texts.{replies_text}
use Rattle.judge_outputs.specs.declared.texts.explain.Explained.{Explained}
use Rattle.judge_outputs.specs.declared.texts.explain.Explained.TheVariants.{Run, NoneFound}
use Rattle.judge_outputs.specs.declared.texts.machine.Gone.{Gone}
use Rattle.judge_outputs.specs.Texts.Playing.{AnswersBy}

-- the bytes are replies that the machine may give to the lines of this text, where just those keys go
pub record Explains (z : Sizes) (text : Text) (bytes : List ℕ) (gone : List Gone) : Type 0 where
  pub replies : List LineReply
  pub prints : replies_text replies ≡ bytes
  pub answers : MachineAnswers text.version z text.lines replies
  pub goes : AnswersBy text.version z gone text.lines replies

-- only a run claims something: that it explains the output
abbrev pub IsTrueAnswer : Sizes → Text → List ℕ → Explained → Type 0
IsTrueAnswer z text bytes (Run gone) = Explains z text bytes gone.items
IsTrueAnswer z text bytes (NoneFound line) = Unit {0}
