-- What a search for a history comes to.
use Rattle.std.specs.Prelude.{◌≡◌, ℕ, List, Option, Some, None}
use Rattle.text_script.specs.Script.{Scripted}
use Rattle.text_script.specs.declared.version.Version.{Version}
use Rattle.text_script.specs.declared.version.Version.TheVariants.{Three}
use Rattle.model_core.specs.declared.command.Command.{Command}
use Rattle.model_core.specs.declared.entry.Entry.{Entry}
use Rattle.model_core.specs.declared.state.Sizes.{Sizes}
use Rattle.judge_plain.specs.History.Explains.{Explains}
use Rattle.judge_plain.specs.Scheduled.Lines.{differs_from}
use Rattle.judge_plain.specs.Spawned.Explains.{ExplainsSpawning}
use Rattle.judge_outputs.specs.declared.explain.Explained.{Explained}
use Rattle.judge_outputs.specs.declared.explain.Explained.TheVariants.{Legal, NoneFound, GaveUp}
use Rattle.judge_outputs.specs.declared.explain.Near.{Near}

-- a history explains an output of a script of this version
abbrev pub explains_by : Version → Sizes → List (List Command) → List ℕ → List Entry → Type 0
explains_by Three = ExplainsSpawning
explains_by _ = Explains

-- and of a script, by its version
abbrev pub ExplainsScript : Sizes → Scripted → List ℕ → List Entry → Type 0
ExplainsScript z script bytes history = explains_by script.version z script.sections bytes history

-- some history explains another output of the script, and up to this line the judged output is as it
pub record StandsNear (z : Sizes) (script : Scripted) (bytes near : List ℕ) (n : ℕ) : Type 0 where
  pub history : List Entry
  pub explains : ExplainsScript z script near history
  pub differs : differs_from 1 near bytes ≡ Some n

-- an output that is told beside a refusal is such a one
abbrev pub IsTrueNear : Sizes → Scripted → List ℕ → Option Near → Type 0
IsTrueNear z script bytes None = Unit {0}
IsTrueNear z script bytes (Some near) = StandsNear z script bytes near.text.items near.line

-- what an answer claims: that its history explains the output, or that what it tells besides stands near
abbrev pub IsTrueAnswer : Sizes → Scripted → List ℕ → Explained → Type 0
IsTrueAnswer z script bytes (Legal history) = ExplainsScript z script bytes history.items
IsTrueAnswer z script bytes (NoneFound states near) = IsTrueNear z script bytes near
IsTrueAnswer z script bytes (GaveUp states near) = IsTrueNear z script bytes near
