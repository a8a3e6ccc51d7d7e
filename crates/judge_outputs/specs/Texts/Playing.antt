-- Runs of the machine before whose lines just the keys of a witness go.
use Rattle.std.specs.Prelude.{◌≡◌, ℕ, ◌==◌, cond, List, [], ◌∷◌, ◌++◌, length, Some}
use Rattle.model_core.specs.declared.label.Label.{Label}
use Rattle.model_core.specs.declared.state.Sizes.{Sizes}
use Rattle.table_text.specs.declared.version.Version.{Version}
use Rattle.table_text.specs.declared.line.TableLine.{TableLine}
use Rattle.table_text.specs.declared.line.TableLine.TheVariants.{Key}
use Rattle.table_text.specs.declared.machine.reply.LineReply.{LineReply}
use Rattle.table_text.specs.declared.machine.reply.LineReply.TheVariants.{Done}
use Rattle.table_text.specs.Machine.Machine.{TableState, LineStep, opened, with_key}
use Rattle.judge_outputs.specs.declared.texts.machine.Gone.{Gone}
use Rattle.judge_outputs.specs.Texts.Keys.{taken_out}

-- the label of the key that a line makes, by the line's number, counted from 0
abbrev pub label_of : ℕ → Label
label_of n = record { domain = 0; serial = n }

-- the machine once those keys have gone that go before a line
abbrev pub once_gone : List Gone → ℕ → TableState → TableState
once_gone [] n s = s
once_gone (g ∷ gone) n s = once_gone gone n (cond (g.before == n) (taken_out (label_of g.key) s) s)

-- a key that a line makes has this label
abbrev pub NamesKey : Label → TableLine → LineReply → TableState → TableState → Type 0
NamesKey k (Key r) Done left t = t ≡ with_key left r (Some k)
NamesKey k _ _ left t = Unit {0}

-- a line of this number, the last of these, is answered and leaves this state, and just those keys go before it
pub record StepBy (version : Version) (z : Sizes) (gone : List Gone) (lines : List TableLine) (n : ℕ) (l : TableLine) (s : TableState) (a : LineReply) (t : TableState) : Type 0 where
  pub step : LineStep version z lines l s a t
  pub left : step.left ≡ once_gone gone n s
  pub named : NamesKey (label_of n) l a step.left t

-- so all lines behind those before, from a state on
abbrev pub RunsBy : Version → Sizes → List Gone → List TableLine → TableState → List TableLine → List LineReply → List TableState → Type 0
RunsBy version z gone before s [] [] [] = Unit {0}
RunsBy version z gone before s (l ∷ lines) (a ∷ replies) (t ∷ states) = StepBy version z gone (before ++ l ∷ []) (length before) l s a t × RunsBy version z gone (before ++ l ∷ []) t lines replies states
RunsBy version z gone before s _ _ _ = ⊥

-- the machine may give these replies to these lines, and then just those keys go
pub record AnswersBy (version : Version) (z : Sizes) (gone : List Gone) (lines : List TableLine) (replies : List LineReply) : Type 0 where
  pub states : List TableState
  pub runs : RunsBy version z gone [] opened lines replies states
