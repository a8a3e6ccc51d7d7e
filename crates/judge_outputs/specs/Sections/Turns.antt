-- Runs of several domains: one order of all their lines.
use Rattle.std.specs.Prelude.{ℕ, zero, suc, ◌==◌, ◌+◌, cond, List, [], ◌∷◌, ◌++◌}
use Rattle.model_core.specs.Output.{line}
use Rattle.text_script.specs.Spelling.{heading_text}
use Rattle.table_text.specs.declared.line.TableLine.{TableLine}
use Rattle.table_text.specs.declared.machine.reply.LineReply.{LineReply}
use Rattle.table_text.specs.Machine.Machine.{TableState}
use Rattle.table_text.specs.Machine.Texts.{replies_text}
use Rattle.judge_outputs.specs.declared.sections.turn.Turn.{Turn}
use Rattle.judge_outputs.specs.Sections.Machine.{SharedStep, opened_by, placed}

-- what a domain does in these turns: its lines, in their order
abbrev pub lines_of : ℕ → List Turn → List TableLine
lines_of d [] = []
lines_of d (t ∷ turns) = cond (t.domain == d) (t.line ∷ lines_of d turns) (lines_of d turns)

-- and what they are answered
abbrev pub replies_of : ℕ → List Turn → List LineReply
replies_of d [] = []
replies_of d (t ∷ turns) = cond (t.domain == d) (t.reply ∷ replies_of d turns) (replies_of d turns)

-- the machine from a state on, turn by turn, and the state after each
abbrev pub TurnsRun : TableState → List Turn → List TableState → Type 0
TurnsRun s [] [] = Unit {0}
TurnsRun s (t ∷ turns) (u ∷ states) = SharedStep (placed t.domain t.line) s t.reply u × TurnsRun u turns states
TurnsRun s _ _ = ⊥

-- the machine of so many domains may answer these turns so
pub record TurnsAnswered (domains : ℕ) (turns : List Turn) : Type 0 where
  pub states : List TableState
  pub runs : TurnsRun (opened_by domains) turns states

-- what is written for a domain: its heading, and its replies
abbrev pub section_told : ℕ → List Turn → List ℕ
section_told d turns = line (heading_text d) ++ replies_text (replies_of d turns)

-- and for so many domains, the first of which has the number d
abbrev pub told_from : ℕ → ℕ → List Turn → List ℕ
told_from d zero turns = []
told_from d (suc n) turns = section_told d turns ++ told_from (d + 1) n turns
