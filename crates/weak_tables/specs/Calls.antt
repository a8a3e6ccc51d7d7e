-- Calls on one table, one after another, with what other commands do between.
use Rattle.std.specs.Prelude.{◌≡◌, ℕ, List, [], ◌∷◌, Option, Some}
use Rattle.model_core.specs.declared.label.Label.{Label}
use Rattle.model_core.specs.declared.entry.Entry.{Entry}
use Rattle.model_core.specs.declared.graph.Value.{Value}
use Rattle.model_core.specs.declared.reply.Reply.{Reply}
use Rattle.model_core.specs.declared.reply.Reply.TheVariants as reply
use Rattle.model_core.specs.declared.state.Sizes.{Sizes}
use Rattle.weak_laws.specs.Tables.Structures.{Cell, table_labels, IsTable, Apart}
use Rattle.weak_laws.specs.Tables.Stages.{Goes, graph_of}
use Rattle.weak_tables.specs.Tables.{PutAnswers, GetAnswers, TakeAnswers, Counts}

-- a call with the key in the register that it names, if that holds one, and its reply; or other commands, that may change these blocks
pub data TableCall : Type 0 where
  Put : Option Label → Value → Reply → TableCall
  Get : Option Label → ℕ → Reply → TableCall
  Take : Option Label → Reply → TableCall
  Count : ℕ → TableCall
  Others : List Label → TableCall

-- a call goes from one front, where the table has these chains, to another. Other commands leave the table apart
abbrev pub CallRuns : Sizes → Label → TableCall → List Entry → List (List Cell) → List Entry → Type 0
CallRuns z root (Put key v r) old chains new = PutAnswers z old new root chains key v r
CallRuns z root (Get key dst r) old chains new = GetAnswers z old new root chains dst key r
CallRuns z root (Take key r) old chains new = TakeAnswers z old new root chains key r
CallRuns z root (Count n) old chains new = Counts z old new root chains n
CallRuns z root (Others own) old chains new = Goes z old new own × Apart (table_labels root chains) own

-- calls go, one after another, from a front where the table has these chains to one where it has those
abbrev pub CallsRun : Sizes → Label → List TableCall → List Entry → List (List Cell) → List Entry → List (List Cell) → Type 0
CallsRun z root [] old chains new last = (new ≡ old) × (last ≡ chains)
CallsRun z root (c ∷ calls) old chains new last =
    (front : List Entry) × (mid : List (List Cell)) × CallRuns z root c old chains front × IsTable (graph_of z front) root mid × CallsRun z root calls front mid new last

-- a call doesn't bind this key anew, nor take it out
abbrev pub Spares : Label → TableCall → Type 0
Spares k (Put key v r) = r ≡ reply.Done → key ≡ Some k → ⊥
Spares k (Get key dst r) = Unit {0}
Spares k (Take key r) = r ≡ reply.Done → key ≡ Some k → ⊥
Spares k (Count n) = Unit {0}
Spares k (Others own) = Unit {0}

-- nor does one of these
abbrev pub AllSpare : Label → List TableCall → Type 0
AllSpare k [] = Unit {0}
AllSpare k (c ∷ calls) = Spares k c × AllSpare k calls
