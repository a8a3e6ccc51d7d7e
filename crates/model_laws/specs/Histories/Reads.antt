-- Laws of reads and writes of several domains.
use Rattle.std.specs.Prelude.{◌≡◌, ◌⊎◌, ℕ, Bool, true, false, List, ◌∷◌, ◌++◌, IsTrue, Some}
use Rattle.model_core.specs.declared.label.Label.{Label}
use Rattle.model_core.specs.declared.command.Command.TheVariants.{Load, GetKey, GetData}
use Rattle.model_core.specs.declared.entry.Entry.{Entry}
use Rattle.model_core.specs.declared.reply.Reply.{Reply}
use Rattle.model_core.specs.declared.reply.Reply.TheVariants.{BadType, BadIndex}
use Rattle.model_core.specs.declared.graph.Value.{Value}
use Rattle.model_core.specs.declared.state.Sizes.{Sizes}
use Rattle.model_core.specs.declared.state.State.{State}
use Rattle.model_core.specs.Domains.{label_in, opening}
use Rattle.model_core.specs.Commands.{shown, outcome}
use Rattle.model_core.specs.Entries.{next}
use Rattle.model_core.specs.History.{state_after, Legal}
use Rattle.model_laws.specs.Histories.Cells.{Cell, Field, Key, Datum, content, writes, last_written}

-- whether a reply refuses a read
abbrev pub is_refused : Reply → Bool
is_refused BadType = true
is_refused BadIndex = true
is_refused _ = false

-- a read is refused, or answers this value
abbrev pub Answers : Reply → Value → Type 0
Answers r v = IsTrue (is_refused r) ⊎ (r ≡ shown v)

-- the three reads of domain d after a history answer what was last written where they look
pub record AnswersLast (z : Sizes) (h : List Entry) (d : ℕ) : Type 0 where
  pub load : (dst src i : ℕ) (l : Label) → label_in (state_after (opening z) h) d src ≡ Some l → Answers (outcome (state_after (opening z) h) d (Load dst src i)).reply (last_written z h l (Field i))
  pub get_key : (dst ephe i : ℕ) (l : Label) → label_in (state_after (opening z) h) d ephe ≡ Some l → Answers (outcome (state_after (opening z) h) d (GetKey dst ephe i)).reply (last_written z h l (Key i))
  pub get_data : (dst ephe : ℕ) (l : Label) → label_in (state_after (opening z) h) d ephe ≡ Some l → Answers (outcome (state_after (opening z) h) d (GetData dst ephe)).reply (last_written z h l Datum)

-- whichever domain reads, and whichever wrote
abbrev pub ReadsAnswerLastWritten : Type 0
ReadsAnswerLastWritten = (z : Sizes) (h : List Entry) (d : ℕ) → Legal z h → AnswersLast z h d

-- one of these entries writes this value to a cell
pub record IsWrittenIn (s : State) (k : List Entry) (l : Label) (cell : Cell) (v : Value) : Type 0 where
  pub before : List Entry
  pub entry : Entry
  pub after : List Entry
  pub splits : k ≡ before ++ entry ∷ after
  pub writes : writes (state_after s before) entry l cell ≡ Some v

-- what was written before is there, or what was written later: so whoever finds a block finds what was written to it before it was stored where it was found, or later writes
abbrev pub WritesAreSeen : Type 0
WritesAreSeen = (z : Sizes) (h k : List Entry) (e : Entry) (l : Label) (cell : Cell) (v : Value) → Legal z (h ++ e ∷ k) → writes (state_after (opening z) h) e l cell ≡ Some v
    → let s = next (state_after (opening z) h) e in let found = content (state_after s k).graph l cell in
    (found ≡ v) ⊎ IsWrittenIn s k l cell found
