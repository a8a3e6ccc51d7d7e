-- What the calls on weak arrays answer and leave.
use Rattle.std.specs.Prelude.{◌≡◌, ◌≢◌, ◌⊎◌, ℕ, IsTrue, List, [], ◌∷◌, replicate, slice_get, slice_set, Option, Some, None}
use Rattle.model_core.specs.declared.label.Label.{Label}
use Rattle.model_core.specs.declared.entry.Entry.{Entry}
use Rattle.model_core.specs.declared.graph.Value.TheVariants.{Block}
use Rattle.model_core.specs.declared.reply.Reply.{Reply}
use Rattle.model_core.specs.declared.state.Sizes.{Sizes}
use Rattle.model_core.specs.Graph.{has_label, label_of, node_at}
use Rattle.model_core.specs.Commands.{shown, key_value}
use Rattle.model_core.specs.History.{IsPrefix}
use Rattle.weak_laws.specs.Tables.Structures.{IsWeakArray, slot_keys}
use Rattle.weak_laws.specs.Tables.Thinning.{EmptiedBy, WasOutside}
use Rattle.weak_laws.specs.Tables.Stages.{Goes, graph_of, held_in}
use Rattle.model_core.specs.declared.reply.Reply.TheVariants as reply
use Rattle.weak_tables.specs.Held.{AllHave, IsBare, KeepsOthers, IsClean, OfArray, ReadsArray}

-- nothing was read or written: there is no such slot, or no label to set
pub record Spares (z : Sizes) (old new : List Entry) (root : Label) (slots : List Label) : Type 0 where
  pub reads : ReadsArray z old new root slots
  pub keeps : KeepsOthers z old new

-- `weak_get` within the slots: the key that the slot had on the way, and has still, in a register
pub record GetsSlot (z : Sizes) (old new : List Entry) (root : Label) (slots : List Label) (dst index : ℕ) (r : Reply) : Type 0 where
  pub reads : ReadsArray z old new root slots
  pub keeps : (r : ℕ) → r ≢ 8 → r ≢ 9 → r ≢ 10 → r ≢ dst → held_in z new r ≡ held_in z old r
  pub clean : IsClean z new
  pub front : List Entry
  pub since : IsPrefix old front
  pub until : IsPrefix front new
  pub key : Option Label
  pub slot : slice_get (slot_keys (graph_of z front) slots) index ≡ Some key
  pub still : slice_get (slot_keys (graph_of z new) slots) index ≡ Some key
  pub answers : r ≡ shown (key_value key)
  pub holds : held_in z new dst ≡ key_value key

abbrev pub SlotAnswers : Sizes → List Entry → List Entry → Label → List Label → ℕ → ℕ → Option Label → Reply → Type 0
SlotAnswers z old new root slots dst index None r = (r ≡ reply.BadIndex) × Spares z old new root slots
SlotAnswers z old new root slots dst index (Some e) r = GetsSlot z old new root slots dst index r

-- `weak_set` where it is done: the slot has the key, and the others had no more than before
pub record SetsSlot (z : Sizes) (old new : List Entry) (root : Label) (slots : List Label) (index : ℕ) (k : Label) : Type 0 where
  pub goes : Goes z old new (root ∷ slots)
  pub keeps : KeepsOthers z old new
  pub clean : IsClean z new
  pub array : IsWeakArray (graph_of z new) root slots
  pub keys : EmptiedBy (WasOutside z old new) (slice_set (slot_keys (graph_of z old) slots) index (Some k)) (slot_keys (graph_of z new) slots)
  pub bare : AllHave IsBare (graph_of z old) slots → AllHave IsBare (graph_of z new) slots

abbrev pub SetAnswers : Sizes → List Entry → List Entry → Label → List Label → ℕ → Option Label → Option Label → Reply → Type 0
SetAnswers z old new root slots index None key r = (r ≡ reply.BadIndex) × Spares z old new root slots
SetAnswers z old new root slots index (Some e) None r = (r ≡ reply.BadType) × Spares z old new root slots × IsClean z new
SetAnswers z old new root slots index (Some e) (Some k) r = (r ≡ reply.Done) × SetsSlot z old new root slots index k

-- `weak_make`: a weak array of so many empty slots, all of whose blocks are new, in a register
pub record MakesArray (z : Sizes) (old new : List Entry) (dst count : ℕ) (root : Label) : Type 0 where
  pub goes : Goes z old new []
  pub keeps : (r : ℕ) → r ≢ 8 → r ≢ 9 → r ≢ 10 → r ≢ dst → held_in z new r ≡ held_in z old r
  pub clean : IsClean z new
  pub holds : held_in z new dst ≡ Block root
  pub slots : List Label
  pub fresh : (l : Label) → IsTrue (has_label (root ∷ slots) l) → node_at (graph_of z old) l ≡ None
  pub array : IsWeakArray (graph_of z new) root slots
  pub empty : slot_keys (graph_of z new) slots ≡ replicate count None
  pub bare : AllHave IsBare (graph_of z new) slots

-- or an allocation was refused: the register is as it was
pub record MakesNoArray (z : Sizes) (old new : List Entry) : Type 0 where
  pub goes : Goes z old new []
  pub keeps : KeepsOthers z old new
  pub clean : IsClean z new

abbrev pub ArrayAnswers : Sizes → List Entry → List Entry → ℕ → ℕ → Reply → Type 0
ArrayAnswers z old new dst count r = ((root : Label) × (r ≡ reply.Block root) × MakesArray z old new dst count root) ⊎ ((r ≡ reply.Full) × MakesNoArray z old new)

-- what a call answers and leaves of whatever weak array stands in a register when it begins
abbrev pub SlotReadAt : Sizes → List Entry → List Entry → ℕ → ℕ → ℕ → Reply → Type 0
SlotReadAt z old new dst array index r = OfArray z old array (λ root slots. SlotAnswers z old new root slots dst index (slice_get slots index) r)

abbrev pub SlotSetAt : Sizes → List Entry → List Entry → ℕ → ℕ → ℕ → Reply → Type 0
SlotSetAt z old new array index item r = OfArray z old array (λ root slots. SetAnswers z old new root slots index (slice_get slots index) (label_of (held_in z old item)) r)
