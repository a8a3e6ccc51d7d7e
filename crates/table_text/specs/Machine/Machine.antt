-- The machine of a text of a table: five registers, the bindings of one table and the slots of one weak array.
use Rattle.std.specs.Prelude.{◌≡◌, ◌⊎◌, ℕ, ◌+◌, ◌-◌, ◌≤◌, false, IsTrue, List, [], ◌∷◌, ◌++◌, length, replicate, slice_get, slice_set, slice_index_or, Option, Some, None}
use Rattle.model_core.specs.declared.label.Label.{Label}
use Rattle.model_core.specs.declared.graph.Value.{Value}
use Rattle.model_core.specs.declared.graph.Value.TheVariants.{Int}
use Rattle.model_core.specs.declared.state.Sizes.{Sizes}
use Rattle.model_core.specs.Graph.{has_label}
use Rattle.model_core.specs.Domains.{reserve}
use Rattle.weak_laws.specs.Tables.Structures.{Binding, keys_of, without, datum_at}
use Rattle.weak_laws.specs.Tables.Thinning.{ThinnedBy, EmptiedBy}
use Rattle.table_text.specs.declared.version.Version.{Version}
use Rattle.table_text.specs.declared.version.Version.TheVariants.{One, Two}
use Rattle.table_text.specs.declared.line.TableLine.{TableLine}
use Rattle.table_text.specs.declared.line.TableLine.TheVariants.{Key, Forget, Put, Get, Del, SetWeak, GetWeak, Count, FullMajor}
use Rattle.table_text.specs.declared.machine.reply.LineReply.{LineReply}
use Rattle.table_text.specs.declared.machine.reply.LineReply.TheVariants as reply

-- the machine: the keys in registers 1 to 5, in their order, the bindings, and the keys in the sixteen slots
pub record TableState : Type 0 where
  pub registers : List (Option Label)
  pub bindings : List Binding
  pub slots : List (Option Label)

-- before the first line nothing holds a key
abbrev pub opened : TableState
opened = record { registers = replicate 5 None; bindings = []; slots = replicate 16 None }

-- what register r holds
abbrev pub key_in : TableState → ℕ → Option Label
key_in s r = slice_index_or s.registers (r - 1) None

abbrev pub with_key : TableState → ℕ → Option Label → TableState
with_key s r key = record s { registers = slice_set s.registers (r - 1) key }

-- one of these places holds the label
abbrev pub Holds : List (Option Label) → Label → Type 0
Holds places k = (i : ℕ) × (slice_get places i ≡ Some (Some k))

-- no register holds the label
abbrev pub IsLost : TableState → Label → Type 0
IsLost s k = Holds s.registers k → ⊥

-- the label is bound, or in a slot
abbrev pub IsThere : TableState → Label → Type 0
IsThere s k = IsTrue (has_label (keys_of s.bindings) k) ⊎ Holds s.slots k

-- the label has lost neither its binding nor a slot
pub record KeepsKey (s t : TableState) (k : Label) : Type 0 where
  pub datum : datum_at t.bindings k ≡ datum_at s.bindings k
  pub slots : (i : ℕ) → slice_get s.slots i ≡ Some (Some k) → slice_get t.slots i ≡ Some (Some k)

-- before a line some keys may go that are in no register, each from the bindings and from all slots at once: one that is anywhere still has lost nothing
pub record MayGo (s t : TableState) : Type 0 where
  pub registers : t.registers ≡ s.registers
  pub bindings : ThinnedBy (IsLost s) s.bindings t.bindings
  pub slots : EmptiedBy (IsLost s) s.slots t.slots
  pub together : (k : Label) → IsThere t k → KeepsKey s t k

-- after a complete collection all of these are gone
pub record AllGone (s : TableState) : Type 0 where
  pub bindings : (k : Label) → IsTrue (has_label (keys_of s.bindings) k) → Holds s.registers k
  pub slots : (k : Label) → Holds s.slots k → Holds s.registers k

-- the label is nowhere in the machine
pub record IsNew (s : TableState) (k : Label) : Type 0 where
  pub lost : IsLost s k
  pub unbound : has_label (keys_of s.bindings) k ≡ false
  pub unset : Holds s.slots k → ⊥

-- a key is bound to a value, and what else was bound is so still
pub record Binds (k : Label) (v : Value) (old new : List Binding) : Type 0 where
  pub rest : without k new ≡ without k old
  pub bound : datum_at new k ≡ Some v

-- a line that names a register which holds nothing is answered `type`
abbrev pub WithKey : Option Label → TableState → LineReply → TableState → (Label → Type 0) → Type 0
WithKey None s r t f = (r ≡ reply.BadType) × (t ≡ s)
WithKey (Some k) s r t f = f k

-- what a look-up answers
abbrev pub Shows : Option Value → LineReply → Type 0
Shows (Some (Int v)) r = r ≡ reply.Number v
Shows (Some other) r = ⊥
Shows None r = r ≡ reply.Empty

abbrev pub Deletes : Label → TableState → LineReply → TableState → Option Value → Type 0
Deletes k s r t None = (r ≡ reply.Empty) × (t ≡ s)
Deletes k s r t (Some v) = (r ≡ reply.Done) × (t ≡ record s { bindings = without k s.bindings })

abbrev pub ReadsSlot : TableState → LineReply → TableState → ℕ → Option (Option Label) → Type 0
ReadsSlot s r t d None = ⊥
ReadsSlot s r t d (Some None) = (r ≡ reply.Empty) × (t ≡ with_key s d None)
ReadsSlot s r t d (Some (Some k)) = (r ≡ reply.Yes) × (t ≡ with_key s d (Some k))

-- a count answers how many bindings there are at some moment, and keys may go while it is made
pub record Tallies (s : TableState) (r : LineReply) (t : TableState) : Type 0 where
  pub goes : MayGo s t
  pub number : ℕ
  pub answers : r ≡ reply.Counted number
  pub most : number ≤ length s.bindings
  pub least : length t.bindings ≤ number

-- what a line answers and leaves, once what may go has gone
abbrev pub Effect : TableState → TableLine → LineReply → TableState → Type 0
Effect s (Key r) a t = (a ≡ reply.Done) × ((k : Label) × IsNew s k × (t ≡ with_key s r (Some k)))
Effect s (Forget r) a t = (a ≡ reply.Done) × (t ≡ with_key s r None)
Effect s (Put r v) a t = WithKey (key_in s r) s a t (λ k. (a ≡ reply.Done) × (t.registers ≡ s.registers) × (t.slots ≡ s.slots) × Binds k (Int v) s.bindings t.bindings)
Effect s (Get r) a t = WithKey (key_in s r) s a t (λ k. Shows (datum_at s.bindings k) a × (t ≡ s))
Effect s (Del r) a t = WithKey (key_in s r) s a t (λ k. Deletes k s a t (datum_at s.bindings k))
Effect s (SetWeak i r) a t = WithKey (key_in s r) s a t (λ k. (a ≡ reply.Done) × (t ≡ record s { slots = slice_set s.slots i (Some k) }))
Effect s (GetWeak d i) a t = ReadsSlot s a t d (slice_get s.slots i)
Effect s Count a t = Tallies s a t
Effect s FullMajor a t = (a ≡ reply.Done) × (t ≡ s) × AllGone s

-- how many labels a binding may make: an ephemeron's and a node's, or a leaf's and those of the blocks on its way
abbrev pub made_by_put : Version → ℕ
made_by_put One = 2
made_by_put Two = 7

-- how many labels a line may make
abbrev pub made_by : Version → TableLine → ℕ
made_by v (Key r) = 1
made_by v (Put r x) = made_by_put v
made_by v _ = 0

abbrev pub all_made : Version → List TableLine → ℕ
all_made v [] = 0
all_made v (l ∷ ls) = made_by v l + all_made v ls

-- a line that binds the key in a register finds one there
abbrev pub HasItsKey : TableState → TableLine → Type 0
HasItsKey s (Put r v) = (k : Label) × (key_in s r ≡ Some k)
HasItsKey s _ = Unit {0}

-- when the last of these lines may be answered `full` in a state: it makes a block, it has the key that it binds, and with the 19 labels that were made before the first line, the shared block's among them, so many may be kept that the pools are used up
pub record MayBeRefused (v : Version) (z : Sizes) (lines : List TableLine) (l : TableLine) (s : TableState) : Type 0 where
  pub allocates : made_by v l ≡ 0 → ⊥
  pub key : HasItsKey s l
  pub kept : z.pools ≤ 19 + all_made v lines + reserve z + z.classes

-- a line, the last of these, is answered and leaves this state. `full` changes nothing
pub record LineStep (v : Version) (z : Sizes) (lines : List TableLine) (l : TableLine) (s : TableState) (a : LineReply) (t : TableState) : Type 0 where
  pub left : TableState
  pub goes : MayGo s left
  pub does : Effect left l a t ⊎ ((a ≡ reply.Full) × (t ≡ left) × MayBeRefused v z lines l left)

-- the machine from a state on, over all lines behind those before: each line's reply, and the state after it
abbrev pub MachineRuns : Version → Sizes → List TableLine → TableState → List TableLine → List LineReply → List TableState → Type 0
MachineRuns v z before s [] [] [] = Unit {0}
MachineRuns v z before s (l ∷ lines) (a ∷ replies) (t ∷ states) = LineStep v z (before ++ l ∷ []) l s a t × MachineRuns v z (before ++ l ∷ []) t lines replies states
MachineRuns v z before s _ _ _ = ⊥

-- the replies are those that the machine may give to the lines of a text of this version
pub record MachineAnswers (v : Version) (z : Sizes) (lines : List TableLine) (replies : List LineReply) : Type 0 where
  pub states : List TableState
  pub runs : MachineRuns v z [] opened lines replies states
