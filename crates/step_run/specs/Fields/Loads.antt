-- Loads of heads, labels and fields.
use Rattle.std.specs.Prelude.{◌≡◌, ◌≢◌, ℕ, ◌+◌, ◌<◌, ◌≤◌, Bool, true, false, List, [], slice_set, Option, Some, None}
use Rattle.std.specs.Option.{option_map_or}
use Rattle.model_core.specs.declared.label.Label.{Label}
use Rattle.model_core.specs.declared.graph.Value as model
use Rattle.model_core.specs.declared.graph.Value.TheVariants.{Block}
use Rattle.model_core.specs.declared.command.Command.TheVariants.{Load, Store, Cas}
use Rattle.model_core.specs.declared.entry.Entry.{Entry}
use Rattle.model_core.specs.declared.entry.Entry.TheVariants.{Command}
use Rattle.model_core.specs.declared.reply.Reply.TheVariants.{BadType, BadIndex}
use Rattle.model_core.specs.declared.reply.Applied.TheVariants.{Replied}
use Rattle.model_core.specs.Commands.{shown}
use Rattle.model_core.specs.Domains.{register}
use Rattle.model_core.specs.Fronts.{Shape, PlainShape, RawShape, EpheShape, HoldsFields, HoldsShape}
use Rattle.heap_words.specs.declared.value.Value.{Value}
use Rattle.heap_words.specs.declared.value.Value.TheVariants.{Ref, Nothing}
use Rattle.heap_words.specs.Values.{IsPackable, value_word}
use Rattle.heap_words.specs.Labels.{IsPackableLabel, label_word}
use Rattle.heap_rule.specs.declared.change.Change.{Change}
use Rattle.heap_rule.specs.declared.config.Config.{Config}
use Rattle.heap_rule.specs.declared.view.DomainView.{DomainView}
use Rattle.heap_rule.specs.Layout.{heap_words}
use Rattle.heap_rule.specs.Places.{Shows, IsHeadOf}
use Rattle.heap_rule.specs.Changes.{value_at, changed, FitChanges}
use Rattle.heap_rule.specs.Rule.{state_of}
use Rattle.heap_rule.specs.Standing.{Acts, IsAt, FieldMay, Entered, Looked}

-- the register that a load, a store or a compare-and-set looks into, and the place there
abbrev pub subject : Entry → ℕ
subject (Command d (Load dst src i) full) = src
subject (Command d (Store block i item) full) = block
subject (Command d (Cas block i expected item) full) = block
subject _ = 0

abbrev pub place_of : Entry → ℕ
place_of (Command d (Load dst src i) full) = i
place_of (Command d (Store block i item) full) = i
place_of (Command d (Cas block i expected item) full) = i
place_of _ = 0

-- the register whose value goes into the field, if one does
abbrev pub item_of : Entry → Option ℕ
item_of (Command d (Store block i item) full) = Some item
item_of (Command d (Cas block i expected item) full) = Some item
item_of _ = None

-- the register that a load writes
abbrev pub target_of : Entry → ℕ
target_of (Command d (Load dst src i) full) = dst
target_of _ = 0

-- an own load, store or compare-and-set that looks into the block at the address. The last two have something to store, and the last expects something
abbrev pub HeadEntry : DomainView → ℕ → Entry → Type 0
HeadEntry x a (Command d (Load dst src i) false) = (d ≡ x.own.number) × IsAt x src a
HeadEntry x a (Command d (Store block i item) false) = (d ≡ x.own.number) × IsAt x block a × (item < 16) × (value_at x.own.registers item ≢ Nothing)
HeadEntry x a (Command d (Cas block i expected item) false) =
    (d ≡ x.own.number) × IsAt x block a × (item < 16) × (value_at x.own.registers item ≢ Nothing) × (expected < 16) × (value_at x.own.registers expected ≢ Nothing)
HeadEntry x a _ = ⊥

-- what a head load asks
pub record HeadMay (k : Config) (x : DomainView) (a : ℕ) (e : Entry) : Type 0 where
  pub acts : Acts k x
  pub entry : HeadEntry x a e

-- the register's block has so many fields, which lie in the heap
pub record Measured (k : Config) (a r size : ℕ) (x y : DomainView) : Type 0 where
  pub looked : Looked k x y
  pub knows : HoldsFields (state_of k y.seen.front) x.own.number r size
  pub inside : a + size + 1 ≤ heap_words k

-- the entry stands at the step exactly where its place is past the end of the fields
pub record SizeTold (k : Config) (a : ℕ) (e : Entry) (size : ℕ) (shape : Shape) (x y : DomainView) : Type 0 where
  pub below : place_of e < size → Measured k a (subject e) size x y
  pub of_shape : place_of e < size → HoldsShape (state_of k y.seen.front) x.own.number (subject e) shape
  pub past : size ≤ place_of e → Entered k e (Replied BadIndex) Nothing [] x y

-- whether the value is the address of a block
abbrev pub is_block : Value → Bool
is_block (Ref a) = true
is_block _ = false

-- whether a block goes into the field
abbrev pub puts_block : DomainView → Entry → Bool
puts_block x e = option_map_or (λ item. is_block (value_at x.own.registers item)) (item_of e) false

-- and where the block takes no such value: a raw block takes no block, and an ephemeron has no fields
abbrev pub RawCase : Bool → Config → ℕ → Entry → ℕ → ℕ → DomainView → DomainView → Type 0
RawCase true k a e size tag x y = Entered k e (Replied BadType) Nothing [] x y
RawCase false k a e size tag x y = SizeTold k a e size (RawShape size tag) x y

abbrev pub HeadCase : Config → ℕ → Entry → Shape → DomainView → DomainView → Type 0
HeadCase k a e (PlainShape size tag) x y = SizeTold k a e size (PlainShape size tag) x y
HeadCase k a e (RawShape size tag) x y = RawCase (puts_block x e) k a e size tag x y
HeadCase k a e (EpheShape keys) x y = Entered k e (Replied BadType) Nothing [] x y

-- a head load tells the shape of the block
pub record HeadTold (k : Config) (a : ℕ) (e : Entry) (x : DomainView) (found : ℕ) (y : DomainView) : Type 0 where
  pub shape : Shape
  pub head : IsHeadOf shape found
  pub told : HeadCase k a e shape x y

-- what a label load asks: the word behind the block's address
pub record LabelMay (x : DomainView) (at r : ℕ) : Type 0 where
  pub address : ℕ
  pub block : IsAt x r address
  pub label : at ≡ address + 1

-- a label load tells the label of the register's block, and leaves the front
pub record LabelTold (k : Config) (r : ℕ) (x : DomainView) (found : ℕ) (y : DomainView) : Type 0 where
  pub view : y ≡ x
  pub label : Label
  pub packable : IsPackableLabel (label.domain, label.serial)
  pub word : found ≡ label_word label.domain label.serial
  pub holds : register (state_of k x.seen.front) x.own.number r ≡ Block label

-- what a field load asks: its entry is an own load of this field, and the changes put what is read into its register
pub record FieldLoadMay (k : Config) (x : DomainView) (at : ℕ) (changes : List Change) (d dst src i : ℕ) : Type 0 where
  pub own : d ≡ x.own.number
  pub acts : Acts k x
  pub reads : FieldMay k x at src i
  pub goes : dst < 16
  pub written : (v : Value) → changed v changes x.own ≡ record x.own { registers = slice_set x.own.registers dst v }
  pub fits : FitChanges changes

-- the same of the entry that is told
abbrev pub FieldLoadEntry : Config → DomainView → ℕ → List Change → Entry → Type 0
FieldLoadEntry k x at changes (Command d (Load dst src i) false) = FieldLoadMay k x at changes d dst src i
FieldLoadEntry k x at changes _ = ⊥

-- a field load tells the field at its entry
pub record FieldRead (k : Config) (e : Entry) (changes : List Change) (x : DomainView) (found : ℕ) (y : DomainView) : Type 0 where
  pub value : Value
  pub packable : IsPackable value
  pub word : found ≡ value_word value
  pub held : model.Value
  pub shows : Shows value held
  pub register_is : register (state_of k y.seen.front) x.own.number (target_of e) ≡ held
  pub entered : Entered k e (Replied (shown held)) value changes x y
