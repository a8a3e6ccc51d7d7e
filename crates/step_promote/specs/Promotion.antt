-- What the steps ask and tell by which young blocks are copied: loads at which blocks are met, stores to copies, and the roots ("Retrofitting Parallelism onto OCaml", section 3.2).
use Rattle.std.specs.Prelude.{◌≡◌, ℕ, zero, suc, ◌+◌, ◌*◌, ◌<◌, ◌≤◌, ◌⊎◌, Bool, false, List, [], ◌∷◌, length, slice_get, slice_set, Some}
use Rattle.model_core.specs.declared.label.Label.{Label}
use Rattle.model_core.specs.declared.graph.Value as model
use Rattle.model_core.specs.declared.graph.Node.{Node}
use Rattle.model_core.specs.declared.state.State as states
use Rattle.model_core.specs.Domains.{register}
use Rattle.model_core.specs.Graph.{node_at}
use Rattle.model_core.specs.Fronts.{Shape, PlainShape, RawShape, EpheShape}
use Rattle.heap_words.specs.declared.value.Value.{Value}
use Rattle.heap_words.specs.declared.value.Value.TheVariants.{Ref}
use Rattle.heap_words.specs.Values.{IsPackable, value_word}
use Rattle.heap_words.specs.declared.head.Head.TheVariants.{Forward}
use Rattle.heap_words.specs.Heads.{head_word}
use Rattle.heap_words.specs.Labels.{label_word}
use Rattle.heap_rule.specs.declared.config.Config.{Config}
use Rattle.heap_rule.specs.declared.view.Copied.{Copied}
use Rattle.heap_rule.specs.declared.view.Form.{Form}
use Rattle.heap_rule.specs.declared.view.Form.TheVariants.{Plain, Raw, Ephe}
use Rattle.heap_rule.specs.declared.view.Met.{Met}
use Rattle.heap_rule.specs.declared.view.Owing.{Owing}
use Rattle.heap_rule.specs.declared.view.DomainView.{DomainView}
use Rattle.heap_rule.specs.declared.view.Finalisers.{Finalisers}
use Rattle.heap_rule.specs.declared.view.Held.{Held}
use Rattle.heap_rule.specs.declared.view.Held.TheVariants.{Final, Last, Queue}
use Rattle.heap_rule.specs.declared.view.Waiting.{Waiting}
use Rattle.heap_rule.specs.declared.view.Waiting.TheVariants.{Fin, Last as LastWaiting}
use Rattle.heap_rule.specs.declared.phase.Kind.TheVariants.{Promote, Reset}
use Rattle.heap_rule.specs.declared.phase.Stage.TheVariants.{In}
use Rattle.heap_rule.specs.Layout.{base_of}
use Rattle.heap_rule.specs.Places.{Place, Live, extent, values_of, IsHeadOf, IsNewHead, IsPackableShape, Fits, Stands, IsOldAt, IsOldWord, Lasts, More}
use Rattle.heap_rule.specs.Changes.{value_at}
use Rattle.heap_rule.specs.Copies.{HasCopy, HoldsOld, known}
use Rattle.heap_rule.specs.Finalisers.{held_at, FinalisersFit}
use Rattle.heap_rule.specs.Rule.{state_of}
use Rattle.heap_rule.specs.Standing.{IsAt, IsInHeap, with_registers}
use Rattle.heap_rule.specs.Token.{Holds}
use Rattle.heap_words.specs.declared.colours.Colours.{Colours}

-- the form of a shape
abbrev pub form_of : Shape → Form
form_of (PlainShape size tag) = Plain size tag
form_of (RawShape size tag) = Raw size tag
form_of (EpheShape keys) = Ephe keys

-- the block that is met at an address
abbrev pub met_of : ℕ → Place → Met
met_of a p = record { address = a; label = p.label; form = form_of p.shape }

-- the domain with other blocks met, and with one more
abbrev pub with_met : DomainView → List Met → DomainView
with_met x met = record x { seen = record x.seen { copying = record x.seen.copying { met = met } } }

abbrev pub meeting : DomainView → Met → DomainView
meeting x m = with_met x (m ∷ x.seen.copying.met)

-- and with other copies known, and with one more of a young block
abbrev pub with_copied : DomainView → List Copied → DomainView
with_copied x copied = record x { seen = record x.seen { copying = record x.seen.copying { copied = copied } } }

abbrev pub learning : DomainView → ℕ → ℕ → DomainView
learning x young copy = with_copied x (record { copy = copy; source = young } ∷ x.seen.copying.copied)

-- what the domain has met
abbrev pub Knows : DomainView → Live
Knows x = known x.seen.copying.met

-- what the domain has met lies in the heap
abbrev pub AllFit : Config → DomainView → Type 0
AllFit k x = (a : ℕ) (p : Place) → Knows x a ≡ Some p → Fits k a p

-- a load of the head of a block that was met, or to which a register or a list of finalisers refers
pub record HeadMay (x : DomainView) (at : ℕ) : Type 0 where
  pub stage : x.seen.stage ≡ In Promote
  pub from : ((p : Place) × (Knows x at ≡ Some p)) ⊎ ((r : ℕ) × IsAt x r at) ⊎ ((h : Held) × (held_at x.own.finalisers h ≡ Some at))

-- the block doesn't forward: its head is that of its shape, and one of a minor area has that of a new block, as far as the colours and the armed word are known
pub record StaysThere (k : Config) (at : ℕ) (place : Place) (x : DomainView) (found : ℕ) (y : DomainView) : Type 0 where
  pub head : IsHeadOf place.shape found
  pub new : k.pools * 4096 < at → (c : Colours) → x.seen.share.colours ≡ Some c → (b : Bool) → x.seen.share.armed ≡ Some b → IsNewHead x.seen.share.colours x.seen.share.armed false place.shape found
  pub view : y ≡ meeting x (met_of at place)

-- the block forwards: its copy is met too, and known as its copy
pub record Forwards (k : Config) (at : ℕ) (place : Place) (x : DomainView) (found : ℕ) (y : DomainView) : Type 0 where
  pub copy : ℕ
  pub word : found ≡ head_word (Forward copy)
  pub young : k.pools * 4096 < at
  pub old : IsOldAt k copy
  pub inside : IsInHeap k copy
  pub view : y ≡ learning (meeting (meeting x (met_of at place)) (met_of copy place)) at copy
  pub there : Lasts (Knows y) copy place

-- and where a copy of the block was known, the head forwards to that copy
pub record HeadMet (k : Config) (at : ℕ) (x : DomainView) (found : ℕ) (y : DomainView) : Type 0 where
  pub place : Place
  pub packable : IsPackableShape place.shape
  pub here : Lasts (Knows y) at place
  pub more : More (Knows x) (Knows y)
  pub fit : AllFit k y
  pub told : StaysThere k at place x found y ⊎ Forwards k at place x found y
  pub once : (copy : ℕ) → HasCopy x at copy → found ≡ head_word (Forward copy)

-- a load of the label of a block that was met
pub record LabelMay (x : DomainView) (at source : ℕ) : Type 0 where
  pub stage : x.seen.stage ≡ In Promote
  pub place : Place
  pub met : Knows x source ≡ Some place
  pub word : at ≡ source + 1

pub record LabelMet (source : ℕ) (x : DomainView) (found : ℕ) (y : DomainView) : Type 0 where
  pub place : Place
  pub met : Knows x source ≡ Some place
  pub word : found ≡ label_word place.label.domain place.label.serial
  pub view : y ≡ x

-- a value of a node
pub record HasValueAt (s : states.State) (l : Label) (i : ℕ) (v : model.Value) : Type 0 where
  pub node : Node
  pub there : node_at s.graph l ≡ Some node
  pub is : slice_get (values_of node) i ≡ Some v

-- a load of a value of a block in a minor area that was met
pub record ValueMay (k : Config) (x : DomainView) (at source i : ℕ) : Type 0 where
  pub stage : x.seen.stage ≡ In Promote
  pub place : Place
  pub met : Knows x source ≡ Some place
  pub young : k.pools * 4096 < source
  pub word : at ≡ source + 2 + i
  pub below : i + 2 < extent place.shape

-- it tells the value of the node, and meets the block whose address it is
pub record ValueMet (k : Config) (source i : ℕ) (x : DomainView) (found : ℕ) (y : DomainView) : Type 0 where
  pub value : Value
  pub held : model.Value
  pub place : Place
  pub met : Knows x source ≡ Some place
  pub packable : IsPackable value
  pub word : found ≡ value_word value
  pub has : HasValueAt (state_of k x.seen.front) place.label i held
  pub stands : Stands (Knows y) value held
  pub more : More (Knows x) (Knows y)
  pub fit : AllFit k y
  pub view : y ≡ with_met x y.seen.copying.met

-- the domain with other copies to fill
abbrev pub with_pending : DomainView → List Owing → DomainView
with_pending x pending = record x { seen = record x.seen { copying = record x.seen.copying { pending = pending } } }

-- the next value of the first copy that the domain is to fill: the word stands for the value of the node, and is no address of a minor area
pub record FillMay (k : Config) (x : DomainView) (at new : ℕ) : Type 0 where
  pub stage : x.seen.stage ≡ In Promote
  pub first : Owing
  pub rest : List Owing
  pub pending : x.seen.copying.pending ≡ first ∷ rest
  pub place : Place
  pub met : Knows x first.copy ≡ Some place
  pub below : first.filled + 2 < extent place.shape
  pub word : at ≡ first.copy + 2 + first.filled
  pub value : Value
  pub packs : new ≡ value_word value
  pub held : model.Value
  pub has : HasValueAt (state_of k x.seen.front) place.label first.filled held
  pub stands : Stands (Knows x) value held
  pub old : IsOldWord k new

pub record FillTold (x : DomainView) (new : ℕ) (y : DomainView) : Type 0 where
  pub first : Owing
  pub rest : List Owing
  pub pending : x.seen.copying.pending ≡ first ∷ rest
  pub view : y ≡ with_pending x (record first { filled = first.filled + 1 } ∷ rest)

-- the first copy has all its values
pub record FilledMay (x : DomainView) (at : ℕ) : Type 0 where
  pub stage : x.seen.stage ≡ In Promote
  pub first : Owing
  pub rest : List Owing
  pub pending : x.seen.copying.pending ≡ first ∷ rest
  pub place : Place
  pub met : Knows x first.copy ≡ Some place
  pub full : extent place.shape ≤ first.filled + 2

pub record FilledTold (x : DomainView) (found : ℕ) (y : DomainView) : Type 0 where
  pub first : Owing
  pub rest : List Owing
  pub pending : x.seen.copying.pending ≡ first ∷ rest
  pub view : y ≡ with_pending x rest

-- a register that holds the address of a block that was met gets that of its copy
pub record MoveMay (x : DomainView) (register copy : ℕ) : Type 0 where
  pub stage : x.seen.stage ≡ In Promote
  pub few : register < 16
  pub address : ℕ
  pub holds : value_at x.own.registers register ≡ Ref address
  pub from : Place
  pub met : Knows x address ≡ Some from
  pub to : Place
  pub there : Knows x copy ≡ Some to
  pub label : to.label ≡ from.label

pub record MoveTold (k : Config) (register copy : ℕ) (x : DomainView) (found : ℕ) (y : DomainView) : Type 0 where
  pub view : y ≡ with_registers x (slice_set x.own.registers register (Ref copy))
  pub holds : Holds k y.own.registers

-- a list in which one item, if it is there, is another
abbrev pub changed_at : {A : Type 0} → (A → A) → List A → ℕ → List A
changed_at change [] i = []
changed_at change (x ∷ xs) zero = change x ∷ xs
changed_at change (x ∷ xs) (suc i) = x ∷ changed_at change xs i

-- an item of a queue with another address, if it has one
abbrev pub waiting_at : ℕ → Waiting → Waiting
waiting_at a (Fin address number register) = Fin a number register
waiting_at a (LastWaiting number) = LastWaiting number

-- the lists of finalisers with another address at one place
abbrev pub with_held : Finalisers → Held → ℕ → Finalisers
with_held fs (Final i) a = record fs { finals = record fs.finals { items = changed_at (λ r. record r { address = a }) fs.finals.items i } }
with_held fs (Last i) a = record fs { lasts = record fs.lasts { items = changed_at (λ r. record r { address = a }) fs.lasts.items i } }
with_held fs (Queue i) a = record fs { queue = record fs.queue { items = changed_at (waiting_at a) fs.queue.items i } }

-- the domain with other lists of finalisers
abbrev pub with_finalisers : DomainView → Finalisers → DomainView
with_finalisers x fs = record x { own = record x.own { finalisers = fs } }

-- a place of these lists that has the address of a block that was met gets that of its copy
pub record HeldMoveMay (x : DomainView) (held : Held) (copy : ℕ) : Type 0 where
  pub stage : x.seen.stage ≡ In Promote
  pub address : ℕ
  pub holds : held_at x.own.finalisers held ≡ Some address
  pub from : Place
  pub met : Knows x address ≡ Some from
  pub to : Place
  pub there : Knows x copy ≡ Some to
  pub label : to.label ≡ from.label

pub record HeldMoveTold (k : Config) (held : Held) (copy : ℕ) (x : DomainView) (found : ℕ) (y : DomainView) : Type 0 where
  pub view : y ≡ with_finalisers x (with_held x.own.finalisers held copy)
  pub fit : FinalisersFit k y.own.finalisers

-- a load of the first field that the domain remembers
pub record RecallMay (x : DomainView) (at : ℕ) : Type 0 where
  pub stage : x.seen.stage ≡ In Promote
  pub rest : List ℕ
  pub first : x.seen.remembered ≡ at ∷ rest

-- it tells the value of the node whose field it is, and meets the block whose address it is
pub record Recalled (k : Config) (at : ℕ) (x : DomainView) (found : ℕ) (y : DomainView) : Type 0 where
  pub block : ℕ
  pub place : Place
  pub index : ℕ
  pub is : at ≡ block + 2 + index
  pub inside : index + 2 < extent place.shape
  pub old : IsOldAt k block
  pub here : Lasts (Knows y) block place
  pub value : Value
  pub held : model.Value
  pub packable : IsPackable value
  pub word : found ≡ value_word value
  pub has : HasValueAt (state_of k x.seen.front) place.label index held
  pub stands : Stands (Knows y) value held
  pub more : More (Knows x) (Knows y)
  pub fit : AllFit k y
  pub view : y ≡ with_met x y.seen.copying.met

-- the domain with other remembered fields
abbrev pub recalling : DomainView → List ℕ → DomainView
recalling x remembered = record x { seen = record x.seen { remembered = remembered } }

-- the first field that the domain remembers gets a word that stands for the value of the node and is no address of a minor area
pub record RewriteMay (k : Config) (x : DomainView) (at new : ℕ) : Type 0 where
  pub stage : x.seen.stage ≡ In Promote
  pub rest : List ℕ
  pub first : x.seen.remembered ≡ at ∷ rest
  pub block : ℕ
  pub place : Place
  pub index : ℕ
  pub is : at ≡ block + 2 + index
  pub inside : index + 2 < extent place.shape
  pub here : Lasts (Knows x) block place
  pub value : Value
  pub packs : new ≡ value_word value
  pub held : model.Value
  pub has : HasValueAt (state_of k x.seen.front) place.label index held
  pub stands : Stands (Knows x) value held
  pub old : IsOldWord k new

-- it is forgotten
pub record RewriteTold (at : ℕ) (x : DomainView) (new : ℕ) (y : DomainView) : Type 0 where
  pub rest : List ℕ
  pub first : x.seen.remembered ≡ at ∷ rest
  pub view : y ≡ recalling x rest

-- in Reset the own minor area is free again, and the list of remembered fields is empty
pub record ResetMay (k : Config) (x : DomainView) (at : ℕ) : Type 0 where
  pub stage : x.seen.stage ≡ In Reset
  pub blank : x.seen.made ≡ []
  pub forgotten : x.seen.remembered ≡ []
  pub word : at ≡ base_of k x.own.number
  pub some : 0 < k.minor_words

abbrev pub reset_view : DomainView → DomainView
reset_view x = record x { own = record x.own { used = 0; remembered = record { items = []; room = x.own.remembered.room + length x.own.remembered.items } } }

-- at this step the young blocks are gone: no register and no list of finalisers of the domain has an address of a minor area
pub record ResetTold (k : Config) (x : DomainView) (new : ℕ) (y : DomainView) : Type 0 where
  pub view : y ≡ reset_view x
  pub holds_old : HoldsOld k x
