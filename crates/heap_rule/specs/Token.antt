-- What contracts see of a heap and of a domain's token.
use Rattle.std.specs.Prelude.{◌≡◌, ℕ, ◌+◌, ◌<◌, ◌≤◌, List, [], ◌∷◌, length, slice_get, Some}
use Rattle.atomic_table.specs.Table.{Me}
use Rattle.atomic_table.specs.Seated.{TableId}
use Rattle.model_core.specs.declared.label.Label.{Label}
use Rattle.heap_words.specs.declared.value.Value.{Value}
use Rattle.heap_words.specs.declared.value.Value.TheVariants.{Ref}
use Rattle.heap_words.specs.Values.{IsPackable}
use Rattle.heap_rule.specs.declared.config.Config.{Config}
use Rattle.heap_rule.specs.declared.view.DomainView.{DomainView}
use Rattle.heap_rule.specs.declared.view.Own.{Own}
use Rattle.heap_rule.specs.declared.view.Search.{Search}
use Rattle.heap_rule.specs.declared.view.Swept.{Swept}
use Rattle.heap_rule.specs.declared.view.View.{View}
use Rattle.heap_rule.specs.Pools.{blocks_of, search_at}
use Rattle.model_core.specs.Domains.{class_count, IsWithinLimits}
use Rattle.heap_rule.specs.Limits.{sizes_in}
use Rattle.heap_rule.specs.Layout.{heap_words, base_of}
use Rattle.heap_rule.specs.Changes.{value_at}
use Rattle.heap_rule.specs.Finalisers.{FinalisersFit}
use Rattle.heap_rule.specs.Views.{one, pending_room}

-- a heap: which table it is, and how large
pub record SharedHeap : Type 0 where
  pub table : TableId
  pub config : Config

-- a domain's token: the heap that it belongs to, and what it knows
pub record Token : Type 0 where
  pub table : TableId
  pub config : Config
  pub view : DomainView

-- the token is one of the heap's
abbrev pub IsIn : Token → SharedHeap → Type 0
IsIn t h = (t.table ≡ h.table) × (t.config ≡ h.config)

-- the views of these tokens
abbrev pub views_of : List Token → List DomainView
views_of [] = []
views_of (t ∷ ts) = t.view ∷ views_of ts

-- an address at which a block may begin: its head, its label and one value lie in the heap
abbrev pub IsAddress : Config → ℕ → Type 0
IsAddress k a = (1 ≤ a) × (a + 2 ≤ heap_words k)

-- what is known of a domain's registers without a look at the table: there are 16, and each holds a value that has a word, an address among them lying in the heap
pub record Holds (k : Config) (registers : List Value) : Type 0 where
  pub wide : length registers ≡ 16
  pub packable : (r : ℕ) → r < 16 → IsPackable (value_at registers r)
  pub inside : (r a : ℕ) → r < 16 → value_at registers r ≡ Ref a → IsAddress k a

-- how far the places of each size class were looked at lies within the pools
pub record LooksWithin (k : Config) (looked : List Search) : Type 0 where
  pub wide : length looked ≡ class_count
  pub within : (class : ℕ) → class < class_count → ((search_at looked class).pool ≤ k.pools) × ((search_at looked class).slot < blocks_of class)

-- how far the own pools were swept lies within the pools, and so do the pools below which these lie
pub record SweptWithin (k : Config) (swept : Swept) : Type 0 where
  pub pool : swept.spot.pool ≤ k.pools
  pub slot : swept.spot.slot < 1024
  pub top : swept.top ≤ k.pools

-- addresses of the heap
abbrev pub AllInHeap : Config → List ℕ → Type 0
AllInHeap k addresses = (i a : ℕ) → slice_get addresses i ≡ Some a → (1 ≤ a) × (a ≤ heap_words k)

-- what is known of a token's own data without a look at the table
pub record OwnFits (k : Config) (own : Own) : Type 0 where
  pub number : own.number < k.domains
  pub used : own.used ≤ k.minor_words
  pub registers : Holds k own.registers
  pub looked : LooksWithin k own.looked
  pub remembered : AllInHeap k own.remembered.items
  pub remembered_room : own.remembered.room + length own.remembered.items ≡ k.minor_words
  pub prepared : length own.prepared ≡ class_count
  pub pending : own.pending.room + length own.pending.items ≡ pending_room k
  pub ephemerons : AllInHeap k own.ephemerons.items
  pub finalisers : FinalisersFit k own.finalisers
  pub swept : SweptWithin k own.swept

-- the seat, at a heap of these numbers, stands for this domain alone
pub record IsSeatOf (k : Config) (x : DomainView) (me : Me (Unit {0}) View) : Type 0 where
  pub seat : me ≡ (one k me.0.history x, [])
  pub limits : IsWithinLimits (sizes_in k)
  pub fits : OwnFits k x.own

-- where the domain's next block begins
abbrev pub next_address : Config → DomainView → ℕ
next_address k x = base_of k x.own.number + x.own.used

-- the label of the domain's next block
abbrev pub next_label : DomainView → Label
next_label x = record { domain = x.own.number; serial = x.own.serial + 1 }
