-- What a domain knows and owes while it copies young blocks, and what claims make of it ("Retrofitting Parallelism onto OCaml", section 3.2).
use Rattle.std.specs.Prelude.{◌≡◌, ℕ, ◌*◌, ◌<◌, ◌⊎◌, false, List, [], ◌∷◌, ◌++◌, drop, slice_get, Some}
use Rattle.model_core.specs.Domains.{class_count}
use Rattle.model_core.specs.declared.graph.Value as model
use Rattle.heap_words.specs.declared.value.Value.{Value}
use Rattle.heap_words.specs.Labels.{label_word}
use Rattle.heap_words.specs.Values.{IsPackable}
use Rattle.heap_rule.specs.declared.config.Config.{Config}
use Rattle.heap_rule.specs.declared.view.Copied.{Copied}
use Rattle.heap_rule.specs.declared.view.DomainView.{DomainView}
use Rattle.heap_rule.specs.declared.view.Hunt.TheVariants.{Rests, Heads}
use Rattle.heap_rule.specs.declared.view.Owing.{Owing}
use Rattle.heap_rule.specs.declared.phase.Kind.TheVariants.{Promote}
use Rattle.heap_rule.specs.declared.phase.Stage.TheVariants.{In}
use Rattle.heap_rule.specs.Copies.{HasCopy, IsOldValue}
use Rattle.heap_rule.specs.Places.{Place, Live, IsNewHead, IsOldAt, Stands, More}
use Rattle.heap_rule.specs.Pools.{blocks_of, place_in, prepared_at}
use Rattle.step_promote.specs.Claims.{with_hunt}
use Rattle.step_promote.specs.Promotion.{AllFit, Knows}

-- an address is that of a place of a pool, for blocks of a class
pub record IsPlaceIn (k : Config) (class a : ℕ) : Type 0 where
  pub pool : ℕ
  pub slot : ℕ
  pub inside : pool < k.pools
  pub below : slot < blocks_of class
  pub address : a ≡ place_in pool class slot

-- each prepared place is one of its class
abbrev pub AllPlaced : Config → DomainView → Type 0
AllPlaced k x = (class a : ℕ) → class < class_count → prepared_at x.own.prepared class ≡ Some a → IsPlaceIn k class a

-- one block lives at two addresses
pub record SameBlock (live : Live) (a c : ℕ) : Type 0 where
  pub from : Place
  pub here : live a ≡ Some from
  pub to : Place
  pub there : live c ≡ Some to
  pub label : to.label ≡ from.label
  pub shape : to.shape ≡ from.shape

-- a copy in a pool and its young block were met
pub record IsPair (k : Config) (x : DomainView) (c : Copied) : Type 0 where
  pub young : k.pools * 4096 < c.source
  pub old : IsOldAt k c.copy
  pub same : SameBlock (Knows x) c.source c.copy

-- and so of each copy that the domain has made
abbrev pub AllPairs : Config → DomainView → Type 0
AllPairs k x = (i : ℕ) (c : Copied) → slice_get x.own.pending.items i ≡ Some c → IsPair k x c

-- the domain copies young blocks, and takes none of the pools
pub record Works (k : Config) (x : DomainView) : Type 0 where
  pub stage : x.seen.stage ≡ In Promote
  pub at_rest : x.seen.hunt ≡ Rests
  pub fit : AllFit k x
  pub placed : AllPlaced k x
  pub pairs : AllPairs k x

-- copies none of whose values is stored yet
abbrev pub owed_from : List Copied → List Owing
owed_from [] = []
owed_from (c ∷ cs) = record { copy = c.copy; source = c.source; filled = 0 } ∷ owed_from cs

-- the domain is to fill its copies from the i-th on
abbrev pub Tied : ℕ → DomainView → Type 0
Tied i x = x.seen.copying.pending ≡ owed_from (drop i x.own.pending.items)

-- the domain with what claims and the filling of copies change as another has it, and with what that one knows of the colours and of the armed word
abbrev pub with_claims : DomainView → DomainView → DomainView
with_claims x y = record {
  own = record x.own { looked = y.own.looked; prepared = y.own.prepared; pending = y.own.pending; swept = record x.own.swept { top = y.own.swept.top } };
  seen = record x.seen { hunt = y.seen.hunt; copying = y.seen.copying; share = record x.seen.share { colours = y.seen.share.colours; armed = y.seen.share.armed } };
}

-- what one view knows another knows too: the blocks that were met, and which block has which copy
pub record Learns (x y : DomainView) : Type 0 where
  pub more : More (Knows x) (Knows y)
  pub copies : (a c : ℕ) → HasCopy x a c → HasCopy y a c

-- claims: the copies that were made stand at the end of both lists, and what was known stays known
pub record Grown (k : Config) (x y : DomainView) : Type 0 where
  pub view : y ≡ with_claims x y
  pub works : Works k y
  pub learns : Learns x y
  pub made : List Copied
  pub items : y.own.pending.items ≡ x.own.pending.items ++ made
  pub owed : y.seen.copying.pending ≡ x.seen.copying.pending ++ owed_from made

-- a block was met, and its head is this word, that of a new block of a minor area by the colours and the armed word that the domain knows
pub record IsMetWith (x : DomainView) (a word : ℕ) : Type 0 where
  pub place : Place
  pub met : Knows x a ≡ Some place
  pub head : IsNewHead x.seen.share.colours x.seen.share.armed false place.shape word

-- a claim of the block at an address makes no copy, or the one that it answers, which is then the last that the domain is to fill
abbrev pub MakesAtMost : ℕ → ℕ → DomainView → DomainView → Type 0
MakesAtMost a c x y = (y.own.pending.items ≡ x.own.pending.items) ⊎ (y.own.pending.items ≡ x.own.pending.items ++ record { copy = c; source = a } ∷ [])

-- the block at an address has a copy in a pool, which was met. The block's head forwards to this copy, and to no other while the domain copies: whoever knows of a copy of the block knows of this one
pub record Claimed (k : Config) (a : ℕ) (x y : DomainView) (c : ℕ) : Type 0 where
  pub grown : Grown k x y
  pub old : IsOldAt k c
  pub copied : HasCopy y a c
  pub same : SameBlock (Knows y) a c
  pub made : MakesAtMost a c x y

-- a place is prepared for a class, and nothing else has changed
pub record Prepared (k : Config) (class : ℕ) (x y : DomainView) (a : ℕ) : Type 0 where
  pub view : y ≡ with_claims x y
  pub works : Works k y
  pub copying : y.seen.copying ≡ x.seen.copying
  pub pending : y.own.pending ≡ x.own.pending
  pub colours : y.seen.share.colours ≡ x.seen.share.colours
  pub armed : y.seen.share.armed ≡ x.seen.share.armed
  pub here : prepared_at y.own.prepared class ≡ Some a

-- a value stands for another than before, which is no address of a minor area
pub record Forwarded (k : Config) (value : Value) (x y : DomainView) (new : Value) : Type 0 where
  pub grown : Grown k x y
  pub stands : (held : model.Value) → Stands (Knows x) value held → Stands (Knows y) new held
  pub packable : IsPackable new
  pub old : IsOldValue k new

-- the value stands for one of the graph
abbrev pub StandsFor : DomainView → Value → Type 0
StandsFor x value = (held : model.Value) × Stands (Knows x) value held

-- the place at an address has the label of a block that was met, and its head
pub record Written (young word copy : ℕ) (x y : DomainView) : Type 0 where
  pub place : Place
  pub met : Knows x young ≡ Some place
  pub view : y ≡ with_hunt x (Heads copy (label_word place.label.domain place.label.serial) word)
