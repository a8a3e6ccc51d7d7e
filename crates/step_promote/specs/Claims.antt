-- What the steps ask and tell by which domains race for a young block: a place is prepared for its copy, and one exchange of the block's head claims it ("Retrofitting Parallelism onto OCaml", section 3.2).
use Rattle.std.specs.Prelude.{◌≡◌, ◌≢◌, ℕ, ◌+◌, ◌-◌, ◌*◌, ◌<◌, ◌≤◌, false, List, [], ◌∷◌, ◌++◌, slice_set, Option, Some, None}
use Rattle.heap_words.specs.declared.classes.TheConstants.{SIZES}
use Rattle.heap_words.specs.Classes.Table.{IsLeastFor}
use Rattle.model_core.specs.Domains.{class_count}
use Rattle.heap_words.specs.declared.head.Head.TheVariants.{Forward}
use Rattle.heap_words.specs.Heads.{head_word}
use Rattle.heap_words.specs.Labels.{label_word}
use Rattle.heap_rule.specs.declared.config.Config.{Config}
use Rattle.heap_rule.specs.declared.view.Hunt.{Hunt}
use Rattle.heap_rule.specs.declared.view.Hunt.TheVariants.{Rests, Fills, Labels, Heads}
use Rattle.heap_rule.specs.declared.view.Own.{Own}
use Rattle.heap_rule.specs.declared.view.Search.{Search}
use Rattle.heap_rule.specs.declared.view.DomainView.{DomainView}
use Rattle.heap_rule.specs.declared.phase.Kind.TheVariants.{Promote}
use Rattle.heap_rule.specs.declared.phase.Stage.TheVariants.{In}
use Rattle.heap_rule.specs.Places.{Place, extent, IsNewHead, IsOldAt, More}
use Rattle.heap_rule.specs.Pools.{place_in, blocks_of, place_of, search_at, freed_at, prepared_at}
use Rattle.heap_rule.specs.Standing.{IsInHeap}
use Rattle.step_promote.specs.Promotion.{Knows, AllFit, met_of}

-- the own data with another place prepared for a class
abbrev pub preparing : Own → ℕ → Option ℕ → Own
preparing own class place = record own { prepared = slice_set own.prepared class place }

-- the domain further on in preparing a place
abbrev pub with_hunt : DomainView → Hunt → DomainView
with_hunt x hunt = record x { seen = record x.seen { hunt = hunt } }

-- a free place that the domain took is prepared for a copy of its class: the first store to its head, of any word but Free's
pub record PrepareMay (x : DomainView) (at new pool class slot : ℕ) : Type 0 where
  pub stage : x.seen.stage ≡ In Promote
  pub made : List ℕ
  pub hunt : x.seen.hunt ≡ Fills pool class slot made
  pub next : place_of (search_at x.own.looked class) ≡ record { pool = pool; slot = slot }
  pub none : prepared_at x.own.prepared class ≡ None
  pub of_class : class < class_count
  pub word : at ≡ place_in pool class slot
  pub head : new ≢ 0

abbrev pub PrepareTold : ℕ → ℕ → DomainView → ℕ → DomainView → Type 0
PrepareTold at class x new y = y ≡ record { own = preparing x.own class (Some at); seen = record x.seen { hunt = Rests } }

-- a prepared place gets the label of the block to be copied
pub record LabelStoreMay (x : DomainView) (at class : ℕ) : Type 0 where
  pub stage : x.seen.stage ≡ In Promote
  pub at_rest : x.seen.hunt ≡ Rests
  pub address : ℕ
  pub of_class : class < class_count
  pub prepared : prepared_at x.own.prepared class ≡ Some address
  pub word : at ≡ address + 1

pub record LabelStoreTold (class : ℕ) (x : DomainView) (new : ℕ) (y : DomainView) : Type 0 where
  pub address : ℕ
  pub prepared : prepared_at x.own.prepared class ≡ Some address
  pub view : y ≡ with_hunt x (Labels address new)

-- and then its head
pub record HeadStoreMay (x : DomainView) (at new : ℕ) : Type 0 where
  pub stage : x.seen.stage ≡ In Promote
  pub label : ℕ
  pub hunt : x.seen.hunt ≡ Labels at label
  pub head : new ≢ 0

pub record HeadStoreTold (at : ℕ) (x : DomainView) (new : ℕ) (y : DomainView) : Type 0 where
  pub label : ℕ
  pub hunt : x.seen.hunt ≡ Labels at label
  pub view : y ≡ with_hunt x (Heads at label new)

-- a block of a minor area was met, and the place prepared for its size class has its label and its head: that of a block of its shape
pub record ClaimMay (k : Config) (x : DomainView) (at old new class copy : ℕ) : Type 0 where
  pub stage : x.seen.stage ≡ In Promote
  pub place : Place
  pub met : Knows x at ≡ Some place
  pub young : k.pools * 4096 < at
  pub label : ℕ
  pub hunt : x.seen.hunt ≡ Heads copy label old
  pub head : IsNewHead x.seen.share.colours x.seen.share.armed false place.shape old
  pub label_is : label ≡ label_word place.label.domain place.label.serial
  pub of_class : class < class_count
  pub least : IsLeastFor SIZES (extent place.shape) class
  pub prepared : prepared_at x.own.prepared class ≡ Some copy
  pub word : new ≡ head_word (Forward copy)

-- the copy of the block at `source` is one more in the list
abbrev pub pushed : Own → ℕ → ℕ → Own
pushed own copy source = record own { pending = record { items = own.pending.items ++ record { copy = copy; source = source } ∷ []; room = own.pending.room - 1 } }

-- the block's head was as the domain had met it: the prepared place is the block's copy, which the domain is to fill
pub record ClaimWon (at class copy : ℕ) (place : Place) (x y : DomainView) : Type 0 where
  pub room : 1 ≤ x.own.pending.room
  pub view : y ≡ record {
    own = preparing (pushed x.own copy at) class None;
    seen = record x.seen { hunt = Rests; copying = record { met = met_of copy place ∷ x.seen.copying.met; pending = x.seen.copying.pending ++ record { copy = copy; source = at; filled = 0 } ∷ []; copied = record { copy = copy; source = at } ∷ x.seen.copying.copied } };
  }

-- another domain claimed it: its copy is met, and the prepared place is kept
pub record ClaimLost (k : Config) (at : ℕ) (place : Place) (x : DomainView) (found : ℕ) (y : DomainView) : Type 0 where
  pub copy : ℕ
  pub word : found ≡ head_word (Forward copy)
  pub old : IsOldAt k copy
  pub inside : IsInHeap k copy
  pub view : y ≡ record x { seen = record x.seen { hunt = Rests; copying = record x.seen.copying { met = met_of copy place ∷ x.seen.copying.met; copied = record { copy = copy; source = at } ∷ x.seen.copying.copied } } }

pub record ClaimTold (k : Config) (at old class copy : ℕ) (x : DomainView) (found : ℕ) (y : DomainView) : Type 0 where
  pub place : Place
  pub met : Knows x at ≡ Some place
  pub won : found ≡ old → ClaimWon at class copy place x y
  pub lost : found ≢ old → ClaimLost k at place x found y
  pub more : More (Knows x) (Knows y)
  pub fit : AllFit k y

-- a prepared place is given back: its head is Free again
pub record FreeMay (x : DomainView) (at pool class slot : ℕ) : Type 0 where
  pub stage : x.seen.stage ≡ In Promote
  pub at_rest : x.seen.hunt ≡ Rests
  pub of_class : class < class_count
  pub prepared : prepared_at x.own.prepared class ≡ Some at
  pub word : at ≡ place_in pool class slot
  pub inside : slot < blocks_of class

-- it isn't prepared any more, and so far the domain has looked for free places
abbrev pub freed : DomainView → ℕ → List Search → DomainView
freed x class looked = record x { own = record (preparing x.own class None) { looked = looked } }

abbrev pub FreedTold : ℕ → ℕ → ℕ → DomainView → ℕ → DomainView → Type 0
FreedTold pool class slot x new y = y ≡ freed x class (slice_set x.own.looked class (freed_at pool slot (search_at x.own.looked class)))
