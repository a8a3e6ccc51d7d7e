-- What a domain knows and owes in a collection of young blocks.
use Rattle.std.specs.Prelude.{◌≡◌, ◌≢◌, ℕ, ◌+◌, ◌*◌, ◌<◌, ◌⊎◌, cond, eqb, List, [], ◌∷◌, slice_get, Some, None}
use Rattle.model_core.specs.Fronts.{Shape, PlainShape, RawShape, EpheShape}
use Rattle.heap_rule.specs.declared.view.Form.{Form}
use Rattle.heap_rule.specs.declared.view.Form.TheVariants.{Plain, Raw, Ephe}
use Rattle.heap_rule.specs.declared.view.Met.{Met}
use Rattle.heap_rule.specs.declared.view.Owing.{Owing}
use Rattle.heap_rule.specs.declared.view.Copied.{Copied}
use Rattle.heap_rule.specs.declared.view.Copying.{Copying}
use Rattle.heap_rule.specs.declared.view.DomainView.{DomainView}
use Rattle.heap_rule.specs.declared.phase.Kind.{Kind}
use Rattle.heap_rule.specs.declared.phase.Kind.TheVariants.{Run, Promote}
use Rattle.heap_rule.specs.declared.phase.Stage.TheVariants.{In}
use Rattle.heap_rule.specs.declared.config.Config.{Config}
use Rattle.heap_words.specs.declared.value.Value as words
use Rattle.heap_words.specs.declared.value.Value.TheVariants.{Ref}
use Rattle.heap_rule.specs.Changes.{value_at}
use Rattle.heap_rule.specs.Finalisers.{RefersOld}
use Rattle.heap_rule.specs.Phases.{Pause}
use Rattle.heap_rule.specs.Places.{Debt, Place, Live, More, extent, IsOldAt}

-- no block was met, and no copy is to be filled
abbrev pub nothing_copied : Copying
nothing_copied = record { met = []; pending = []; copied = [] }

abbrev pub shape_of_form : Form → Shape
shape_of_form (Plain size tag) = PlainShape size tag
shape_of_form (Raw size tag) = RawShape size tag
shape_of_form (Ephe keys) = EpheShape keys

-- the block that was met
abbrev pub met_place : Met → Place
met_place m = record { label = m.label; shape = shape_of_form m.form; forward = None; owed = None; named = λ _. None }

-- the blocks that a domain has met
abbrev pub known : List Met → Live
known [] a = None
known (m ∷ ms) a = cond (eqb a m.address) (Some (met_place m)) (known ms a)

-- a copy is one that the domain is to fill, from this young block, and has so many values
abbrev pub debt_of : DomainView → Owing → Debt
debt_of x o = record { source = o.source; domain = x.own.number; filled = o.filled }

pub record IsOwed (live : Live) (x : DomainView) (o : Owing) : Type 0 where
  pub place : Place
  pub lives : live o.copy ≡ Some place
  pub debt : place.owed ≡ Some (debt_of x o)

-- this copy of the block at an address is one of the list
abbrev pub ListsCopy : List Copied → ℕ → ℕ → Type 0
ListsCopy [] a c = ⊥
ListsCopy (d ∷ ds) a c = ((d.source ≡ a) × (d.copy ≡ c)) ⊎ ListsCopy ds a c

-- the domain knows that the block at an address has this copy
abbrev pub HasCopy : DomainView → ℕ → ℕ → Type 0
HasCopy x a c = ListsCopy x.seen.copying.copied a c

-- the head of the block at an address forwards to this copy
pub record IsCopied (live : Live) (a c : ℕ) : Type 0 where
  pub place : Place
  pub lives : live a ≡ Some place
  pub forwards : place.forward ≡ Some c

-- an address is that of a value of a filled block in a pool
pub record IsField (k : Config) (live : Live) (at : ℕ) : Type 0 where
  pub block : ℕ
  pub place : Place
  pub index : ℕ
  pub lives : live block ≡ Some place
  pub is : at ≡ block + 2 + index
  pub inside : index + 2 < extent place.shape
  pub old : IsOldAt k block
  pub filled : place.owed ≡ None

-- all that the rule says of one domain's copies: it met and owes nothing but in Promote, the blocks that it met live, those of which it knows a copy forward to it, the copies that it owes values are those in its list, each once, and its list of remembered fields has those that it is said to remember
pub record Owes (k : Config) (live : Live) (x : DomainView) : Type 0 where
  pub quiet : (x.seen.copying ≡ nothing_copied) ⊎ (x.seen.stage ≡ In Promote)
  pub knows : More (known x.seen.copying.met) live
  pub copied : (a c : ℕ) → HasCopy x a c → IsCopied live a c
  pub owed : (i : ℕ) (o : Owing) → slice_get x.seen.copying.pending i ≡ Some o → IsOwed live x o
  pub once : (i j : ℕ) (o q : Owing) → slice_get x.seen.copying.pending i ≡ Some o → slice_get x.seen.copying.pending j ≡ Some q → o.copy ≡ q.copy → i ≡ j
  pub listed : (c : ℕ) (p : Place) (d : Debt) → live c ≡ Some p → p.owed ≡ Some d → d.domain ≡ x.own.number → (i : ℕ) × (slice_get x.seen.copying.pending i ≡ Some (record { copy = c; source = d.source; filled = d.filled }))
  pub recalled : (b : ℕ) (p : Place) (i : ℕ) → live b ≡ Some p → p.named i ≡ Some x.own.number → (j : ℕ) × (slice_get x.seen.remembered j ≡ Some (b + 2 + i))
  pub fields : (j at : ℕ) → slice_get x.seen.remembered j ≡ Some at → IsField k live at

-- the fields that a domain is said to remember are those that it was said to remember before
pub record Remembers (live : Live) (d b i : ℕ) : Type 0 where
  pub place : Place
  pub lives : live b ≡ Some place
  pub named : place.named i ≡ Some d

abbrev pub Recalls : ℕ → Live → Live → Type 0
Recalls d live live' = (b : ℕ) (q : Place) (i : ℕ) → live' b ≡ Some q → q.named i ≡ Some d → Remembers live d b i

-- a block that forwards is in a minor area, and its copy, the same block, in a pool
pub record Leads (k : Config) (live : Live) (a : ℕ) (p : Place) (c : ℕ) : Type 0 where
  pub young : k.pools * 4096 < a
  pub old : IsOldAt k c
  pub filled : p.owed ≡ None
  pub place : Place
  pub lives : live c ≡ Some place
  pub label : place.label ≡ p.label
  pub shape : place.shape ≡ p.shape
  pub plain : place.forward ≡ None

-- a copy that is owed values lies in a pool, and its source forwards to it
pub record Pends (k : Config) (live : Live) (c : ℕ) (q : Place) (o : Debt) : Type 0 where
  pub inside : o.domain < k.domains
  pub old : IsOldAt k c
  pub plain : q.forward ≡ None
  pub place : Place
  pub lives : live o.source ≡ Some place
  pub forwards : place.forward ≡ Some c

-- all that the rule says of copies, whoever looks
pub record Copies (k : Config) (live : Live) : Type 0 where
  pub leads : (a : ℕ) (p : Place) (c : ℕ) → live a ≡ Some p → p.forward ≡ Some c → Leads k live a p c
  pub pends : (c : ℕ) (q : Place) (o : Debt) → live c ≡ Some q → q.owed ≡ Some o → Pends k live c q o
  pub naming : (b : ℕ) (q : Place) (i d : ℕ) → live b ≡ Some q → q.named i ≡ Some d → (d < k.domains) × (i + 2 < extent q.shape)

-- the phase is one in which copies are made
abbrev pub Promoting : Pause → Type 0
Promoting t = (j : ℕ) × (t.phase ≡ j * 2) × (t.kinds j ≡ Promote)

-- from the end of Promote until the domains run again nothing lives in minor areas
abbrev pub IsEmptying : Kind → Type 0
IsEmptying kind = (kind ≢ Run) × (kind ≢ Promote)

abbrev pub Resetting : Pause → Type 0
Resetting t = ((j : ℕ) × (t.phase ≡ j * 2 + 1) × (t.kinds j ≢ Run)) ⊎ ((j : ℕ) × (t.phase ≡ j * 2) × IsEmptying (t.kinds j))

-- a domain owes no values and remembers no fields
pub record Cleared (live : Live) (d : ℕ) : Type 0 where
  pub no_debt : (b : ℕ) (q : Place) (o : Debt) → live b ≡ Some q → q.owed ≡ Some o → o.domain ≢ d
  pub no_field : (b : ℕ) (q : Place) (i : ℕ) → live b ≡ Some q → q.named i ≢ Some d

-- whoever has arrived from Promote owes nothing
abbrev pub AllCleared : Config → Live → Pause → Type 0
AllCleared k live t = Promoting t → (d : ℕ) → d < k.domains → t.arrived d ≡ t.phase + 1 → Cleared live d

abbrev pub Emptied : Config → Live → Pause → Type 0
Emptied k live t = Resetting t → (a : ℕ) (q : Place) → live a ≡ Some q → IsOldAt k a

-- no address of a minor area
abbrev pub IsOldValue : Config → words.Value → Type 0
IsOldValue k (Ref a) = IsOldAt k a
IsOldValue k _ = Unit {0}

-- and the domain has none in a register, nor in a list of finalisers
abbrev pub HoldsOld : Config → DomainView → Type 0
HoldsOld k x = ((r : ℕ) → r < 16 → IsOldValue k (value_at x.own.registers r)) × RefersOld k x.own.finalisers

-- a domain is past Promote in this pause
abbrev pub IsPast : Pause → DomainView → Type 0
IsPast t x = (Promoting t × (x.own.arrivals ≡ t.phase + 1)) ⊎ Resetting t

-- whoever has arrived from Promote holds no address of a minor area, and remembers no field until the domains run again
abbrev pub Rooted : Config → Pause → DomainView → Type 0
Rooted k t x = (Promoting t → x.own.arrivals ≡ t.phase + 1 → HoldsOld k x) × (IsPast t x → x.seen.remembered ≡ [])
