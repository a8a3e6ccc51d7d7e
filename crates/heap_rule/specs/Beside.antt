-- A cycle that goes on beside running domains, in the rule: what its marks cover, and what a domain that runs knows of blocks of the pools.
use Rattle.std.specs.Prelude.{◌≡◌, ℕ, ◌*◌, ◌<◌, ◌⊎◌, ◌==◌, Bool, false, IsTrue, List, [], ◌∷◌, filter_map, Option, Some, None}
use Rattle.model_core.specs.declared.label.Label.{Label}
use Rattle.model_core.specs.declared.graph.Value.TheVariants.{Block}
use Rattle.model_core.specs.declared.state.State as model
use Rattle.model_core.specs.Domains.{domain_at, pending_label, register}
use Rattle.model_core.specs.Graph.{Graph, has_label}
use Rattle.model_cycle.specs.Beside.{Snapshot, IsBeside}
use Rattle.model_cycle.specs.Cover.{field_at, is_new}
use Rattle.model_cycle.specs.Marks.{Marks}
use Rattle.model_cycle.specs.Shares.{Shares}
use Rattle.heap_rule.specs.declared.config.Config.{Config}
use Rattle.heap_rule.specs.declared.phase.Kind.{Kind}
use Rattle.heap_rule.specs.declared.phase.Kind.TheVariants.{Run, Reset}
use Rattle.heap_rule.specs.declared.phase.Stage.{Stage}
use Rattle.heap_rule.specs.declared.phase.Stage.TheVariants.{In}
use Rattle.heap_rule.specs.declared.view.Known.{Known}
use Rattle.heap_rule.specs.declared.view.Known.TheVariants.{Pool, Marked, Found, Shape, Refers, Done, Darkened, Scanned, Vain}
use Rattle.heap_rule.specs.declared.view.Share.{Share}
use Rattle.heap_rule.specs.Layout.{at_address}
use Rattle.heap_rule.specs.Places.{Place, Live, IsHeadOf, IsOldAt}
use Rattle.heap_rule.specs.Pools.{Holder, owned}

-- the block with this label lies in a pool
pub record IsPooled (k : Config) (live : Live) (l : Label) : Type 0 where
  pub address : ℕ
  pub place : Place
  pub lives : live address ≡ Some place
  pub old : IsOldAt k address
  pub label : place.label ≡ l

-- what the registers of a domain hold, and what its queue keeps alive, lies in pools
pub record HoldsPooled (k : Config) (live : Live) (s : model.State) (d : ℕ) : Type 0 where
  pub registers : (r : ℕ) (l : Label) → register s d r ≡ Block l → IsPooled k live l
  pub queue : (l : Label) → IsTrue (has_label (filter_map pending_label (domain_at s d).queue) l) → IsPooled k live l

-- What holds of a cycle that goes on beside running domains ("Retrofitting Parallelism onto OCaml", section 4.3): its marks cover what the domains hold; each block of a minor area counts as marked; each marked block that is older than the cycle lies in a pool; nobody owes a darkening once it has stopped; and who has arrived from Reset holds blocks of pools alone
pub record Underway (k : Config) (s : model.State) (live : Live) (kind : Kind) (past : Snapshot) (marks : Marks) (w : Shares) : Type 0 where
  pub covered : IsBeside past marks s
  pub young : (a : ℕ) (p : Place) → live a ≡ Some p → k.pools * 4096 < a → IsTrue (marks.marked p.label)
  pub pooled : (l : Label) → is_new past.old l ≡ false → IsTrue (marks.marked l) → IsPooled k live l
  pub settled : (d r : ℕ) → (kind ≡ Run → (d < k.domains) × IsTrue (w.arrived d)) → past.owed d r ≡ false
  pub rooted : kind ≡ Reset → (d : ℕ) → d < k.domains → IsTrue (w.arrived d) → HoldsPooled k live s d

-- a block lives at the address, and it is marked
pub record IsMarkedBlock (live : Live) (marked : Label → Bool) (a : ℕ) : Type 0 where
  pub place : Place
  pub lives : live a ≡ Some place
  pub is_marked : IsTrue (marked place.label)

-- this head is there, or the block was marked since it was found
pub record IsFoundHead (k : Config) (live : Live) (marked : Label → Bool) (words : List ℕ) (a word : ℕ) : Type 0 where
  pub place : Place
  pub lives : live a ≡ Some place
  pub head : (at_address k words a ≡ word) ⊎ IsTrue (marked place.label)

-- the block is marked, and this is a head of its shape
pub record IsShaped (live : Live) (marked : Label → Bool) (a word : ℕ) : Type 0 where
  pub place : Place
  pub lives : live a ≡ Some place
  pub is_marked : IsTrue (marked place.label)
  pub head : IsHeadOf place.shape word

-- what the field referred to when the roots had been darkened is marked, or is the block at an address
pub record IsReferred (live : Live) (old : Graph) (marked : Label → Bool) (b i a : ℕ) : Type 0 where
  pub place : Place
  pub lives : live b ≡ Some place
  pub target : Place
  pub there : live a ≡ Some target
  pub held : (x : Label) → field_at old place.label i ≡ Some (Block x) → IsTrue (marked x) ⊎ (x ≡ target.label)

-- what the field referred to when the roots had been darkened is marked
pub record IsDone (live : Live) (old : Graph) (marked : Label → Bool) (b i : ℕ) : Type 0 where
  pub place : Place
  pub lives : live b ≡ Some place
  pub reached : (x : Label) → field_at old place.label i ≡ Some (Block x) → IsTrue (marked x)

-- what a domain knows is so
abbrev pub HoldsKnown : Config → Live → (ℕ → Holder) → Graph → (Label → Bool) → List ℕ → Known → Type 0
HoldsKnown k live holder old marked words (Pool pool class) = (d : ℕ) × (holder pool ≡ owned d class)
HoldsKnown k live holder old marked words (Marked address) = IsMarkedBlock live marked address
HoldsKnown k live holder old marked words (Found address word) = IsFoundHead k live marked words address word
HoldsKnown k live holder old marked words (Shape address head) = IsShaped live marked address head
HoldsKnown k live holder old marked words (Refers block field address) = IsReferred live old marked block field address
HoldsKnown k live holder old marked words (Done block field) = IsDone live old marked block field
HoldsKnown k live holder old marked words (Darkened address) = IsMarkedBlock live marked address
HoldsKnown k live holder old marked words (Scanned address) = IsMarkedBlock live marked address
HoldsKnown k live holder old marked words (Vain address) = Unit {0}

abbrev pub AllKnown : Config → Live → (ℕ → Holder) → Graph → (Label → Bool) → List ℕ → List Known → Type 0
AllKnown k live holder old marked words [] = Unit {0}
AllKnown k live holder old marked words (f ∷ fs) = HoldsKnown k live holder old marked words f × AllKnown k live holder old marked words fs

-- this is among what a domain knows
abbrev pub IsKnown : List Known → Known → Type 0
IsKnown [] f = ⊥
IsKnown (g ∷ gs) f = (g ≡ f) ⊎ IsKnown gs f

-- the register is the one whose block is still to be darkened
abbrev pub is_weak : Option ℕ → ℕ → Bool
is_weak None r = false
is_weak (Some q) r = q == r

-- a domain knows nothing of blocks, and owes no darkening
abbrev pub IsUnaware : Share → Type 0
IsUnaware share = (share.known ≡ []) × (share.weak ≡ None)

-- Only a domain that runs beside a cycle knows of blocks, and what it knows is so. It owes the darkening of what a weak read brought
pub record RunsBeside (k : Config) (live : Live) (holder : ℕ → Holder) (armed : Bool) (past : Snapshot) (marked : Label → Bool) (words : List ℕ) (d : ℕ) (stage : Stage) (share : Share) : Type 0 where
  pub knows : IsUnaware share ⊎ ((stage ≡ In Run) × IsTrue armed × AllKnown k live holder past.old marked words share.known)
  pub owes : IsTrue armed → (r : ℕ) → past.owed d r ≡ is_weak share.weak r

-- a domain knows that what the field of a block referred to when the roots had been darkened is marked
abbrev pub IsPaid : List Known → ℕ → ℕ → Type 0
IsPaid known b i = IsKnown known (Done b i) ⊎ ((a : ℕ) × IsKnown known (Refers b i a) × IsKnown known (Marked a))

-- what a store to a field asks before it overwrites what is there: no cycle goes on beside running domains, or the deletion barrier is done ("Retrofitting Parallelism onto OCaml", section 4.3)
abbrev pub Barrier : Share → ℕ → ℕ → Type 0
Barrier share b i = (share.armed ≡ Some false) ⊎ IsPaid share.known b i
