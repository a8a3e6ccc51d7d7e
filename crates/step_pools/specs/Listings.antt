-- Steps by which domain 0 looks at the list of free pools, or writes it anew, in an odd phase.
use Rattle.std.specs.Prelude.{◌≡◌, ◌≢◌, ◌⊎◌, ℕ, ◌+◌, ◌-◌, ◌<◌, ◌≤◌, ◌==◌, if◌then◌else◌, List, [], ◌∷◌, ◌++◌, length, Option, Some, None}
use Rattle.heap_rule.specs.declared.config.Config.{Config}
use Rattle.heap_rule.specs.declared.phase.Kind.{Kind}
use Rattle.heap_rule.specs.declared.phase.Kind.TheVariants.{Run}
use Rattle.heap_rule.specs.declared.phase.Note.TheVariants.{Listed, SetBack}
use Rattle.heap_rule.specs.declared.phase.Stage.TheVariants.{Leads}
use Rattle.heap_rule.specs.declared.view.DomainView.{DomainView}
use Rattle.heap_rule.specs.declared.view.Listing.{Listing}
use Rattle.heap_rule.specs.Copies.{IsEmptying}
use Rattle.heap_rule.specs.Pools.{limit_of, no_listing}
use Rattle.heap_rule.specs.Standing.{noted}

-- the pools, numbered from q on, whose owner words say nobody, rising
unfoldable pub free_from : ℕ → List ℕ → List ℕ
free_from q [] = []
free_from q (w ∷ ws) = if w == 0 then q ∷ free_from (q + 1) ws else free_from (q + 1) ws

abbrev pub free_pools : List ℕ → List ℕ
free_pools owners = free_from 0 owners

-- the domain with another list in the making
abbrev pub with_listing : DomainView → Option Listing → DomainView
with_listing x listing = record x { seen = record x.seen { listing = listing } }

-- the domain further on in writing the list
abbrev pub further : (Listing → Listing) → Option Listing → Option Listing
further f None = None
further f (Some l) = Some (f l)

abbrev pub relisted : DomainView → (Listing → Listing) → DomainView
relisted x f = with_listing x (further f x.seen.listing)

-- one owner word more is found, one place more of the list is written, the cursor stands there, so many pools are listed
abbrev pub found_owner : ℕ → Listing → Listing
found_owner word l = record l { owners = l.owners ++ word ∷ [] }

abbrev pub named : ℕ → Listing → Listing
named pool l = record l { names = l.names ++ pool ∷ [] }

abbrev pub cursor_at : ℕ → Listing → Listing
cursor_at c l = record l { cursor = Some c }

abbrev pub listed_as : ℕ → Listing → Listing
listed_as count l = record l { listed = count }

-- domain 0 acts in an odd phase in which nothing lives in minor areas, and hasn't named the next kind
pub record IsLeader (x : DomainView) : Type 0 where
  pub first : x.own.number ≡ 0
  pub last : Kind
  pub stage : x.seen.stage ≡ Leads last
  pub empty : IsEmptying last

-- no pool is listed any more
abbrev pub EmptiedTold : DomainView → ℕ → DomainView → Type 0
EmptiedTold x new y = y ≡ with_listing x (Some no_listing)

-- domain 0 acts in the odd phase behind one of this kind, and hasn't named the next kind
pub record LeadsBehind (kind : Kind) (x : DomainView) : Type 0 where
  pub first : x.own.number ≡ 0
  pub stage : x.seen.stage ≡ Leads kind

-- whatever that was
pub record IsLooker (x : DomainView) : Type 0 where
  pub kind : Kind
  pub leads : LeadsBehind kind x

-- it opens a pause
abbrev pub IsOpener : DomainView → Type 0
IsOpener = LeadsBehind Run

-- a load of the number of listed pools
pub record CountedTold (k : Config) (x : DomainView) (found : ℕ) (y : DomainView) : Type 0 where
  pub few : found ≤ k.pools
  pub view : y ≡ with_listing x (Some (listed_as found no_listing))

-- behind a phase of this kind it knows that so many pools are listed
pub record HasCounted (kind : Kind) (x : DomainView) (count : ℕ) : Type 0 where
  pub leads : LeadsBehind kind x
  pub list : Listing
  pub listing : x.seen.listing ≡ Some list
  pub count_is : list.listed ≡ count

-- and that the cursor stands above the limit
pub record IsAbove (k : Config) (x : DomainView) (count : ℕ) : Type 0 where
  pub counted : HasCounted Run x count
  pub at : ℕ
  pub cursor_is : counted.list.cursor ≡ Some at
  pub above : limit_of k count < at

-- the domain notes that it has set the cursor back
abbrev pub noted_set_back : DomainView → DomainView
noted_set_back x = noted x SetBack

-- the domain knows where the cursor stands
abbrev pub with_cursor : DomainView → ℕ → DomainView
with_cursor x c = relisted x (cursor_at c)

-- a load of the cursor: up to the limit it need not be set back
pub record CursorLookTold (k : Config) (count : ℕ) (x : DomainView) (found : ℕ) (y : DomainView) : Type 0 where
  pub low : found ≤ limit_of k count → y ≡ noted_set_back (with_cursor x found)
  pub high : limit_of k count < found → y ≡ with_cursor x found

-- a store of the limit into the cursor
abbrev pub CursorCutTold : DomainView → ℕ → DomainView → Type 0
CursorCutTold x new y = y ≡ noted_set_back (with_cursor x new)

-- the domain notes how many of so many listed pools are behind the cursor
abbrev pub noted_left : ℕ → ℕ → DomainView → DomainView
noted_left count found x = noted (with_cursor x found) (Listed (count - found))

-- whatever that was
abbrev pub IsCounted : DomainView → ℕ → Type 0
IsCounted x count = (kind : Kind) × HasCounted kind x count

-- a load of the cursor where pools are listed: up to the limit the list names all free pools still, and the domain notes how many
pub record KeepLookTold (k : Config) (count : ℕ) (x : DomainView) (found : ℕ) (y : DomainView) : Type 0 where
  pub low : found ≤ limit_of k count → y ≡ noted_left count found x
  pub high : limit_of k count < found → y ≡ with_cursor x found

-- domain 0 writes the list, and no pool is listed
pub record Empties (x : DomainView) : Type 0 where
  pub leader : IsLeader x
  pub list : Listing
  pub listing : x.seen.listing ≡ Some list
  pub empty : list.listed ≡ 0

-- a load of the next owner word
pub record LookMay (k : Config) (x : DomainView) (at : ℕ) : Type 0 where
  pub leader : IsLeader x
  pub list : Listing
  pub listing : x.seen.listing ≡ Some list
  pub inside : length list.owners < k.pools
  pub word : at ≡ 11 + k.pools + length list.owners

abbrev pub LookedTold : DomainView → ℕ → DomainView → Type 0
LookedTold x found y = y ≡ relisted x (found_owner found)

-- a store of the next place of the list
pub record NameMay (k : Config) (x : DomainView) (at : ℕ) : Type 0 where
  pub empties : Empties x
  pub inside : length empties.list.names < k.pools
  pub word : at ≡ 11 + length empties.list.names

abbrev pub NamedTold : DomainView → ℕ → DomainView → Type 0
NamedTold x new y = y ≡ relisted x (named new)

-- a store of 0 into the cursor
abbrev pub SetBackTold : DomainView → ℕ → DomainView → Type 0
SetBackTold x new y = y ≡ with_cursor x 0

-- a store of the number of listed pools: the list names those whose owner words say nobody, all owner words were looked at, and the cursor is 0
pub record CloseMay (k : Config) (x : DomainView) (new : ℕ) : Type 0 where
  pub empties : Empties x
  pub all : length empties.list.owners ≡ k.pools
  pub free : empties.list.names ≡ free_pools empties.list.owners
  pub count : new ≡ length empties.list.names
  pub back : empties.list.cursor ≡ Some 0

-- the domain notes how many pools are listed
abbrev pub ListedAsTold : DomainView → ℕ → DomainView → Type 0
ListedAsTold x new y = y ≡ noted (relisted x (listed_as new)) (Listed new)

-- the list names exactly the pools whose owner words say nobody, rising, and the cursor is 0
pub record HasList (k : Config) (x : DomainView) : Type 0 where
  pub owners : List ℕ
  pub all : length owners ≡ k.pools
  pub listing : x.seen.listing ≡ Some (record { owners = owners; names = free_pools owners; cursor = Some 0; listed = length (free_pools owners) })

-- it knows that pools are listed, and that the cursor stands in none of the reserve: so the list names each free pool still, behind the cursor
pub record ListStays (k : Config) (x : DomainView) : Type 0 where
  pub list : Listing
  pub listing : x.seen.listing ≡ Some list
  pub some : list.listed ≢ 0
  pub at : ℕ
  pub cursor_is : list.cursor ≡ Some at
  pub low : at ≤ limit_of k list.listed

-- the list names all free pools: it was written anew, or it stays
abbrev pub NamesAll : Config → DomainView → Type 0
NamesAll k x = HasList k x ⊎ ListStays k x

-- the list names so many pools
abbrev pub IsListedCount : Config → DomainView → ℕ → Type 0
IsListedCount k x count = (list : HasList k x) → count ≡ length (free_pools list.owners)
