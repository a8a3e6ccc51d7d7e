-- The pools: who has each, where their blocks lie, and what a domain that takes one of their blocks knows.
use Rattle.std.specs.Prelude.{Bool, false, true, if◌then◌else◌, nat_lt, ◌==◌, ◌&&◌, ◌||◌, IsTrue, ◌≡◌, ◌≢◌, ℕ, ◌+◌, ◌*◌, ◌-◌, ◌/◌, ◌<◌, ◌≤◌, ◌⊎◌, List, [], length, slice_index, slice_index_or, slice_get, Option, Some, None}
use Rattle.heap_words.specs.declared.classes.TheConstants.{SIZES}
use Rattle.model_core.specs.Domains.{class_count, reserve}
use Rattle.heap_rule.specs.declared.config.Config.{Config}
use Rattle.heap_rule.specs.declared.view.Hunt.{Hunt}
use Rattle.heap_rule.specs.declared.view.Listing.{Listing}
use Rattle.heap_rule.specs.declared.view.Hunt.TheVariants.{Rests, Counts, Asks, Draws, Walks, Fills, Labels, Heads}
use Rattle.heap_rule.specs.declared.view.Spare.{Spare}
use Rattle.heap_rule.specs.declared.view.Search.{Search}
use Rattle.heap_rule.specs.declared.view.Spot.{Spot}
use Rattle.heap_rule.specs.declared.view.DomainView.{DomainView}
use Rattle.heap_rule.specs.declared.phase.Kind.{Kind}
use Rattle.heap_rule.specs.declared.phase.Kind.TheVariants.{Run, Promote, Sweep, Answer}
use Rattle.heap_rule.specs.declared.phase.Stage.{Stage}
use Rattle.heap_rule.specs.declared.phase.Stage.TheVariants.{In, Leads, Led, Gone}
use Rattle.heap_rule.specs.Limits.{sizes_in}
use Rattle.heap_rule.specs.Layout.{at_address, listed_pool, owner_of, listed, cursor}
use Rattle.heap_rule.specs.Places.{Place, Live, extent}
use Rattle.heap_rule.specs.Phases.{Pause, sum_of}

-- the words of a block of a class, and the blocks of a pool of it
unfoldable pub size_of : ℕ → ℕ
size_of class = slice_index SIZES class

unfoldable pub blocks_of : ℕ → ℕ
blocks_of class = 4096 / size_of class

-- the address of a place of a pool
abbrev pub place_in : ℕ → ℕ → ℕ → ℕ
place_in pool class slot = pool * 4096 + slot * size_of class + 1

-- who has a pool: nobody, a domain that drew it from the list, or the domain that its owner word names, for blocks of a class
pub data Holder : Type 0 where
  nobody : Holder
  drawn : ℕ → Holder
  owned : ℕ → ℕ → Holder

abbrev pub owner_word : Holder → ℕ
owner_word nobody = 0
owner_word (drawn d) = 0
owner_word (owned d class) = 16 * d + class + 1

-- what domains have used of the pools since they began to copy: how many pools each has drawn for each class, and how many copies of it made, the pool that it drew last, how many places of that it used, how many copies it made in all, and which words of minor areas belong to blocks that were copied
pub record Stock : Type 0 where
  pub drawn : ℕ → ℕ → ℕ
  pub copies : ℕ → ℕ → ℕ
  pub latest : ℕ → ℕ → ℕ
  pub used : ℕ → ℕ → ℕ
  pub claims : ℕ → ℕ
  pub claimed : ℕ → Bool

-- before they begin
abbrev pub no_stock : Stock
no_stock = record { drawn = λ _ _. 0; copies = λ _ _. 0; latest = λ _ _. 0; used = λ _ _. 0; claims = λ _. 0; claimed = λ _. false }

-- who has each pool, 1 for each domain that may have seen that one is to be had and not asked since, which domain has prepared the place at an address for a copy, at which places blocks lie that a collection hasn't marked, which pool each domain drew last for each class, and what copying has used
pub record Tenancy : Type 0 where
  pub holder : ℕ → Holder
  pub asking : ℕ → ℕ
  pub prepared : ℕ → Option ℕ
  pub garbage : ℕ → Bool
  pub fresh : ℕ → ℕ → Option ℕ
  pub stock : Stock

-- in these phases domains take blocks of pools: while they run, and while they copy young blocks
abbrev pub Takes : Stage → Type 0
Takes stage = (stage ≡ In Run) ⊎ (stage ≡ In Promote)

-- how many of the listed pools running domains may draw
abbrev pub limit_of : Config → ℕ → ℕ
limit_of k count = count - reserve (sizes_in k)

-- Pools: the list names pools that differ. Those behind the cursor are nobody's. The owner words say who owns each
pub record Pools (k : Config) (t : Tenancy) (words : List ℕ) : Type 0 where
  pub few : listed words ≤ k.pools
  pub inside : (i : ℕ) → i < listed words → listed_pool words i < k.pools
  pub once : (i j : ℕ) → i < listed words → j < listed words → listed_pool words i ≡ listed_pool words j → i ≡ j
  pub untaken : (i : ℕ) → i < listed words → cursor words ≤ i → t.holder (listed_pool words i) ≡ nobody
  pub owners : (q : ℕ) → q < k.pools → owner_of k words q ≡ owner_word (t.holder q)
  pub owned_by : (q d c : ℕ) → t.holder q ≡ owned d c → (q < k.pools) × (d < k.domains) × (c < class_count)
  pub drawn_by : (q d : ℕ) → t.holder q ≡ drawn d → (q < k.pools) × (d < k.domains)
  pub one_each : (d : ℕ) → t.asking d ≤ 1
  pub asked : cursor words + sum_of t.asking k.domains ≤ k.pools + k.domains

-- the domains run, or the pause begins in which they copy young blocks
abbrev pub KeepsReserve : Pause → Type 0
KeepsReserve p = (j : ℕ) × ((p.phase ≡ j * 2) ⊎ (p.phase ≡ j * 2 + 1)) × (p.kinds j ≡ Run)

-- so far the pools of the reserve are nobody's
abbrev pub Reserved : Config → Pause → Tenancy → List ℕ → Type 0
Reserved k p t words = KeepsReserve p → (i : ℕ) → i < listed words → limit_of k (listed words) ≤ i → t.holder (listed_pool words i) ≡ nobody

-- the domains run, or it is named that they run next
abbrev pub RunsNext : Pause → Type 0
RunsNext p = ((j : ℕ) × (p.phase ≡ j * 2) × (p.kinds j ≡ Run)) ⊎ ((j : ℕ) × (p.phase ≡ j * 2 + 1) × (p.led ≡ true) × (p.kinds (j + 1) ≡ Run))

-- the list of free pools is whole: the domains run, or run next, or some are listed. While it is written anew it names none, and before a pool comes back it is emptied
abbrev pub IsListWhole : Pause → List ℕ → Type 0
IsListWhole p words = RunsNext p ⊎ (listed words ≢ 0)

-- then each pool that is nobody's is listed, behind the cursor or in the reserve
abbrev pub Covered : Config → Pause → Tenancy → List ℕ → Type 0
Covered k p t words = IsListWhole p words → (q : ℕ) → q < k.pools → t.holder q ≡ nobody → (i : ℕ) × (i < listed words) × (listed_pool words i ≡ q) × ((cursor words ≤ i) ⊎ (limit_of k (listed words) ≤ i))

-- the place of a block in a pool
pub record Lot (holder : ℕ → Holder) (a : ℕ) (p : Place) : Type 0 where
  pub pool : ℕ
  pub domain : ℕ
  pub class : ℕ
  pub slot : ℕ
  pub owned_is : holder pool ≡ owned domain class
  pub inside : slot < blocks_of class
  pub begins : a ≡ place_in pool class slot
  pub fits : extent p.shape ≤ size_of class

-- an address is that of a place of a domain's own pools
pub record OwnPlace (holder : ℕ → Holder) (a d : ℕ) : Type 0 where
  pub pool : ℕ
  pub class : ℕ
  pub slot : ℕ
  pub owned_is : holder pool ≡ owned d class
  pub inside : slot < blocks_of class
  pub begins : a ≡ place_in pool class slot

-- the place at an address is prepared for a copy: it lies in a pool of the domain, no block lives there, and its head isn't Free
pub record IsSpare (k : Config) (holder : ℕ → Holder) (live : Live) (words : List ℕ) (a d : ℕ) : Type 0 where
  pub own : OwnPlace holder a d
  pub head : at_address k words a ≢ 0
  pub empty : live a ≡ None

-- what is at a place of an owned pool: its head says Free, a block lives there, it is prepared for a copy, or it is garbage
abbrev pub IsPlace : Config → Tenancy → Live → List ℕ → ℕ → ℕ → Type 0
IsPlace k t live words d a = (at_address k words a ≡ 0) ⊎ (((p : Place) × (live a ≡ Some p)) ⊎ ((t.prepared a ≡ Some d) ⊎ IsTrue (t.garbage a)))

-- Represents, the places in pools: each block of the pools begins at a place of an owned pool and fits its class, and at each place of an owned pool a block lives, or its head says Free, or it is prepared, or it is garbage
pub record Grid (k : Config) (t : Tenancy) (live : Live) (words : List ℕ) : Type 0 where
  pub lots : (a : ℕ) (p : Place) → live a ≡ Some p → a ≤ k.pools * 4096 → Lot t.holder a p
  pub places : (q d c slot : ℕ) → t.holder q ≡ owned d c → slot < blocks_of c → IsPlace k t live words d (place_in q c slot)
  pub spares : (a d : ℕ) → t.prepared a ≡ Some d → IsSpare k t.holder live words a d

-- a place of an own pool is free, and these words are written behind its head's
pub record Filling (k : Config) (holder : ℕ → Holder) (words : List ℕ) (d pool class slot : ℕ) (made : List ℕ) : Type 0 where
  pub own_is : holder pool ≡ owned d class
  pub inside : slot < blocks_of class
  pub free : at_address k words (place_in pool class slot) ≡ 0
  pub fits : length made < size_of class
  pub written : (j w : ℕ) → slice_get made j ≡ Some w → at_address k words (place_in pool class slot + 1 + j) ≡ w

-- so many places of a drawn pool are free
pub record Clearing (k : Config) (holder : ℕ → Holder) (fresh : ℕ → ℕ → Option ℕ) (words : List ℕ) (d place pool class cleared : ℕ) : Type 0 where
  pub inside : pool < k.pools
  pub listed_is : place < k.pools
  pub names : listed_pool words place ≡ pool
  pub drawn_is : holder pool ≡ drawn d
  pub fresh_is : fresh d class ≡ Some pool
  pub of_class : class < class_count
  pub some : cleared ≤ blocks_of class
  pub free : (j : ℕ) → j < cleared → at_address k words (place_in pool class j) ≡ 0

-- what a domain knows in the middle of taking a block
abbrev pub Hunts : Config → Tenancy → List ℕ → ℕ → Hunt → Type 0
Hunts k t words d Rests = Unit {0}
Hunts k t words d (Counts n) = listed words ≡ n
Hunts k t words d (Asks n) = (listed words ≡ n) × (t.asking d ≡ 1)
Hunts k t words d (Draws place pool class cleared) = Clearing k t.holder t.fresh words d place pool class cleared
Hunts k t words d (Walks pool class) = t.holder pool ≡ owned d class
Hunts k t words d (Fills pool class slot made) = Filling k t.holder words d pool class slot made
Hunts k t words d (Labels address label) = (t.prepared address ≡ Some d) × OwnPlace t.holder address d × (at_address k words (address + 1) ≡ label)
Hunts k t words d (Heads address label head) = (t.prepared address ≡ Some d) × OwnPlace t.holder address d × (at_address k words (address + 1) ≡ label) × (at_address k words address ≡ head)

-- before it looks at any place
abbrev pub first_search : Search
first_search = record { pool = 0; slot = 0; only = false }

-- how far a domain has looked for a free place of a class
abbrev pub search_at : List Search → ℕ → Search
search_at looked class = slice_index_or looked class first_search

-- the place to which it has looked
abbrev pub place_of : Search → Spot
place_of s = record { pool = s.pool; slot = s.slot }

abbrev pub IsBefore : ℕ → ℕ → Spot → Type 0
IsBefore q slot spot = (q < spot.pool) ⊎ ((q ≡ spot.pool) × (slot < spot.slot))

-- a place of an own pool that is known not to be free: it stands before the one to which the domain has looked, or in a pool behind the only one that may have a free place
abbrev pub IsPassed : ℕ → ℕ → Search → Type 0
IsPassed q slot s = IsBefore q slot (place_of s) ⊎ ((s.only ≡ true) × (s.pool < q))

-- how far it has looked once a place of the class is free again: to that one, if it is earlier. If it lies in another pool, the search's is no longer the only one
abbrev pub freed_at : ℕ → ℕ → Search → Search
freed_at pool slot s = if (nat_lt pool s.pool || (pool == s.pool && nat_lt slot s.slot)) then record { pool = pool; slot = slot; only = s.only && (s.pool == pool) } else record { pool = s.pool; slot = s.slot; only = s.only && (s.pool == pool) }

-- a domain hasn't arrived in this phase, in which domains run or copy young blocks
abbrev pub IsTaking : Pause → ℕ → Type 0
IsTaking p d = (p.arrived d ≡ p.phase) × ((j : ℕ) × (p.phase ≡ j * 2) × ((p.kinds j ≡ Run) ⊎ (p.kinds j ≡ Promote)))

-- a domain hasn't arrived in this phase, in which they copy young blocks
abbrev pub IsCopying : Pause → ℕ → Type 0
IsCopying p d = (p.arrived d ≡ p.phase) × ((j : ℕ) × (p.phase ≡ j * 2) × (p.kinds j ≡ Promote))

-- who has drawn a pool and doesn't own it yet takes blocks in this phase, so in an odd one an owner word of 0 says that the pool is nobody's. Who has prepared a place, or has copies in its list, copies in this phase
pub record Drawers (p : Pause) (t : Tenancy) : Type 0 where
  pub drawn : (q d : ℕ) → t.holder q ≡ drawn d → IsTaking p d
  pub prepared : (a d : ℕ) → t.prepared a ≡ Some d → IsCopying p d
  pub claims : (d : ℕ) → 0 < t.stock.claims d → IsCopying p d

-- domain 0 acts in an odd phase
abbrev pub IsLeading : Stage → Type 0
IsLeading (Leads kind) = Unit {0}
IsLeading (Led kind) = Unit {0}
IsLeading _ = ⊥

-- in these phases domains give pools back
abbrev pub IsReturning : Kind → Type 0
IsReturning kind = (kind ≡ Sweep) ⊎ (kind ≡ Answer)

-- no pool is listed, no owner word is found and no place of the list is written so far
abbrev pub no_listing : Listing
no_listing = record { owners = []; names = []; cursor = None; listed = 0 }

-- who may know of the list of free pools: domain 0, in an odd phase, in which it looks at it or writes it anew; and a domain that gives pools back, of which it knows that it names none
abbrev pub KnowsList : ℕ → Stage → Listing → Type 0
KnowsList d (Leads kind) l = d ≡ 0
KnowsList d (Led kind) l = d ≡ 0
KnowsList d (In kind) l = IsReturning kind × (l ≡ no_listing)
KnowsList d (Gone kind) l = ⊥

-- what a domain knows of the list: these are the owner words of the first pools, the first places of the list, how many are listed, and where the cursor stands, once that is known
pub record Lists (k : Config) (words : List ℕ) (number : ℕ) (stage : Stage) (l : Listing) : Type 0 where
  pub who : KnowsList number stage l
  pub few : (length l.owners ≤ k.pools) × (length l.names ≤ k.pools)
  pub owners : (q w : ℕ) → slice_get l.owners q ≡ Some w → owner_of k words q ≡ w
  pub names : (i q : ℕ) → slice_get l.names i ≡ Some q → listed_pool words i ≡ q
  pub count : listed words ≡ l.listed
  pub found : (c : ℕ) → l.cursor ≡ Some c → cursor words ≡ c

-- a domain that neither runs nor copies takes no block. Where it doesn't run it knows nothing of how many pools are free, and of no free place
pub record Resting (k : Config) (words : List ℕ) (x : DomainView) : Type 0 where
  pub hunt : (Takes x.seen.stage → ⊥) → x.seen.hunt ≡ Rests
  pub free : x.seen.stage ≢ In Run → x.seen.free ≡ []
  pub spare : x.seen.stage ≢ In Run → x.seen.spare ≡ None
  pub lists : (l : Listing) → x.seen.listing ≡ Some l → Lists k words x.own.number x.seen.stage l

-- the domain with other places looked at, and further on in taking a block
abbrev pub hunting_free : DomainView → List Search → Hunt → List ℕ → DomainView
hunting_free x looked hunt free = record x { own = record x.own { looked = looked }; seen = record x.seen { hunt = hunt; free = free } }

-- and with its own pools below this one
abbrev pub hunting_below : DomainView → ℕ → List Search → Hunt → List ℕ → DomainView
hunting_below x top looked hunt free = record x { own = record x.own { looked = looked; swept = record x.own.swept { top = top } }; seen = record x.seen { hunt = hunt; free = free } }

abbrev pub hunting : DomainView → List Search → Hunt → DomainView
hunting x looked hunt = hunting_free x looked hunt x.seen.free

-- the pool that it has drawn
abbrev pub drawn_in : Hunt → Option ℕ
drawn_in (Draws place pool class cleared) = Some pool
drawn_in _ = None

-- the pool that it has drawn is for this class
abbrev pub DrawsFor : ℕ → Hunt → Type 0
DrawsFor c (Draws place pool class cleared) = class ≡ c
DrawsFor c _ = ⊥

-- the pool that a domain drew last for a class while it copies: so many of its places are used, the others are free, but that the next may be prepared. It has made as many copies as the pools drawn before it and these have places
pub record Latest (k : Config) (t : Tenancy) (words : List ℕ) (d c : ℕ) : Type 0 where
  pub own_is : t.holder (t.stock.latest d c) ≡ owned d c
  pub few : t.stock.used d c ≤ blocks_of c
  pub enough : t.stock.drawn d c * blocks_of c + t.stock.used d c ≤ t.stock.copies d c + blocks_of c
  pub rest : (j : ℕ) → t.stock.used d c ≤ j → j < blocks_of c → (at_address k words (place_in (t.stock.latest d c) c j) ≡ 0) ⊎ ((j ≡ t.stock.used d c) × (t.prepared (place_in (t.stock.latest d c) c j) ≡ Some d))

-- the place that is prepared for a class
abbrev pub prepared_at : List (Option ℕ) → ℕ → Option ℕ
prepared_at prepared class = slice_index_or prepared class None

-- how many pools a domain found free when it looked last
abbrev pub last_found : DomainView → Option ℕ
last_found x = slice_get x.seen.free 0

-- a place of a domain's own pools is free
pub record IsFree (k : Config) (holder : ℕ → Holder) (words : List ℕ) (d : ℕ) (z : Spare) : Type 0 where
  pub own_is : holder z.pool ≡ owned d z.class
  pub inside : z.slot < blocks_of z.class
  pub free : at_address k words (place_in z.pool z.class z.slot) ≡ 0

-- all that the rule says of one domain's pools: what it knows in the middle of taking a block, that no other pool is drawn by it, that the places which it has looked at aren't free, that the place of which it knows that it is free is so, and that no more pools are free than it last found, which were no more than are listed. The places that it has prepared are those of its list, and its list of copies has all that it made
pub record Hunter (k : Config) (t : Tenancy) (words : List ℕ) (x : DomainView) : Type 0 where
  pub hunt : Hunts k t words x.own.number x.seen.hunt
  pub drawn_alone : (q : ℕ) → t.holder q ≡ drawn x.own.number → drawn_in x.seen.hunt ≡ Some q
  pub taken : (q c slot : ℕ) → t.holder q ≡ owned x.own.number c → slot < blocks_of c → IsPassed q slot (search_at x.own.looked c) → at_address k words (place_in q c slot) ≢ 0
  pub spare : (z : Spare) → x.seen.spare ≡ Some z → IsFree k t.holder words x.own.number z
  pub free : (f : ℕ) → last_found x ≡ Some f → (listed words ≤ f + cursor words) × (listed words ≤ f + limit_of k (listed words)) × (f ≤ listed words)
  pub holds : (c a : ℕ) → c < class_count → prepared_at x.own.prepared c ≡ Some a → (t.prepared a ≡ Some x.own.number) × ((q slot : ℕ) × (t.holder q ≡ owned x.own.number c) × (slot < blocks_of c) × (a ≡ place_in q c slot))
  pub prepared : (q c slot : ℕ) → t.holder q ≡ owned x.own.number c → slot < blocks_of c → t.prepared (place_in q c slot) ≡ Some x.own.number → prepared_at x.own.prepared c ≡ Some (place_in q c slot)
  pub claims : length x.own.pending.items ≡ t.stock.claims x.own.number
  pub supply : (c : ℕ) → c < class_count → 0 < t.stock.drawn x.own.number c → DrawsFor c x.seen.hunt ⊎ Latest k t words x.own.number c
