-- Steps that take a free block of the pools, and make a block there.
use Rattle.model_core.specs.Domains.{class_count}
use Rattle.std.specs.Prelude.{◌≡◌, ◌≢◌, ℕ, ◌+◌, ◌*◌, ◌-◌, ◌^◌, ◌<◌, ◌≤◌, true, false, List, [], ◌∷◌, ◌++◌, length, replicate, slice_set, Some, None}
use Rattle.model_core.specs.declared.command.Command.TheVariants.{AllocMaj}
use Rattle.model_core.specs.declared.entry.Entry.{Entry}
use Rattle.model_core.specs.declared.entry.Entry.TheVariants.{Command}
use Rattle.model_core.specs.declared.reply.Reply.TheVariants.{Block}
use Rattle.model_core.specs.declared.reply.Applied.TheVariants.{Replied}
use Rattle.model_core.specs.Fronts.{PlainShape, Answers}
use Rattle.heap_words.specs.declared.value.Value.TheVariants.{Ref, Nothing}
use Rattle.heap_words.specs.Labels.{label_word}
use Rattle.heap_rule.specs.declared.change.Change.{Change}
use Rattle.heap_rule.specs.declared.config.Config.{Config}
use Rattle.heap_rule.specs.declared.view.DomainView.{DomainView}
use Rattle.heap_rule.specs.declared.view.Hunt.{Hunt}
use Rattle.heap_rule.specs.declared.view.Hunt.TheVariants.{Rests, Counts, Asks, Draws, Walks, Fills}
use Rattle.heap_rule.specs.declared.view.Spare.{Spare}
use Rattle.heap_rule.specs.declared.view.Search.{Search}
use Rattle.heap_rule.specs.declared.phase.Kind.TheVariants.{Promote}
use Rattle.heap_rule.specs.declared.phase.Stage.TheVariants.{In}
use Rattle.heap_rule.specs.Copies.{known}
use Rattle.heap_rule.specs.Limits.{sizes_in}
use Rattle.heap_rule.specs.Places.{Place, IsNewHead, class_words}
use Rattle.heap_rule.specs.Changes.{changed, FitChanges}
use Rattle.heap_rule.specs.Pools.{size_of, blocks_of, place_in, owner_word, owned, limit_of, drawn_in, prepared_at, place_of, search_at, hunting_free, hunting_below, hunting}
use Rattle.heap_rule.specs.Token.{next_label}
use Rattle.heap_rule.specs.Standing.{Acts}
use Rattle.step_pools.specs.Writes.{pool_behind, top_above}
use Rattle.heap_rule.specs.Token.{Holds}

-- the domain further on in taking a block
abbrev pub with_hunt : DomainView → Hunt → DomainView
with_hunt x hunt = hunting x x.own.looked hunt

-- the same, where another place was looked to for a class
abbrev pub looked_to : DomainView → ℕ → Search → Hunt → DomainView
looked_to x class n hunt = hunting x (slice_set x.own.looked class n) hunt

-- no pool is drawn
abbrev pub HasNoDraw : DomainView → Type 0
HasNoDraw x = drawn_in x.seen.hunt ≡ None

-- no place of an own pool of the class is free
abbrev pub NoneFree : Config → DomainView → ℕ → Type 0
NoneFree k x class = k.pools ≤ (search_at x.own.looked class).pool

-- not all own pools were looked through of the class of the place that is known to be free
abbrev pub LeavesSpare : Config → DomainView → Type 0
LeavesSpare k x = (z : Spare) → x.seen.spare ≡ Some z → NoneFree k x z.class → ⊥

-- a load of the count of listed pools
pub record ListedTold (k : Config) (x : DomainView) (found : ℕ) (y : DomainView) : Type 0 where
  pub few : found ≤ k.pools
  pub leaves : LeavesSpare k x
  pub view : y ≡ with_hunt x (Counts found)

-- the domain looked how many pools are free, and found so many
abbrev pub found_free : DomainView → ℕ → Hunt → DomainView
found_free x free hunt = hunting_free x x.own.looked hunt (free ∷ x.seen.free)

-- the domain runs commands, is to make a young block with fields, for which its minor area has room, and draws no pool
pub record YoungMay (k : Config) (x : DomainView) : Type 0 where
  pub acts : Acts k x
  pub idle : x.seen.made ≡ []
  pub at_rest : HasNoDraw x
  pub fields : ℕ
  pub some : 1 ≤ fields
  pub room : x.own.used + class_words (fields + 2) ≤ k.minor_words

-- a look at how many pools are listed. No more are free, and of these those of the reserve are, as far as they are listed
pub record YoungTold (k : Config) (x : DomainView) (found : ℕ) (y : DomainView) : Type 0 where
  pub few : found ≤ k.pools
  pub view : y ≡ found_free x found Rests

-- a load of the cursor tells how many pools are free: those behind it, or those of the reserve where it is past the limit. Where it is below the limit, the domain asks for one
pub record CursorTold (k : Config) (count : ℕ) (x : DomainView) (found : ℕ) (y : DomainView) : Type 0 where
  pub below : found < limit_of k count → y ≡ found_free x (count - found) (Asks count)
  pub past : limit_of k count ≤ found → y ≡ found_free x (count - limit_of k count) Rests

-- the pool at the place that the cursor named is drawn
pub record Drew (k : Config) (place class : ℕ) (x y : DomainView) : Type 0 where
  pub pool : ℕ
  pub listed_is : place < k.pools
  pub inside : pool < k.pools
  pub view : y ≡ with_hunt x (Draws place pool class 0)

-- an add to the cursor
pub record CursorAddTold (k : Config) (count class : ℕ) (x : DomainView) (found : ℕ) (y : DomainView) : Type 0 where
  pub below : found < limit_of k count → Drew k found class x y
  pub past : limit_of k count ≤ found → y ≡ found_free x (count - limit_of k count) Rests

-- the domain has met a block of a minor area
pub record HasYoung (k : Config) (x : DomainView) : Type 0 where
  pub address : ℕ
  pub block : Place
  pub met : known x.seen.copying.met address ≡ Some block
  pub young : k.pools * 4096 < address

-- a domain that copies young blocks and has met one in a minor area, and of whose own pools of the class no place is free or prepared, draws a pool
pub record CopyDrawMay (k : Config) (x : DomainView) (class : ℕ) : Type 0 where
  pub stage : x.seen.stage ≡ In Promote
  pub at_rest : HasNoDraw x
  pub of_class : class < class_count
  pub none_free : NoneFree k x class
  pub unprepared : prepared_at x.own.prepared class ≡ None
  pub young : HasYoung k x

-- it draws one whatever the cursor was
abbrev pub CopyDrawTold : Config → ℕ → DomainView → ℕ → DomainView → Type 0
CopyDrawTold k class x found y = Drew k found class x y

-- a load of the list at the place drawn
pub record ListMay (k : Config) (x : DomainView) (at : ℕ) : Type 0 where
  pub place : ℕ
  pub pool : ℕ
  pub class : ℕ
  pub cleared : ℕ
  pub hunt : x.seen.hunt ≡ Draws place pool class cleared
  pub word : at ≡ 11 + place
  pub inside : place < k.pools

pub record ListTold (x : DomainView) (found : ℕ) (y : DomainView) : Type 0 where
  pub names : drawn_in x.seen.hunt ≡ Some found
  pub view : y ≡ x

-- a store of Free at the next place of the pool drawn
pub record ClearMay (x : DomainView) (at new pool class cleared : ℕ) : Type 0 where
  pub place : ℕ
  pub hunt : x.seen.hunt ≡ Draws place pool class cleared
  pub some : cleared < blocks_of class
  pub word : at ≡ place_in pool class cleared
  pub free : new ≡ 0

-- one place more of the pool drawn is free
abbrev pub cleared_more : Hunt → Hunt
cleared_more (Draws place pool class cleared) = Draws place pool class (cleared + 1)
cleared_more h = h

abbrev pub ClearTold : DomainView → ℕ → DomainView → Type 0
ClearTold x new y = y ≡ with_hunt x (cleared_more x.seen.hunt)

-- the store of the owner of the pool drawn
pub record OwnerMay (k : Config) (x : DomainView) (at new pool class : ℕ) : Type 0 where
  pub place : ℕ
  pub hunt : x.seen.hunt ≡ Draws place pool class (blocks_of class)
  pub word : at ≡ 11 + k.pools + pool
  pub signs : new ≡ owner_word (owned x.own.number class)
  pub none_free : NoneFree k x class

-- a pool is the domain's own, and its places are looked at first: no place of another one of the class is free
abbrev pub owning_pool : DomainView → ℕ → ℕ → Hunt → DomainView
owning_pool x class pool hunt = hunting_below x (top_above x.own.swept.top pool) (slice_set x.own.looked class (record { pool = pool; slot = 0; only = true })) hunt x.seen.free

-- the pool is the domain's, and its first place is taken
pub record OwnedTold (pool class : ℕ) (x : DomainView) (new : ℕ) (y : DomainView) : Type 0 where
  pub wide : length x.own.looked ≡ class_count
  pub view : y ≡ owning_pool x class pool (Fills pool class 0 [])

-- a load of the owner of the pool in which the places of the class are looked at next
pub record OwnerLoadMay (k : Config) (x : DomainView) (at pool class : ℕ) : Type 0 where
  pub at_rest : HasNoDraw x
  pub word : at ≡ 11 + k.pools + pool
  pub inside : pool < k.pools
  pub of_class : class < class_count
  pub next : (search_at x.own.looked class).pool ≡ pool

pub record OwnerTold (k : Config) (pool class : ℕ) (x : DomainView) (found : ℕ) (y : DomainView) : Type 0 where
  pub wide : length x.own.looked ≡ class_count
  pub own : found ≡ owner_word (owned x.own.number class) → y ≡ with_hunt x (Walks pool class)
  pub other : found ≢ owner_word (owned x.own.number class) → y ≡ looked_to x class (pool_behind k.pools x.own.swept.top pool (search_at x.own.looked class)) Rests

-- a load of the head at the next place of an own pool
pub record PlaceMay (x : DomainView) (at pool class slot : ℕ) : Type 0 where
  pub hunt : x.seen.hunt ≡ Walks pool class
  pub inside : slot < blocks_of class
  pub word : at ≡ place_in pool class slot
  pub next : place_of (search_at x.own.looked class) ≡ record { pool = pool; slot = slot }

pub record PlaceTold (k : Config) (pool class slot : ℕ) (x : DomainView) (found : ℕ) (y : DomainView) : Type 0 where
  pub wide : length x.own.looked ≡ class_count
  pub free : found ≡ 0 → y ≡ with_hunt x (Fills pool class slot [])
  pub full : found ≢ 0 → slot + 1 < blocks_of class → y ≡ looked_to x class (record { pool = pool; slot = slot + 1; only = (search_at x.own.looked class).only }) (Walks pool class)
  pub last : found ≢ 0 → blocks_of class ≤ slot + 1 → y ≡ looked_to x class (pool_behind k.pools x.own.swept.top pool (search_at x.own.looked class)) (Walks pool class)

-- a store of the next word behind the head's of the place taken
pub record FillMay (x : DomainView) (at : ℕ) : Type 0 where
  pub pool : ℕ
  pub class : ℕ
  pub slot : ℕ
  pub made : List ℕ
  pub hunt : x.seen.hunt ≡ Fills pool class slot made
  pub word : at ≡ place_in pool class slot + 1 + length made
  pub room : length made + 1 < size_of class

abbrev pub filled : ℕ → Hunt → Hunt
filled new (Fills pool class slot made) = Fills pool class slot (made ++ new ∷ [])
filled new h = h

abbrev pub FillTold : DomainView → ℕ → DomainView → Type 0
FillTold x new y = y ≡ with_hunt x (filled new x.seen.hunt)

-- the store of the head at the place taken: all other words are written, the label and so many zeros
pub record MajorMay (k : Config) (x : DomainView) (at new : ℕ) (changes : List Change) (d dst tag fields : ℕ) : Type 0 where
  pub pool : ℕ
  pub class : ℕ
  pub slot : ℕ
  pub own : d ≡ x.own.number
  pub acts : Acts k x
  pub hunt : x.seen.hunt ≡ Fills pool class slot (label_word x.own.number (x.own.serial + 1) ∷ replicate fields 1)
  pub word : at ≡ place_in pool class slot
  pub tag_fits : tag < 251
  pub some_field : 1 ≤ fields
  pub few_fields : fields ≤ 1022
  pub head : IsNewHead x.seen.share.colours x.seen.share.armed true (PlainShape fields tag) new
  pub serial : x.own.serial + 1 < 2 ^ 32
  pub goes : dst < 16
  pub written : changed Nothing changes x.own ≡ record x.own { registers = slice_set x.own.registers dst (Ref at) }
  pub fits : FitChanges changes

abbrev pub MajorEntry : Config → DomainView → ℕ → ℕ → List Change → Entry → Type 0
MajorEntry k x at new changes (Command d (AllocMaj dst tag fields) false) = MajorMay k x at new changes d dst tag fields
MajorEntry k x at new changes _ = ⊥

-- the block lives, and the entry of its allocation stands. Of no place is it known any more that it was free from the start
pub record MajorTold (k : Config) (e : Entry) (changes : List Change) (x y : DomainView) : Type 0 where
  pub answers : Answers (sizes_in k) x.own.number x.seen.front y.seen.front e (Replied (Block (next_label x)))
  pub view : y ≡ record {
    own = record (changed Nothing changes x.own) { serial = x.own.serial + 1 };
    seen = record x.seen { front = y.seen.front; hunt = Rests; spare = None };
  }
  pub holds : Holds k y.own.registers
