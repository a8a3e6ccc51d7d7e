-- What a domain knows of the pools after a search for a free place.
use Rattle.std.specs.Prelude.{◌≡◌, ℕ, ◌+◌, ◌<◌, ◌≤◌, ◌⊎◌, slice_set, replicate, [], ◌∷◌, List, ◌++◌, Some, ◌≢◌}
use Rattle.model_core.specs.Domains.{class_count, reserve}
use Rattle.model_core.specs.declared.command.Command.TheVariants.{AllocMaj}
use Rattle.model_core.specs.declared.label.Label.{Label}
use Rattle.model_core.specs.declared.reply.Reply.TheVariants.{Block}
use Rattle.heap_words.specs.declared.value.Value.TheVariants.{Ref}
use Rattle.heap_words.specs.Labels.{label_word}
use Rattle.heap_words.specs.Classes.Table.{IsLeastFor}
use Rattle.heap_words.specs.declared.classes.TheConstants.{SIZES}
use Rattle.heap_rule.specs.Limits.{sizes_in}
use Rattle.heap_rule.specs.declared.config.Config.{Config}
use Rattle.heap_rule.specs.declared.view.DomainView.{DomainView}
use Rattle.heap_rule.specs.declared.view.Hunt.{Hunt}
use Rattle.heap_rule.specs.declared.view.Hunt.TheVariants.{Rests, Draws, Fills}
use Rattle.heap_rule.specs.declared.view.Spare.{Spare}
use Rattle.heap_rule.specs.declared.view.Spot.{Spot}
use Rattle.heap_rule.specs.Pools.{size_of, blocks_of, place_in, place_of, search_at, hunting_below, hunting_free}
use Rattle.heap_rule.specs.Token.{Token, SharedHeap, IsIn}
use Rattle.heap_rule.specs.Running.{Did, RemembersAll}
use Rattle.heap_rule.specs.Standing.{Acts}
use Rattle.step_pools.specs.Takes.{HasNoDraw, NoneFree, with_hunt}
use Rattle.gc_sweep.specs.Pruning.{Shortens}
use Rattle.gc_sweep.specs.Sweeping.{with_sweep}
use Rattle.gc_sweep.specs.Walks.{IsWalk}

-- all but what the domain knows of pools is as before
abbrev pub Hunted : DomainView → DomainView → Hunt → Type 0
Hunted x y hunt = y ≡ hunting_free x y.own.looked hunt y.seen.free

-- and so it is where a pool may have become the domain's own
abbrev pub HuntedBelow : DomainView → DomainView → Hunt → Type 0
HuntedBelow x y hunt = y ≡ hunting_below x y.own.swept.top y.own.looked hunt y.seen.free

-- it was looked how many pools are free, and the last time so many were found
abbrev pub CountedFree : ℕ → DomainView → DomainView → Type 0
CountedFree free x y = (earlier : List ℕ) × (y.seen.free ≡ free ∷ earlier ++ x.seen.free)

-- no place of an own pool of the class is known to be free
abbrev pub KnowsNone : ℕ → DomainView → Type 0
KnowsNone class x = (z : Spare) → x.seen.spare ≡ Some z → z.class ≢ class

-- so many pools were found free, which are no more than the reserve
pub record Reserved (k : Config) (free : ℕ) (x y : DomainView) : Type 0 where
  pub found : CountedFree free x y
  pub few : free ≤ reserve (sizes_in k)

-- more pools were found free than the reserve
pub record Unreserved (k : Config) (x y : DomainView) : Type 0 where
  pub free : ℕ
  pub found : CountedFree free x y
  pub more : reserve (sizes_in k) < free

-- the own pools of the class hadn't all been looked through, and it was not looked at how many pools are free
pub record FoundOwn (k : Config) (class : ℕ) (x y : DomainView) : Type 0 where
  pub left : (search_at x.own.looked class).pool < k.pools
  pub unseen : y.seen.free ≡ x.seen.free

-- no place of an own pool of the class was known to be free, no more pools were found free than the reserve, own pools were left to be swept, and after all of these were swept a place was found
pub record FoundSwept (k : Config) (class : ℕ) (x y : DomainView) : Type 0 where
  pub known : KnowsNone class x
  pub left : x.own.swept.spot.pool < k.pools
  pub done : k.pools ≤ y.own.swept.spot.pool
  pub free : ℕ
  pub reserved : Reserved k free x y

-- where a free place may come from: a place of an own pool was found. Else no such place of the class was known to be free, and more pools were found free than the reserve, or a place was found after a sweep
abbrev pub HasPlace : Config → ℕ → DomainView → DomainView → Type 0
HasPlace k class x y = FoundOwn k class x y ⊎ (KnowsNone class x × Unreserved k x y) ⊎ FoundSwept k class x y

-- all but what the domain knows of pools and what a sweep changes is as before
abbrev pub Searched : DomainView → DomainView → Hunt → Type 0
Searched x y hunt = y ≡ hunting_free (with_sweep x y) y.own.looked hunt y.seen.free

-- one of the looks between found no more pools free than the reserve. Later looks stand before it
pub record FoundFew (k : Config) (x y : DomainView) : Type 0 where
  pub free : ℕ
  pub later : List ℕ
  pub earlier : List ℕ
  pub found : y.seen.free ≡ later ++ free ∷ earlier ++ x.seen.free
  pub few : free ≤ reserve (sizes_in k)

-- A look found no more pools free than the reserve. Own pools were left to be swept, and all of these were swept, each place once, before the search ended. What is listed was listed before, and there is room for as many more as are no longer
pub record SweptFirst (k : Config) (x y : DomainView) (hunt : Hunt) : Type 0 where
  pub left : x.own.swept.spot.pool < k.pools
  pub scarce : FoundFew k x y
  pub view : Searched x y hunt
  pub shortens : Shortens x y
  pub places : List Spot
  pub swept : y.seen.share.swept ≡ places ++ x.seen.share.swept
  pub walk : IsWalk x.own.swept.spot places y.own.swept.spot
  pub done : k.pools ≤ y.own.swept.spot.pool

-- what a search changes by which a place is taken
abbrev pub SoughtBelow : Config → DomainView → DomainView → Hunt → Type 0
SoughtBelow k x y hunt = HuntedBelow x y hunt ⊎ SweptFirst k x y hunt

-- what one changes that finds none: what the domain knows of pools, and where it swept first what that changes
abbrev pub Sought : Config → DomainView → DomainView → Hunt → Type 0
Sought k x y hunt = Hunted x y hunt ⊎ SweptFirst k x y hunt

-- a search for a place of the class found none: none of an own pool is free, or was known to be, no own pool is left to be swept, and so many pools were found free, no more than the reserve
pub record FoundNone (k : Config) (class free : ℕ) (x y : DomainView) : Type 0 where
  pub reserved : Reserved k free x y
  pub none_free : NoneFree k y class
  pub known : KnowsNone class x
  pub swept : k.pools ≤ y.own.swept.spot.pool
  pub same : Sought k x y Rests

-- the same of the class for so many words
pub record FoundNoneFor (k : Config) (words free : ℕ) (x y : DomainView) : Type 0 where
  pub reserved : Reserved k free x y
  pub none_free : (class : ℕ) → IsLeastFor SIZES words class → NoneFree k y class
  pub known : (class : ℕ) → IsLeastFor SIZES words class → KnowsNone class x
  pub swept : k.pools ≤ y.own.swept.spot.pool
  pub same : Sought k x y Rests

-- the list of ephemerons and the next place to be swept are as before
pub record SweptNone (x y : DomainView) : Type 0 where
  pub listed : y.own.ephemerons ≡ x.own.ephemerons
  pub next : y.own.swept ≡ record x.own.swept { top = y.own.swept.top }

-- own pools were left to be swept, and none is left
pub record SweptRest (k : Config) (x y : DomainView) : Type 0 where
  pub left : x.own.swept.spot.pool < k.pools
  pub done : k.pools ≤ y.own.swept.spot.pool

-- a sweep may have come between, of all own pools that were left. What is listed was listed before, and there is room for as many more as are no longer
pub record MaySweep (k : Config) (x y : DomainView) : Type 0 where
  pub shortens : Shortens x y
  pub whole : SweptNone x y ⊎ SweptRest k x y

-- the pool at a place of the list is drawn, and more were found free than the reserve
pub record DrewPool (k : Config) (place class : ℕ) (x y : DomainView) : Type 0 where
  pub pool : ℕ
  pub listed_is : place < k.pools
  pub inside : pool < k.pools
  pub view : Hunted x y (Draws place pool class 0)
  pub looked : y.own.looked ≡ x.own.looked
  pub unreserved : Unreserved k x y

-- the pool at a place of the list is drawn for the class
pub record HasDrawn (k : Config) (place class : ℕ) (x : DomainView) : Type 0 where
  pub pool : ℕ
  pub listed_is : place < k.pools
  pub inside : pool < k.pools
  pub hunt : x.seen.hunt ≡ Draws place pool class 0

-- the free place at an address is taken, in an own pool of the class: it is the one looked to
pub record Took (k : Config) (class a : ℕ) (x y : DomainView) : Type 0 where
  pub pool : ℕ
  pub slot : ℕ
  pub inside : pool < k.pools
  pub below : slot < blocks_of class
  pub address : a ≡ place_in pool class slot
  pub view : HuntedBelow x y (Fills pool class slot [])
  pub next : place_of (search_at y.own.looked class) ≡ record { pool = pool; slot = slot }

-- the same, and own pools may have been swept first
pub record Taken (k : Config) (class a : ℕ) (x y : DomainView) : Type 0 where
  pub pool : ℕ
  pub slot : ℕ
  pub inside : pool < k.pools
  pub below : slot < blocks_of class
  pub address : a ≡ place_in pool class slot
  pub view : SoughtBelow k x y (Fills pool class slot [])
  pub next : place_of (search_at y.own.looked class) ≡ record { pool = pool; slot = slot }

-- the free place at an address is taken without a look at how many pools are free
pub record TookUnseen (k : Config) (class a : ℕ) (x y : DomainView) : Type 0 where
  pub took : Took k class a x y
  pub free : y.seen.free ≡ x.seen.free

-- none is taken, and no pool is drawn
pub record Missed (x y : DomainView) : Type 0 where
  pub view : Hunted x y y.seen.hunt
  pub at_rest : HasNoDraw y

-- the search went on to a later pool
pub record WentOn (class pool : ℕ) (x y : DomainView) : Type 0 where
  pub missed : Missed x y
  pub later : pool < (search_at y.own.looked class).pool

-- no place of an own pool of the class is free
pub record Lacks (k : Config) (class : ℕ) (x y : DomainView) : Type 0 where
  pub missed : Missed x y
  pub none_free : NoneFree k y class

-- the token is one of the heap's, its trace hasn't ended, no finaliser waits in its queue, no young block is being made, and its list has the fields that it may have to look through
pub record IsBusy (h : SharedHeap) (t : Token) : Type 0 where
  pub here : IsIn t h
  pub acts : Acts t.config t.view
  pub idle : t.view.seen.made ≡ []
  pub remembers : RemembersAll t.view

-- a free place of an own pool is taken at this address, with room for a block of so many words
pub record IsRoom (k : Config) (x : DomainView) (a words : ℕ) : Type 0 where
  pub pool : ℕ
  pub class : ℕ
  pub slot : ℕ
  pub hunt : x.seen.hunt ≡ Fills pool class slot []
  pub inside : pool < k.pools
  pub of_class : class < class_count
  pub below : slot < blocks_of class
  pub address : a ≡ place_in pool class slot
  pub room : words ≤ size_of class

-- of the block at the place taken the words behind the head are written: the next label, and so many times this word
abbrev pub HasWords : ℕ → ℕ → DomainView → DomainView → Type 0
HasWords word count x y = (pool class slot : ℕ) → x.seen.hunt ≡ Fills pool class slot [] → y ≡ with_hunt x (Fills pool class slot (label_word x.own.number (x.own.serial + 1) ∷ replicate count word))

-- besides its registers, the token has given out one label more, and takes no block
pub record Grows (old new : Token) : Type 0 where
  pub own : new.view.own ≡ record old.view.own { registers = new.view.own.registers; serial = old.view.own.serial + 1 }
  pub at_rest : new.view.seen.hunt ≡ Rests

-- the same, other places were looked at, a pool may have become its own, and own pools may have been swept
pub record GrowsBy (old new : Token) : Type 0 where
  pub own : new.view.own ≡ record old.view.own { registers = new.view.own.registers; serial = old.view.own.serial + 1; looked = new.view.own.looked; ephemerons = new.view.own.ephemerons; swept = new.view.own.swept }
  pub sweep : MaySweep old.config old.view new.view
  pub at_rest : new.view.seen.hunt ≡ Rests

-- register dst holds the address of a place of a pool, of the class for so many words, and the other registers are as before
pub record PutsPlace (k : Config) (dst words : ℕ) (old new : Token) : Type 0 where
  pub pool : ℕ
  pub class : ℕ
  pub slot : ℕ
  pub inside : pool < k.pools
  pub least : IsLeastFor SIZES words class
  pub below : slot < blocks_of class
  pub registers : new.view.own.registers ≡ slice_set old.view.own.registers dst (Ref (place_in pool class slot))

-- a plain block is made in the major heap, at a place that a search has found, and register dst holds it
pub record MadeBlock (h : SharedHeap) (dst tag fields : ℕ) (label : Label) (old new : Token) : Type 0 where
  pub did : Did h old new (AllocMaj dst tag fields) (Block label)
  pub grows : GrowsBy old new
  pub registers : PutsPlace h.config dst (fields + 2) old new
  pub has_place : (class : ℕ) → IsLeastFor SIZES (fields + 2) class → HasPlace h.config class old.view new.view
