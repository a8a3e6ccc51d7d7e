-- What the clauses of allocation and of taking pools refuse.
use Rattle.std.proofs.Common.{◌≡◌, ◌∙◌, ◌⊎◌, ⊎_elim, ℕ, suc, ◌+◌, ◌<◌, ◌≤◌, List, ◌∷◌, ◌++◌, length, get_or, Some, sym, ap, arith}
use Rattle.std.proofs.Math.Seq.{get_or-append_seam}
use Rattle.std.proofs.lemmas.List.{get_or_append_left}
use Rattle.heap_rule.specs.declared.config.Config.{Config}
use Rattle.heap_rule.specs.declared.view.DomainView.{DomainView}
use Rattle.heap_rule.specs.declared.view.Hunt.{Hunt}
use Rattle.heap_rule.specs.declared.view.Spare.{Spare}
use Rattle.heap_rule.specs.Token.{Token, SharedHeap}
use Rattle.model_core.specs.Domains.{reserve}
use Rattle.heap_rule.specs.Limits.{sizes_in}
use Rattle.do_alloc.specs.Young.Area.{HasRoom, IsClosed, IsFull}
use Rattle.do_alloc.specs.Pools.Taken.{FoundOwn, FoundSwept, HasPlace, KnowsNone, SweptFirst, Unreserved}
use Rattle.run_turns.specs.Tries.{HasNoPool}
use Rattle.check_laws.proofs.OfRefusedCalls.Finalisers.{lengths}

-- the minor area isn't said to be full while the block fits
pub no_area_is_full_early : (h : SharedHeap) (old new : Token) (fields used : ℕ) → IsFull h old new fields used → HasRoom h.config old.view fields → ⊥
no_area_is_full_early h old new fields used full room = let none = full.no_room in omega (arith, none, room)

-- a young allocation isn't refused for the pools while as many were found free as promotion may need
pub no_area_is_closed_early : (h : SharedHeap) (old new : Token) (fields free : ℕ) → IsClosed h old new fields free → reserve (sizes_in h.config) ≤ free → ⊥
no_area_is_closed_early h old new fields free shut enough = let few = shut.few in omega (arith, few, enough)

-- no pool is said to be had nowhere while own pools are left to be swept
pub no_sweep_is_left_out : (k : Config) (words : ℕ) (x y : DomainView) → HasNoPool k words x y → y.own.swept.spot.pool < k.pools → ⊥
no_sweep_is_left_out k words x y none left = let swept = none.swept in omega (arith, swept, left)

-- or while more were found free than the reserve
pub no_free_pool_is_left_out : (k : Config) (words : ℕ) (x y : DomainView) → HasNoPool k words x y → Unreserved k x y → ⊥
no_free_pool_is_left_out k words x y none more =
    let same : none.free ≡ more.free = let e : none.free ∷ none.reserved.found.0 ++ x.seen.free ≡ more.free ∷ more.found.0 ++ x.seen.free = sym none.reserved.found.1 ∙ more.found.1 in cc in
    let few = none.reserved.few in
    let many = more.more in
    omega (arith, same, few, many)

-- nor without a look in this call at how many pools are free
pub no_refusal_without_a_look : (k : Config) (words : ℕ) (x y : DomainView) → HasNoPool k words x y → y.seen.free ≡ x.seen.free → ⊥
no_refusal_without_a_look k words x y none same =
    let found : y.seen.free ≡ none.free ∷ none.reserved.found.0 ++ x.seen.free = none.reserved.found.1 in
    let n : ℕ = length none.reserved.found.0 in
    let m : ℕ = length x.seen.free in
    let all : m ≡ suc (length (none.reserved.found.0 ++ x.seen.free)) = ap (λ (l : List ℕ). length l) (sym same ∙ found) in
    let sum : length (none.reserved.found.0 ++ x.seen.free) ≡ n + m = lengths none.reserved.found.0 x.seen.free in
    omega (arith, all, sum)

-- it isn't looked how many pools are free while a place of an own pool of the class is known to be free
pub no_look_while_a_place_is_free : (k : Config) (class : ℕ) (x y : DomainView) (z : Spare) → x.seen.spare ≡ Some z → z.class ≡ class → HasPlace k class x y → y.seen.free ≡ x.seen.free
no_look_while_a_place_is_free k class x y z is same has = ⊎_elim
    (λ (own : FoundOwn k class x y). own.unseen)
    (λ (other : (KnowsNone class x × Unreserved k x y) ⊎ FoundSwept k class x y). ⊎_elim
    (λ (drew : KnowsNone class x × Unreserved k x y). absurd (drew.0 z is same))
    (λ (swept : FoundSwept k class x y). absurd (swept.known z is same))
    other)
    has

-- so own pools aren't swept before that place is taken
pub no_sweep_while_a_place_is_free : (k : Config) (class : ℕ) (x y : DomainView) (hunt : Hunt) (z : Spare) → x.seen.spare ≡ Some z → z.class ≡ class → HasPlace k class x y → SweptFirst k x y hunt → ⊥
no_sweep_while_a_place_is_free k class x y hunt z is same has first =
    let few = first.scarce in
    let n : ℕ = length (few.later ++ few.free ∷ few.earlier) in
    let a : ℕ = length few.later in
    let b : ℕ = length few.earlier in
    let m : ℕ = length x.seen.free in
    let some : n ≡ a + suc b = lengths few.later (few.free ∷ few.earlier) in
    let all : m ≡ n + m = ap (λ (l : List ℕ). length l) (sym (no_look_while_a_place_is_free k class x y z is same has) ∙ few.found) ∙ lengths (few.later ++ few.free ∷ few.earlier) x.seen.free in
    omega (arith, some, all)

-- nor while each look of the call, which stand before those of earlier calls, finds more pools free than the reserve
pub no_sweep_while_pools_are_free : (k : Config) (x y : DomainView) (hunt : Hunt) → SweptFirst k x y hunt → ((i : ℕ) → i + length x.seen.free < length y.seen.free → reserve (sizes_in k) < get_or y.seen.free i 0) → ⊥
no_sweep_while_pools_are_free k x y hunt first many =
    let few = first.scarce in
    let new : List ℕ = few.later ++ few.free ∷ few.earlier in
    let n : ℕ = length new in
    let a : ℕ = length few.later in
    let b : ℕ = length few.earlier in
    let m : ℕ = length x.seen.free in
    let y_long : ℕ = length y.seen.free in
    let some : n ≡ a + suc b = lengths few.later (few.free ∷ few.earlier) in
    let all : y_long ≡ n + m = ap (λ (l : List ℕ). length l) few.found ∙ lengths new x.seen.free in
    let among : a < n = omega (arith, some) in
    let at : get_or y.seen.free a 0 ≡ few.free = ap (λ (l : List ℕ). get_or l a 0) few.found ∙ (get_or_append_left new x.seen.free 0 a among ∙ get_or-append_seam few.later few.free few.earlier 0) in
    let reserved : ℕ = reserve (sizes_in k) in
    let found : ℕ = get_or y.seen.free a 0 in
    let more : reserved < found = many a (omega (arith, some, all)) in
    let free : ℕ = few.free in
    let less : free ≤ reserved = few.few in
    let same : found ≡ free = at in
    omega (arith, more, less, same)
