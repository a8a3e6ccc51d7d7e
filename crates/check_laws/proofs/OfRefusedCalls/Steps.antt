-- What the conditions of steps refuse: where such a condition holds, the body that is named didn't come there.
use Rattle.std.proofs.Common.{◌≡◌, ◌≢◌, ◌∙◌, ℕ, ◌+◌, ◌*◌, ◌<◌, ◌≤◌, Bool, true, false, Some, [], List, length, sym, ap, ⊎_elim, arith}
use Rattle.std.proofs.lemmas.Option.{same_Some}
use Rattle.heap_words.specs.declared.value.Value.TheVariants.{Ref}
use Rattle.heap_rule.specs.declared.change.Change.{Change}
use Rattle.heap_rule.specs.declared.config.Config.{Config}
use Rattle.heap_rule.specs.declared.phase.Kind.TheVariants.{Decide, Lasts}
use Rattle.heap_rule.specs.declared.phase.Stage.TheVariants.{In}
use Rattle.heap_rule.specs.declared.view.DomainView.{DomainView}
use Rattle.heap_rule.specs.declared.view.Known.TheVariants.{Marked}
use Rattle.heap_rule.specs.declared.view.Listing.{Listing}
use Rattle.heap_rule.specs.declared.view.Reaping.TheVariants.{Inside, AtGarbage}
use Rattle.heap_rule.specs.declared.view.RegisteredLast.{RegisteredLast}
use Rattle.heap_rule.specs.Beside.{IsKnown, IsPaid}
use Rattle.heap_rule.specs.Changes.{value_at}
use Rattle.heap_rule.specs.Places.{IsOldAt}
use Rattle.heap_rule.specs.Pools.{blocks_of, no_listing, search_at}
use Rattle.heap_rule.specs.Standing.{Acts}
use Rattle.step_run.specs.Fields.Stores.{FieldStoreMay}
use Rattle.step_run.specs.Exchange.Exchanges.{ExchangeMay}
use Rattle.step_marks.specs.Beside.Marking.{PoolMay, ScannedMay}
use Rattle.step_marks.specs.Marking.Marking.{fields_in}
use Rattle.step_sweep.specs.Freeing.{FreeMay}
use Rattle.step_sweep.specs.Returning.{IsOwn, ReturnMay, TopTold}
use Rattle.step_ephemerons.specs.Looks.Emptying.{CleanEndMay}
use Rattle.step_ephemerons.specs.Wipes.Wiping.{WipeDataMay}
use Rattle.step_finalisers.specs.Looking.{LastLookMay}
use Rattle.step_pools.specs.Takes.{CopyDrawMay}

-- no field is overwritten beside a cycle before what it refers to is darkened
pub no_overwriting_before_darkening : (k : Config) (x : DomainView) (at new : ℕ) (remembers : Bool) (changes : List Change) (d block i item : ℕ) (m : FieldStoreMay k x at new remembers changes d block i item) → x.seen.share.armed ≡ Some true → (IsPaid x.seen.share.known m.target.address i → ⊥) → ⊥
no_overwriting_before_darkening k x at new remembers changes d block i item m armed unpaid = ⊎_elim
    (λ (over : x.seen.share.armed ≡ Some false). let e : Some true ≡ Some false = sym armed ∙ over in cc)
    (λ (paid : IsPaid x.seen.share.known m.target.address i). unpaid paid)
    m.barrier

-- nor is one exchanged before the block is known to be marked that is expected there
pub no_exchange_before_darkening : (k : Config) (x : DomainView) (at old new : ℕ) (remembers : Bool) (changes : List Change) (d block i expected item b : ℕ) → ExchangeMay k x at old new remembers changes d block i expected item → x.seen.share.armed ≡ Some true → value_at x.own.registers expected ≡ Ref b → IsOldAt k b → (IsKnown x.seen.share.known (Marked b) → ⊥) → ⊥
no_exchange_before_darkening k x at old new remembers changes d block i expected item b m armed is low unknown = ⊎_elim
    (λ (over : x.seen.share.armed ≡ Some false). let e : Some true ≡ Some false = sym armed ∙ over in cc)
    (λ (marked : (c : ℕ) → value_at x.own.registers expected ≡ Ref c → IsOldAt k c → IsKnown x.seen.share.known (Marked c)). unknown (marked b is low))
    m.barrier

-- no command is made by a domain that owes the darkening of what a weak read has brought
pub no_command_owes_a_darkening : (k : Config) (x : DomainView) (r : ℕ) → Acts k x → x.seen.share.weak ≡ Some r → ⊥
no_command_owes_a_darkening k x r acts owes = let e = sym owes ∙ acts.paid in cc

-- no block is marked as scanned before what each of its fields refers to is marked
pub no_scan_ends_before_the_last_field : (k : Config) (x : DomainView) (at new i : ℕ) (m : ScannedMay k x at new) → i < fields_in m.shape → (IsPaid x.seen.share.known at i → ⊥) → ⊥
no_scan_ends_before_the_last_field k x at new i m inside unpaid = unpaid (m.fields i inside)

-- nothing is freed where no garbage was found
pub no_live_block_is_freed : (x : DomainView) (at pool class slot p c : ℕ) → FreeMay x at pool class slot → x.seen.share.reaping ≡ Inside p c → ⊥
no_live_block_is_freed x at pool class slot p c m live = let e : Inside p c ≡ AtGarbage pool class slot = sym live ∙ m.found in cc

-- nor while a listed ephemeron may be garbage
pub nothing_listed_is_freed : (x : DomainView) (at pool class slot : ℕ) → FreeMay x at pool class slot → x.own.swept.listed < length x.own.ephemerons.items → ⊥
nothing_listed_is_freed x at pool class slot m more = let all = m.pruned in let n : ℕ = length x.own.ephemerons.items in omega (arith, all, more)

-- no pool is given back while a place of it wasn't found free
pub no_pool_with_a_block_is_given_back : (k : Config) (x : DomainView) (at pool class : ℕ) → ReturnMay k x at pool class → x.seen.share.vacant < blocks_of class → ⊥
no_pool_with_a_block_is_given_back k x at pool class m few = let all = m.all in let n : ℕ = blocks_of class in omega (arith, all, few)

-- nor while the list of free pools names any
pub no_pool_is_given_back_beside_a_list : (k : Config) (x : DomainView) (at pool class : ℕ) (l : Listing) → ReturnMay k x at pool class → x.seen.listing ≡ Some l → l.listed ≢ 0 → ⊥
no_pool_is_given_back_beside_a_list k x at pool class l m listing names = names (ap (λ (z : Listing). z.listed) (sym (same_Some no_listing l (sym m.void ∙ listing))))

-- the top sinks past no own pool
pub no_own_pool_is_left_behind : (pool class : ℕ) (x y : DomainView) (found : ℕ) → TopTold pool x found y → IsOwn class x.own found → y.own.swept.top < x.own.swept.top → ⊥
no_own_pool_is_left_behind pool class x y found told own sunk = ⊎_elim
    (λ u. let t : ℕ = x.own.swept.top in let n : ℕ = y.own.swept.top in let same : n ≡ t = ap (λ (z : DomainView). z.own.swept.top) u.1 in omega (arith, same, sunk))
    (λ u. u.0 class own)
    told.told

-- no cleaning ends before the last key of an ephemeron is done, whether keys were emptied or not
pub no_key_is_left : (x : DomainView) (at : ℕ) (m : CleanEndMay x at) → m.cleaning.done < m.cleaning.count → ⊥
no_key_is_left x at m left = let all = m.all in omega (arith, all, left)

pub no_key_is_left_by_a_wipe : (x : DomainView) (at : ℕ) (m : WipeDataMay x at) → m.cleaning.done < m.cleaning.count → ⊥
no_key_is_left_by_a_wipe x at m left = let all = m.all in omega (arith, all, left)

-- the datum of which a key was emptied is emptied too, and no other
pub no_datum_outlives_a_key : (x : DomainView) (at : ℕ) (m : CleanEndMay x at) → m.cleaning.emptied ≢ [] → ⊥
no_datum_outlives_a_key x at m some = some m.none

pub no_datum_goes_while_its_keys_live : (x : DomainView) (at : ℕ) (m : WipeDataMay x at) → m.cleaning.emptied ≡ [] → ⊥
no_datum_goes_while_its_keys_live x at m none = m.some none

-- no `finalise_last` is decided where those of `finalise` are
pub no_last_is_decided_with_the_others : (x : DomainView) (at i marked : ℕ) (r : RegisteredLast) → LastLookMay x at i marked r → x.seen.stage ≡ In Decide → ⊥
no_last_is_decided_with_the_others x at i marked r m stage = let e : In Decide ≡ In Lasts = sym stage ∙ m.stage in cc

-- no pool is drawn for a copy while own pools of the class weren't all looked through
pub no_pool_is_drawn_before_a_look : (k : Config) (x : DomainView) (class : ℕ) → CopyDrawMay k x class → (search_at x.own.looked class).pool < k.pools → ⊥
no_pool_is_drawn_before_a_look k x class m left = let none = m.none_free in omega (arith, none, left)

-- where a slice has scanned nothing, and looked at nothing in vain, it has taken no hint. The premise is `taken` of `CountsSlice`, which `slice` promises. A look takes its hint by value, so each hint that is taken is looked at
pub no_hint_is_taken_without_a_look : (taken_before taken_after vain_before vain_after count : ℕ) → taken_after + vain_before ≤ taken_before + count + vain_after → count ≡ 0 → vain_after ≡ vain_before → taken_before < taken_after → ⊥
no_hint_is_taken_without_a_look taken_before taken_after vain_before vain_after count says none same more = omega (arith, says, none, same, more)

-- a look at an address is one into the pool in which it lies, so what it finds in vain is no block there
pub no_look_goes_to_another_pool : (k : Config) (x : DomainView) (at word pool other : ℕ) → PoolMay k x at word pool → other < k.pools → other * 4096 < at → at ≤ other * 4096 + 4096 → pool ≢ other → ⊥
no_look_goes_to_another_pool k x at word pool other m inside above below away =
    let n : ℕ = k.pools in
    let few : other < n = inside in ⊎_elim
    (λ (here : (pool * 4096 < at) × (at ≤ pool * 4096 + 4096)). let low = here.0 in let high = here.1 in away (omega (arith, low, high, above, below)))
    (λ (behind : n * 4096 < at). omega (arith, behind, below, few))
    m.lies
