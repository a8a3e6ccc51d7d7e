-- What the steps on pools tell of a token's own data.
use Rattle.std.proofs.Common.{◌≡◌, true, ◌+◌, ◌^◌, ◌<◌, ◌≤◌, ℕ, zero, suc, List, [], ◌∷◌, ◌++◌, set, None, refl, sym, ap, ◌∙◌, subst, arith, lt_of_not-le, length-set, get_or-set_same, get_or-set_other, inl, inr}
use mathlib.Core.Logic.{dite}
use native.Mathlib.Decide.{dec_le, ℕ_discrete}
use Rattle.model_core.specs.Domains.{class_count, IsWithinLimits}
use Rattle.model_core.specs.declared.entry.Entry.{Entry}
use Rattle.heap_rule.specs.declared.change.Change.{Change}
use Rattle.heap_rule.specs.declared.config.Config.{Config}
use Rattle.heap_rule.specs.declared.view.Own.{Own}
use Rattle.heap_rule.specs.declared.view.DomainView.{DomainView}
use Rattle.heap_rule.specs.declared.view.Hunt.{Hunt}
use Rattle.heap_rule.specs.declared.view.Search.{Search}
use Rattle.heap_words.specs.declared.value.Value.TheVariants.{Nothing}
use Rattle.heap_rule.specs.declared.view.Hunt.TheVariants.{Rests}
use Rattle.heap_rule.specs.Changes.{changed, FitChanges}
use Rattle.heap_rule.specs.Limits.{sizes_in}
use Rattle.heap_rule.specs.Pools.{blocks_of, owned, owner_word, limit_of, first_search, search_at, hunting}
use Rattle.heap_rule.specs.Raw.{Closes, StepsOnce}
use Rattle.step_pools.specs.Writes.{pool_behind}
use Rattle.step_pools.proofs.Tops.{above_within, behind_within}
use Rattle.heap_words.specs.Remembered.Bounded.{Bounded}
use Rattle.heap_rule.specs.Token.{AllInHeap, Holds, LooksWithin, OwnFits, next_label}
use Rattle.heap_rule.proofs.ChangeLemmas.{changed_only}
use Rattle.heap_rule.proofs.Classes.{some_block}
use Rattle.step_pools.specs.Takes.{CursorTold, CursorAddTold, OwnedTold, OwnerTold, PlaceTold, MajorTold}
use Rattle.step_pools.specs.Listings.{CursorLookTold, KeepLookTold}
use Rattle.step_pools.specs.Ephemerons.{with_ephemeron, EpheTold, CanList, ListsEphemeron}
use Rattle.heap_rule.specs.Standing.{IsInHeap}
use Rattle.step_pools.specs.Writes.{looking, top_above, CanLook, LooksFrom, PassesPool, PassesPlace, CanLabel, Labels}
use Rattle.heap_rule.proofs.Closes.{front_same}
use Rattle.model_core.specs.Fronts.{IsFrontOf}
use Rattle.model_core.specs.declared.reply.Applied.TheVariants.{Replied}
use Rattle.model_core.specs.declared.reply.Reply.TheVariants.{Block}
use Rattle.heap_rule.proofs.Fits.{fits_held, fits_with, looked_fits, swept_fits}

-- loads and adds of the cursor leave the token's own data
pub cursor_own : (k : Config) (count : ℕ) (x : DomainView) (found : ℕ) (y : DomainView) → CursorTold k count x found y → y.own ≡ x.own
cursor_own k count x found y told = dite (dec_le (limit_of k count) found)
    (λ past. ap (λ (z : DomainView). z.own) (told.past past))
    (λ not_past. ap (λ (z : DomainView). z.own) (told.below (lt_of_not-le not_past)))

pub cursor_add_own : (k : Config) (count class : ℕ) (x : DomainView) (found : ℕ) (y : DomainView) → CursorAddTold k count class x found y → y.own ≡ x.own
cursor_add_own k count class x found y told = dite (dec_le (limit_of k count) found)
    (λ past. ap (λ (z : DomainView). z.own) (told.past past))
    (λ not_past. ap (λ (z : DomainView). z.own) (told.below (lt_of_not-le not_past)).view)

-- and the front
pub cursor_front : (k : Config) (count : ℕ) (x : DomainView) (found : ℕ) (y : DomainView) → CursorTold k count x found y → IsFrontOf x.own.number y.seen.front x.seen.front
cursor_front k count x found y told = dite (dec_le (limit_of k count) found)
    (λ past. front_same x y (ap (λ (z : DomainView). z.seen.front) (told.past past)))
    (λ not_past. front_same x y (ap (λ (z : DomainView). z.seen.front) (told.below (lt_of_not-le not_past))))

pub cursor_add_front : (k : Config) (count class : ℕ) (x : DomainView) (found : ℕ) (y : DomainView) → CursorAddTold k count class x found y → IsFrontOf x.own.number y.seen.front x.seen.front
cursor_add_front k count class x found y told = dite (dec_le (limit_of k count) found)
    (λ past. front_same x y (ap (λ (z : DomainView). z.seen.front) (told.past past)))
    (λ not_past. front_same x y (ap (λ (z : DomainView). z.seen.front) (told.below (lt_of_not-le not_past)).view))

-- so does a look at the cursor by domain 0
pub cursor_look_own : (k : Config) (count : ℕ) (x : DomainView) (found : ℕ) (y : DomainView) → CursorLookTold k count x found y → y.own ≡ x.own
cursor_look_own k count x found y told = dite (dec_le found (limit_of k count))
    (λ low. ap (λ (z : DomainView). z.own) (told.low low))
    (λ high. ap (λ (z : DomainView). z.own) (told.high (lt_of_not-le high)))

pub cursor_look_front : (k : Config) (count : ℕ) (x : DomainView) (found : ℕ) (y : DomainView) → CursorLookTold k count x found y → IsFrontOf x.own.number y.seen.front x.seen.front
cursor_look_front k count x found y told = dite (dec_le found (limit_of k count))
    (λ low. front_same x y (ap (λ (z : DomainView). z.seen.front) (told.low low)))
    (λ high. front_same x y (ap (λ (z : DomainView). z.seen.front) (told.high (lt_of_not-le high))))

pub keep_look_own : (k : Config) (count : ℕ) (x : DomainView) (found : ℕ) (y : DomainView) → KeepLookTold k count x found y → y.own ≡ x.own
keep_look_own k count x found y told = dite (dec_le found (limit_of k count))
    (λ low. ap (λ (z : DomainView). z.own) (told.low low))
    (λ high. ap (λ (z : DomainView). z.own) (told.high (lt_of_not-le high)))

pub keep_look_front : (k : Config) (count : ℕ) (x : DomainView) (found : ℕ) (y : DomainView) → KeepLookTold k count x found y → IsFrontOf x.own.number y.seen.front x.seen.front
keep_look_front k count x found y told = dite (dec_le found (limit_of k count))
    (λ low. front_same x y (ap (λ (z : DomainView). z.seen.front) (told.low low)))
    (λ high. front_same x y (ap (λ (z : DomainView). z.seen.front) (told.high (lt_of_not-le high))))

-- a step at which the domain looks to another place
looking_once : (k : Config) (x y : DomainView) (spots : List Search) (hunt : Hunt) → y ≡ hunting x spots hunt → StepsOnce k x y
looking_once k x y spots hunt is _ = inl (record {
  front = front_same x y (ap (λ (z : DomainView). z.seen.front) is);
  registers = ap (λ (z : DomainView). z.own.registers) is;
  used = ap (λ (z : DomainView). z.own.used) is;
  serial = ap (λ (z : DomainView). z.own.serial) is;
})

-- the places looked at, one of them further on
looks_set : (k : Config) (own : Own) (class : ℕ) (spot : Search) → LooksWithin k own.looked → spot.pool ≤ k.pools → spot.slot < blocks_of class → LooksWithin k (set own.looked class spot)
looks_set k own class spot l low small = record {
  wide = length-set own.looked class spot ∙ l.wide;
  within = λ c few. dite (ℕ_discrete c class)
      (λ same. let is : search_at (set own.looked class spot) c ≡ spot = ap (λ (m : ℕ). search_at (set own.looked class spot) m) same ∙ get_or-set_same own.looked class spot first_search (let w = l.wide in omega arith) in
      subst (λ (z : Search). (z.pool ≤ k.pools) × (z.slot < blocks_of c)) (sym is) (low, subst (λ (n : ℕ). spot.slot < blocks_of n) (sym same) small))
      (λ other. subst (λ (z : Search). (z.pool ≤ k.pools) × (z.slot < blocks_of c)) (sym (get_or-set_other own.looked class c spot first_search other)) (l.within c few));
}

-- and the token's own data fits again
pub looking_fits : (k : Config) (x y : DomainView) (class : ℕ) (spot : Search) → OwnFits k x.own → y.own ≡ looking x.own class spot → spot.pool ≤ k.pools → spot.slot < blocks_of class → OwnFits k y.own
looking_fits k x y class spot fits is low small = subst (OwnFits k) (sym is) (looked_fits k x.own (set x.own.looked class spot) (looks_set k x.own class spot fits.looked low small) fits)

-- the pools are few
few_pools : (k : Config) (pool : ℕ) → IsWithinLimits (sizes_in k) → pool < k.pools → pool < 2048
few_pools k pool limits inside = let all = limits.pools in let p : ℕ = k.pools in let i : pool < p = inside in omega arith

pub owned_closes : (k : Config) (x : DomainView) (new pool class : ℕ) → pool < k.pools → class < class_count → IsWithinLimits (sizes_in k) → Closes k x new (OwnedTold pool class) (λ _. CanLook pool class) (LooksFrom pool class)
owned_closes k x new pool class inside few limits y fits told =
    let own = ap (λ (z : DomainView). z.own) told.view in record {
      can_write = (few_pools k pool limits inside, few);
      written = λ after is. own ∙ sym is;
      fits = let spot : Search = record { pool = pool; slot = 0; only = true } in
          subst (OwnFits k) (sym own) (fits_with k x.own (set x.own.looked class spot) x.own.prepared x.own.pending x.own.ephemerons (record x.own.swept { top = top_above x.own.swept.top pool }) (looks_set k x.own class spot fits.looked (let i = inside in omega arith) (some_block class few).0) fits.prepared fits.pending fits.ephemerons
          (record { pool = fits.swept.pool; slot = fits.swept.slot; top = above_within k.pools x.own.swept.top pool inside fits.swept.top }) fits);
      once = λ _. inl (record { front = front_same x y (ap (λ (z : DomainView). z.seen.front) told.view); registers = ap (λ (z : DomainView). z.own.registers) told.view; used = ap (λ (z : DomainView). z.own.used) told.view; serial = ap (λ (z : DomainView). z.own.serial) told.view });
    }

pub owner_closes : (k : Config) (x : DomainView) (found pools pool class : ℕ) → pools ≡ k.pools → pool < k.pools → class < class_count → IsWithinLimits (sizes_in k) → Closes k x found (OwnerTold k pool class) (λ _. CanLook pool class) (PassesPool pools pool class found)
owner_closes k x found pools pool class all inside few limits = subst (λ (n : ℕ). Closes k x found (OwnerTold k pool class) (λ _. CanLook pool class) (PassesPool n pool class found)) (sym all) (λ y fits told. record {
  can_write = (few_pools k pool limits inside, few);
  written = λ after is. dite (ℕ_discrete found (owner_word (owned x.own.number class)))
      (λ own. ap (λ (z : DomainView). z.own) (told.own own) ∙ sym (is.own_pool own))
      (λ other. ap (λ (z : DomainView). z.own) (told.other other) ∙ sym (is.other other));
  fits = dite (ℕ_discrete found (owner_word (owned x.own.number class)))
      (λ own. subst (OwnFits k) (sym (ap (λ (z : DomainView). z.own) (told.own own))) fits)
      (λ other. looking_fits k x y class (pool_behind k.pools x.own.swept.top pool (search_at x.own.looked class)) fits (ap (λ (z : DomainView). z.own) (told.other other)) (behind_within k.pools x.own.swept.top pool (search_at x.own.looked class) inside) (some_block class few).0);
  once = dite (ℕ_discrete found (owner_word (owned x.own.number class)))
      (λ own. looking_once k x y _ _ (told.own own))
      (λ other. looking_once k x y _ _ (told.other other));
})

pub place_closes : (k : Config) (x : DomainView) (found pools pool class slot : ℕ) → pools ≡ k.pools → pool < k.pools → class < class_count → slot < blocks_of class → IsWithinLimits (sizes_in k)
    → Closes k x found (PlaceTold k pool class slot) (λ _. CanLook pool class × (slot < blocks_of class)) (PassesPlace pools pool class slot found)
place_closes k x found pools pool class slot all inside few low limits = subst (λ (n : ℕ). Closes k x found (PlaceTold k pool class slot) (λ _. CanLook pool class × (slot < blocks_of class)) (PassesPlace n pool class slot found)) (sym all) (λ y fits told. record {
  can_write = ((few_pools k pool limits inside, few), low);
  written = λ after is. dite (ℕ_discrete found 0)
      (λ free. ap (λ (z : DomainView). z.own) (told.free free) ∙ sym (is.free free))
      (λ taken. dite (dec_le (blocks_of class) (slot + 1))
      (λ last. ap (λ (z : DomainView). z.own) (told.last taken last) ∙ sym (is.last taken last))
      (λ more. ap (λ (z : DomainView). z.own) (told.full taken (lt_of_not-le more)) ∙ sym (is.full taken (lt_of_not-le more))));
  fits = dite (ℕ_discrete found 0)
      (λ free. subst (OwnFits k) (sym (ap (λ (z : DomainView). z.own) (told.free free))) fits)
      (λ taken. dite (dec_le (blocks_of class) (slot + 1))
      (λ last. looking_fits k x y class (pool_behind k.pools x.own.swept.top pool (search_at x.own.looked class)) fits (ap (λ (z : DomainView). z.own) (told.last taken last)) (behind_within k.pools x.own.swept.top pool (search_at x.own.looked class) inside) (some_block class few).0)
      (λ more. looking_fits k x y class (record { pool = pool; slot = slot + 1; only = (search_at x.own.looked class).only }) fits (ap (λ (z : DomainView). z.own) (told.full taken (lt_of_not-le more))) (let i = inside in omega arith) (lt_of_not-le more)));
  once = dite (ℕ_discrete found 0)
      (λ free. looking_once k x y _ _ (told.free free))
      (λ taken. dite (dec_le (blocks_of class) (slot + 1))
      (λ last. looking_once k x y _ _ (told.last taken last))
      (λ more. looking_once k x y _ _ (told.full taken (lt_of_not-le more))));
})

-- the domain after the head, by its registers
pub major_rest : (k : Config) (e : Entry) (changes : List Change) (x y : DomainView) → MajorTold k e changes x y → y ≡ record {
  own = record x.own { registers = (changed Nothing changes x.own).registers; serial = x.own.serial + 1 };
  seen = record x.seen { front = y.seen.front; hunt = Rests; spare = None };
}
major_rest k e changes x y told = told.view ∙ ap (λ (own : Own). record { own = record own { serial = x.own.serial + 1 }; seen = record x.seen { front = y.seen.front; hunt = Rests; spare = None } }) (changed_only Nothing changes x.own)

-- what fits a token fits it with other registers, another count of labels and other ephemerons
labelled_fits : (k : Config) (own : Own) (registers : List _) (serial : ℕ) (ephemerons : Bounded ℕ) → OwnFits k own → Holds k registers → AllInHeap k ephemerons.items → OwnFits k (record own { registers = registers; serial = serial; ephemerons = ephemerons })
labelled_fits k own registers serial ephemerons fits holds listed = let swept : OwnFits k (record own { ephemerons = ephemerons }) = swept_fits k own ephemerons own.swept listed fits.swept fits in
    fits_held k (record own { ephemerons = ephemerons }) own.used serial registers own.remembered own.finalisers fits.used holds fits.remembered fits.remembered_room fits.finalisers swept

-- the head makes the changes, and counts the label
pub major_closes : (k : Config) (x : DomainView) (new : ℕ) (e : Entry) (changes : List Change) → FitChanges changes → x.own.serial + 1 < 2 ^ 32
    → Closes k x new (λ y _ z. MajorTold k e changes y z) (CanLabel changes) (Labels changes)
major_closes k x new e changes fit serial y fits told =
    let own = ap (λ (z : DomainView). z.own) told.view in
    let rest = ap (λ (z : DomainView). z.own) (major_rest k e changes x y told) in record {
      can_write = (fit, serial);
      written = λ after is. own ∙ sym is;
      fits = subst (OwnFits k) (sym rest) (labelled_fits k x.own (changed Nothing changes x.own).registers (x.own.serial + 1) x.own.ephemerons fits (subst (λ (o : Own). Holds k o.registers) rest told.holds) fits.ephemerons);
      once = λ _. inr (record { entry = e; answer = Replied (Block (next_label x)); answers = told.answers });
    }

-- one more address of the heap
in_heap_more : (k : Config) (at : ℕ) (l : List ℕ) → IsInHeap k at → AllInHeap k l → AllInHeap k (l ++ at ∷ [])
in_heap_more k at [] inside all zero a e = subst (IsInHeap k) (let same : at ≡ a = cc in same) inside
in_heap_more k at [] inside all (suc i) a e = cc
in_heap_more k at (x ∷ l) inside all zero a e = all 0 a e
in_heap_more k at (x ∷ l) inside all (suc i) a e = in_heap_more k at l inside (λ j b got. all (suc j) b got) i a e

-- the domain after the head of an ephemeron, by its registers
pub ephe_rest : (k : Config) (e : Entry) (at : ℕ) (changes : List Change) (x y : DomainView) → EpheTold k e at changes x y → y ≡ record {
  own = record x.own { registers = (changed Nothing changes x.own).registers; serial = x.own.serial + 1; ephemerons = with_ephemeron at x.own.ephemerons };
  seen = record x.seen { front = y.seen.front; hunt = Rests; spare = None };
}
ephe_rest k e at changes x y told = told.view ∙ ap (λ (own : Own). record { own = record own { serial = x.own.serial + 1; ephemerons = with_ephemeron at x.own.ephemerons }; seen = record x.seen { front = y.seen.front; hunt = Rests; spare = None } }) (changed_only Nothing changes x.own)

-- the head of an ephemeron makes the changes, counts the label and lists the ephemeron
pub ephe_closes : (k : Config) (x : DomainView) (at new : ℕ) (e : Entry) (changes : List Change) → IsInHeap k at → CanList changes x.own
    → Closes k x new (λ y _ z. EpheTold k e at changes y z) (CanList changes) (ListsEphemeron at changes)
ephe_closes k x at new e changes inside can y fits told =
    let own = ap (λ (z : DomainView). z.own) told.view in
    let rest = ap (λ (z : DomainView). z.own) (ephe_rest k e at changes x y told) in record {
      can_write = can;
      written = λ after is. own ∙ sym is;
      fits = subst (OwnFits k) (sym rest) (labelled_fits k x.own (changed Nothing changes x.own).registers (x.own.serial + 1) (with_ephemeron at x.own.ephemerons) fits (subst (λ (o : Own). Holds k o.registers) rest told.holds) (in_heap_more k at x.own.ephemerons.items inside fits.ephemerons));
      once = λ _. inr (record { entry = e; answer = Replied (Block (next_label x)); answers = told.answers });
    }
