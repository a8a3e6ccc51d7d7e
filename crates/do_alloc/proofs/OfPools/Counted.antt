-- How many pools were found free, by the looks of one call and of several, and what is known of free places.
use Rattle.std.proofs.Common.{◌≡◌, ◌∙◌, ◌⊎◌, ⊎_elim, inl, inr, ℕ, ◌+◌, ◌-◌, ◌<◌, ◌≤◌, List, [], ◌∷◌, ◌++◌, Result, Ok, Err, IfOk, IfErr, arith, sym, ap, subst, append_assoc}
use Rattle.model_core.specs.Domains.{reserve}
use Rattle.heap_rule.specs.declared.config.Config.{Config}
use Rattle.heap_rule.specs.declared.view.DomainView.{DomainView}
use Rattle.heap_rule.specs.declared.view.Hunt.{Hunt}
use Rattle.heap_rule.specs.declared.view.Hunt.TheVariants.{Rests, Fills}
use Rattle.heap_rule.specs.declared.view.Spot.{Spot}
use Rattle.heap_rule.specs.declared.view.Swept.{Swept}
use Rattle.heap_rule.specs.Limits.{sizes_in}
use Rattle.heap_rule.specs.Pools.{hunting_below, hunting_free, limit_of}
use Rattle.step_pools.specs.Takes.{LeavesSpare, NoneFree}
use Rattle.gc_sweep.specs.Pruning.{Shortens}
use Rattle.gc_sweep.specs.Sweeping.{SweptAll, with_sweep}
use Rattle.gc_sweep.specs.Walks.{IsWalk}
use Rattle.do_alloc.proofs.OfPools.Searching.{below_of}
use Rattle.do_alloc.specs.Pools.Taken.{CountedFree, FoundFew, FoundNone, FoundOwn, HasPlace, Hunted, HuntedBelow, KnowsNone, Reserved, Sought, SweptFirst, Taken, Took, Unreserved}

-- nothing was looked at before
pub counted_later : (free : ℕ) (x v y : DomainView) → v.seen.free ≡ x.seen.free → CountedFree free v y → CountedFree free x y
counted_later free x v y same c = (c.0, c.1 ∙ ap (λ (l : List ℕ). free ∷ c.0 ++ l) same)

-- or it was
pub counted_again : (free before : ℕ) (x v y : DomainView) → CountedFree before x v → CountedFree free v y → CountedFree free x y
counted_again free before x v y b c = (c.0 ++ before ∷ b.0, c.1 ∙ (ap (λ (l : List ℕ). free ∷ c.0 ++ l) b.1 ∙ ap (λ (l : List ℕ). free ∷ l) (sym (append_assoc c.0 (before ∷ b.0) x.seen.free))))

pub reserved_later : (k : Config) (free : ℕ) (x v y : DomainView) → v.seen.free ≡ x.seen.free → Reserved k free v y → Reserved k free x y
reserved_later k free x v y same r = record { found = counted_later free x v y same r.found; few = r.few }

pub reserved_again : (k : Config) (free before : ℕ) (x v y : DomainView) → CountedFree before x v → Reserved k free v y → Reserved k free x y
reserved_again k free before x v y b r = record { found = counted_again free before x v y b r.found; few = r.few }

pub unreserved_later : (k : Config) (x v y : DomainView) → v.seen.free ≡ x.seen.free → Unreserved k v y → Unreserved k x y
unreserved_later k x v y same u = record { free = u.free; found = counted_later u.free x v y same u.found; more = u.more }

pub unreserved_again : (k : Config) (before : ℕ) (x v y : DomainView) → CountedFree before x v → Unreserved k v y → Unreserved k x y
unreserved_again k before x v y b u = record { free = u.free; found = counted_again u.free before x v y b u.found; more = u.more }

-- where no own pool of the class has a free place, none of the class is known to be free
pub knows_none : (k : Config) (x : DomainView) (class : ℕ) → LeavesSpare k x → NoneFree k x class → KnowsNone class x
knows_none k x class leaves none z is same = leaves z is (subst (NoneFree k x) (sym same) none)

-- and a search doesn't change what is known of that
pub known_before : (class : ℕ) (x y : DomainView) (hunt : Hunt) → Hunted x y hunt → KnowsNone class y → KnowsNone class x
known_before class x y hunt view none z is = none z (ap (λ (v : DomainView). v.seen.spare) view ∙ is)

-- the cursor was below the limit at a load, and past it at the add
pub none_twice : (k : Config) (x v w y : DomainView) (count found limit : ℕ) → limit ≡ limit_of k count → count ≤ limit + reserve (sizes_in k) → v.seen.free ≡ x.seen.free → w.seen.free ≡ (count - found) ∷ v.seen.free → y.seen.free ≡ (count - limit_of k count) ∷ w.seen.free → Reserved k (count - limit) x y
none_twice k x v w y count found limit is rest a b c = record {
  found = ((count - found) ∷ [], c ∙ (λ i. (count - sym is i) ∷ (b ∙ ap (λ (l : List ℕ). (count - found) ∷ l) a) i));
  few = let n : ℕ = limit in let r : ℕ = reserve (sizes_in k) in let h : count ≤ n + r = rest in let e : count - n ≤ r = omega arith in e;
}

-- A search found nothing, and all own pools that were left were swept before the next
module _ (k : Config) (class : ℕ) (x v w y : DomainView) (before : ℕ) (h : Hunted x v Rests) (none : Reserved k before x v) (left : v.own.swept.spot.pool < k.pools) (s : SweptAll k v w) where
  left_first : x.own.swept.spot.pool < k.pools
  left_first = subst (λ (q : Swept). q.spot.pool < k.pools) (ap (λ (z : DomainView). z.own.swept) h) left

  counted_swept : CountedFree before x w
  counted_swept = (none.found.0, ap (λ (z : DomainView). z.seen.free) s.view ∙ none.found.1)

  -- that look stands behind those of the next one
  few_found : (later : List ℕ) → y.seen.free ≡ later ++ w.seen.free → FoundFew k x y
  few_found later on = record { free = before; later = later; earlier = counted_swept.0; found = on ∙ (ap (λ (l : List ℕ). later ++ l) counted_swept.1 ∙ sym (append_assoc later (before ∷ counted_swept.0) x.seen.free)); few = none.few }

  -- whatever the next one found
  swept_first : (hunt : Hunt) → HuntedBelow w y hunt → FoundFew k x y → SweptFirst k x y hunt
  swept_first hunt next few = record {
    left = left_first;
    scarce = few;
    view = next ∙ (ap (λ (z : DomainView). hunting_below z y.own.swept.top y.own.looked hunt y.seen.free) s.view ∙ (ap (λ (z : DomainView). hunting_below (with_sweep z w) y.own.swept.top y.own.looked hunt y.seen.free) h ∙ (λ i. hunting_below (with_sweep x (sym next i)) y.own.swept.top y.own.looked hunt y.seen.free)));
    shortens = let t : Shortens (hunting_free x v.own.looked Rests v.seen.free) w = subst (λ (z : DomainView). Shortens z w) h s.shortens in
        subst (Shortens x) (sym next) (let u : Shortens x (hunting_below w y.own.swept.top y.own.looked hunt y.seen.free) = record { among = t.among; room = t.room; no_less = t.no_less } in u);
    places = s.places;
    swept = ap (λ (z : DomainView). z.seen.share.swept) next ∙ (s.swept ∙ ap (λ (z : DomainView). s.places ++ z.seen.share.swept) h);
    walk = subst (λ (q : Spot × Spot). IsWalk q.0 s.places q.1) (λ i. (ap (λ (z : DomainView). z.own.swept.spot) h i, sym (ap (λ (z : DomainView). z.own.swept.spot) next) i)) s.walk;
    done = all_done next;
  } where
    all_done : HuntedBelow w y hunt → k.pools ≤ y.own.swept.spot.pool
    all_done is = subst (λ (q : Swept). k.pools ≤ q.spot.pool) (sym (ap (λ (z : DomainView). z.own.swept) is)) s.done

  counted_own : FoundOwn k class w y → CountedFree before x y
  counted_own o = (counted_swept.0, o.unseen ∙ counted_swept.1)

  -- a place was found
  module _ (a : ℕ) (t : Took k class a w y) (place : FoundOwn k class w y ⊎ (KnowsNone class w × Unreserved k w y)) where
    pub taken_swept : Taken k class a x y
    taken_swept = record {
      pool = t.pool;
      slot = t.slot;
      inside = t.inside;
      below = t.below;
      address = t.address;
      view = inr (swept_first (Fills t.pool class t.slot []) t.view (⊎_elim
          (λ (o : FoundOwn k class w y). few_found [] o.unseen)
          (λ (u : KnowsNone class w × Unreserved k w y). few_found (u.1.free ∷ u.1.found.0) u.1.found.1)
          place));
      next = t.next;
    }

    pub place_swept : KnowsNone class x → HasPlace k class x y
    place_swept known = ⊎_elim
        (λ (o : FoundOwn k class w y). inr (inr (record {
          known = known;
          left = left_first;
          done = subst (λ (q : Swept). k.pools ≤ q.spot.pool) (sym (ap (λ (z : DomainView). z.own.swept) t.view)) s.done;
          free = before;
          reserved = record { found = counted_own o; few = none.few };
        })))
        (λ (u : KnowsNone class w × Unreserved k w y). inr (inl (known, unreserved_again k before x w y counted_swept u.1)))
        place

  -- or none was
  module _ (free : ℕ) (r : Reserved k free w y) where
    reserved_swept : Reserved k free x y
    reserved_swept = reserved_again k free before x w y counted_swept r

    sought_swept : Hunted w y Rests → Sought k x y Rests
    sought_swept next = inr (swept_first Rests (below_of w y Rests next) (few_found (free ∷ r.found.0) r.found.1))

    pub none_swept : KnowsNone class x → NoneFree k y class → Hunted w y Rests → FoundNone k class free x y
    none_swept known none_free next = record {
      reserved = reserved_swept;
      none_free = none_free;
      known = known;
      swept = subst (λ (q : Swept). k.pools ≤ q.spot.pool) (sym (ap (λ (z : DomainView). z.own.swept) next)) s.done;
      same = sought_swept next;
    }

-- facts of a call's answer give another
pub both_ok : {T E : Type 0} {P Q R : T → Type 0} (r : Result T E) → ((x : T) → P x → Q x → R x) → IfOk r P → IfOk r Q → IfOk r R
both_ok (Ok x) f p q = f x p q
both_ok (Err e) f p q = tt

pub three_err : {T E : Type 0} {P Q R S : E → Type 0} (r : Result T E) → ((e : E) → P e → Q e → R e → S e) → IfErr r P → IfErr r Q → IfErr r R → IfErr r S
three_err (Ok x) f p q s = tt
three_err (Err e) f p q s = f e p q s
