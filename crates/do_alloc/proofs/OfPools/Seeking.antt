-- A search for a free place before which own pools may have been swept.
use Rattle.heap_words.specs.Remembered.Bounded.{Bounded}
use Rattle.std.proofs.Common.{IsTrue, length, ◌+◌, ◌≡◌, ◌∙◌, ℕ, ◌≤◌, arith, inl, inr, ⊎_elim, refl, ap, sym, subst}
use Rattle.heap_rule.specs.declared.config.Config.{Config}
use Rattle.heap_rule.specs.declared.view.DomainView.{DomainView}
use Rattle.heap_rule.specs.declared.view.Hunt.{Hunt}
use Rattle.heap_rule.specs.declared.view.Swept.{Swept}
use Rattle.heap_rule.specs.Cycles.{seen_by}
use Rattle.heap_rule.specs.Pools.{hunting_below}
use Rattle.gc_sweep.specs.Pruning.{Shortens}
use Rattle.gc_sweep.specs.Sweeping.{with_sweep}
use Rattle.do_alloc.proofs.OfPools.Searching.{below_of}
use Rattle.do_alloc.specs.Pools.Taken.{Hunted, HuntedBelow, MaySweep, Searched, Sought, SoughtBelow, SweptFirst, SweptNone, SweptRest}

-- a search alone is one
hunted_searched : (x y : DomainView) (hunt : Hunt) → HuntedBelow x y hunt → Searched x y hunt
hunted_searched x y hunt view = view ∙ (λ i. hunting_below (with_sweep x (sym view i)) y.own.swept.top y.own.looked hunt y.seen.free)

-- where no place was found no pool has become the domain's own
sought_below : (k : Config) (x y : DomainView) (hunt : Hunt) → Sought k x y hunt → SoughtBelow k x y hunt
sought_below k x y hunt s = ⊎_elim (λ (h : Hunted x y hunt). inl (below_of x y hunt h)) (λ (f : SweptFirst k x y hunt). inr f) s

-- what a search changes
pub below_view : (k : Config) (x y : DomainView) (hunt : Hunt) → SoughtBelow k x y hunt → Searched x y hunt
below_view k x y hunt s = ⊎_elim (λ (h : HuntedBelow x y hunt). hunted_searched x y hunt h) (λ (f : SweptFirst k x y hunt). f.view) s

-- by it alone the list stays
pub hunted_shortens : (x y : DomainView) (hunt : Hunt) → HuntedBelow x y hunt → Shortens x y
hunted_shortens x y hunt view = subst (Shortens x) (sym view) (let s : Shortens x (hunting_below x y.own.swept.top y.own.looked hunt y.seen.free) = record { among = λ a listed. listed; room = refl; no_less = let n : ℕ = x.own.ephemerons.room in let e : n ≤ n = omega arith in e } in s)

-- the list of ephemerons is no longer than before
pub below_shortens : (k : Config) (x y : DomainView) (hunt : Hunt) → SoughtBelow k x y hunt → Shortens x y
below_shortens k x y hunt s = ⊎_elim (λ (h : HuntedBelow x y hunt). hunted_shortens x y hunt h) (λ (f : SweptFirst k x y hunt). f.shortens) s

-- so where it had room it has
pub more_room : (k : Config) (x y : DomainView) (hunt : Hunt) → SoughtBelow k x y hunt → 1 ≤ x.own.ephemerons.room → 1 ≤ y.own.ephemerons.room
more_room k x y hunt s some =
    let n : ℕ = x.own.ephemerons.room in let m : ℕ = y.own.ephemerons.room in let no_less : n ≤ m = (below_shortens k x y hunt s).no_less in let has : 1 ≤ n = some in let e : 1 ≤ m = omega arith in e

-- and own pools were swept, or none
pub below_sweep : (k : Config) (x y : DomainView) (hunt : Hunt) → SoughtBelow k x y hunt → MaySweep k x y
below_sweep k x y hunt s = record {
  shortens = below_shortens k x y hunt s;
  whole = ⊎_elim (λ (h : HuntedBelow x y hunt). inl (record { listed = ap (λ (z : DomainView). z.own.ephemerons) h; next = ap (λ (z : DomainView). z.own.swept) h })) (λ (f : SweptFirst k x y hunt). inr (record { left = f.left; done = f.done })) s;
}

-- and still where the list and the next place to be swept stay
pub may_still : (k : Config) (x y z : DomainView) → y.own.ephemerons ≡ z.own.ephemerons → y.own.swept ≡ z.own.swept → MaySweep k x y → MaySweep k x z
may_still k x y z listed next m = record {
  shortens = record {
    among = subst (λ (b : Bounded ℕ). (a : ℕ) → IsTrue (seen_by b.items a) → IsTrue (seen_by x.own.ephemerons.items a)) listed m.shortens.among;
    room = subst (λ (b : Bounded ℕ). b.room + length b.items ≡ x.own.ephemerons.room + length x.own.ephemerons.items) listed m.shortens.room;
    no_less = subst (λ (b : Bounded ℕ). x.own.ephemerons.room ≤ b.room) listed m.shortens.no_less;
  };
  whole = ⊎_elim
      (λ (n : SweptNone x y). inl (record { listed = sym listed ∙ n.listed; next = sym next ∙ (n.next ∙ ap (λ (s : Swept). record x.own.swept { top = s.top }) next) }))
      (λ (r : SweptRest k x y). inr (record { left = r.left; done = subst (λ (s : Swept). k.pools ≤ s.spot.pool) next r.done }))
      m.whole;
}

-- and what one changes that found no place
pub sought_view : (k : Config) (x y : DomainView) (hunt : Hunt) → Sought k x y hunt → Searched x y hunt
sought_view k x y hunt s = below_view k x y hunt (sought_below k x y hunt s)

pub sought_shortens : (k : Config) (x y : DomainView) (hunt : Hunt) → Sought k x y hunt → Shortens x y
sought_shortens k x y hunt s = below_shortens k x y hunt (sought_below k x y hunt s)

pub sought_sweep : (k : Config) (x y : DomainView) (hunt : Hunt) → Sought k x y hunt → MaySweep k x y
sought_sweep k x y hunt s = below_sweep k x y hunt (sought_below k x y hunt s)
