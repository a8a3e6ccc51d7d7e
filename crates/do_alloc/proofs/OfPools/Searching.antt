-- Steps of a search one behind the other.
use Rattle.model_core.specs.Domains.{class_count, reserve}
use Rattle.std.proofs.Common.{◌≡◌, ◌≢◌, ◌∙◌, ℕ, ◌+◌, ◌-◌, ◌<◌, ◌≤◌, List, length, set, [], ◌∷◌, Some, None, Option, true, refl, ap, sym, subst, arith, lt_of_not-le, get_or-set_same}
use mathlib.Core.Logic.{dite}
use native.Mathlib.Decide.{dec_le}
use Rattle.heap_rule.specs.declared.view.DomainView.{DomainView}
use Rattle.heap_rule.specs.declared.view.Hunt.{Hunt}
use Rattle.heap_rule.specs.declared.view.Hunt.TheVariants.{Rests, Counts, Asks, Draws, Walks, Fills}
use Rattle.heap_rule.specs.declared.view.Search.{Search}
use Rattle.heap_rule.specs.declared.config.Config.{Config}
use Rattle.heap_rule.specs.Limits.{sizes_in}
use Rattle.heap_rule.specs.Pools.{Takes, owned, owner_word, blocks_of, place_in, drawn_in, limit_of, first_search, place_of, search_at, hunting, hunting_below, hunting_free}
use Rattle.step_pools.specs.Takes.{with_hunt, NoneFree, ListedTold, CursorTold, Drew, OwnerMay, OwnedTold, ListTold, OwnerTold, PlaceTold}
use Rattle.heap_rule.proofs.Classes.{some_block}
use Rattle.step_pools.specs.Writes.{pool_behind}
use Rattle.step_pools.proofs.Tops.{behind_later}
use Rattle.do_alloc.specs.Pools.Taken.{Hunted, HuntedBelow, HasDrawn, DrewPool, Unreserved, Took, Missed, WentOn}

pub hunted_twice : (x y z : DomainView) (g h : Hunt) → Hunted x y g → Hunted y z h → Hunted x z h
hunted_twice x y z g h a b = b ∙ ap (λ (v : DomainView). hunting_free v z.own.looked h z.seen.free) a

pub hunted_free : (x y : DomainView) (looked : List Search) (h : Hunt) (free : List ℕ) → y ≡ hunting_free x looked h free → Hunted x y h
hunted_free x y looked h free e = e ∙ (λ i. hunting_free x (ap (λ (z : DomainView). z.own.looked) (sym e) i) h (ap (λ (z : DomainView). z.seen.free) (sym e) i))

pub hunted_of : (x y : DomainView) (looked : List Search) (h : Hunt) → y ≡ hunting x looked h → Hunted x y h
hunted_of x y looked h e = hunted_free x y looked h x.seen.free e

-- where the domain has as many pools as before, or more
pub below_of : (x y : DomainView) (h : Hunt) → Hunted x y h → HuntedBelow x y h
below_of x y h e = e ∙ (λ i. hunting_below x (ap (λ (z : DomainView). z.own.swept.top) (sym e) i) y.own.looked h y.seen.free)

pub below_after : (x y z : DomainView) (g h : Hunt) → Hunted x y g → HuntedBelow y z h → HuntedBelow x z h
below_after x y z g h a b = b ∙ ap (λ (v : DomainView). hunting_below v z.own.swept.top z.own.looked h z.seen.free) a

pub below_free : (x y : DomainView) (top : ℕ) (looked : List Search) (h : Hunt) (free : List ℕ) → y ≡ hunting_below x top looked h free → HuntedBelow x y h
below_free x y top looked h free e = e ∙ (λ i. hunting_below x (ap (λ (z : DomainView). z.own.swept.top) (sym e) i) (ap (λ (z : DomainView). z.own.looked) (sym e) i) h (ap (λ (z : DomainView). z.seen.free) (sym e) i))

pub missed_of : (x y : DomainView) (h : Hunt) → Hunted x y h → drawn_in h ≡ None → Missed x y
missed_of x y h e none = let is : y.seen.hunt ≡ h = ap (λ (z : DomainView). z.seen.hunt) e in record { view = subst (Hunted x y) (sym is) e; at_rest = ap drawn_in is ∙ none }

pub missed_twice : (x y z : DomainView) → Missed x y → Missed y z → Missed x z
missed_twice x y z a b = record { view = hunted_twice x y z y.seen.hunt z.seen.hunt a.view b.view; at_rest = b.at_rest }

-- the place looked to after a step
pub spot_of : (x y : DomainView) (class : ℕ) (spot : Search) (h : Hunt) → class < class_count → length x.own.looked ≡ class_count → y ≡ hunting x (set x.own.looked class spot) h → search_at y.own.looked class ≡ spot
spot_of x y class spot h few wide e = ap (λ (z : DomainView). search_at z.own.looked class) e ∙ get_or-set_same x.own.looked class spot first_search (omega arith)

module _ (k : Config) (x v y : DomainView) (pool class i found : ℕ) (inside : pool < k.pools) (few : class < class_count) (hunted : Hunted x v (Walks pool class)) (told : PlaceTold k pool class i v found y) where
  module _ (full : found ≢ 0) where
    pub walked_more : i + 1 < blocks_of class → Hunted x y (Walks pool class) × (place_of (search_at y.own.looked class) ≡ record { pool = pool; slot = i + 1 })
    walked_more b = let e = told.full full b in (hunted_twice x v y (Walks pool class) (Walks pool class) hunted (hunted_of v y _ (Walks pool class) e), ap place_of (spot_of v y class (record { pool = pool; slot = i + 1; only = (search_at v.own.looked class).only }) (Walks pool class) few told.wide e))

    pub walked_last : blocks_of class ≤ i + 1 → Hunted x y (Walks pool class) × (pool < (search_at y.own.looked class).pool)
    walked_last b = let e = told.last full b in (
      hunted_twice x v y (Walks pool class) (Walks pool class) hunted (hunted_of v y _ (Walks pool class) e),
      subst (λ (s : Search). pool < s.pool) (sym (spot_of v y class (pool_behind k.pools v.own.swept.top pool (search_at v.own.looked class)) (Walks pool class) few told.wide e)) (behind_later k.pools v.own.swept.top pool (search_at v.own.looked class) inside),
    )

    pub walked_free : y.seen.free ≡ v.seen.free
    walked_free = dite (dec_le (blocks_of class) (i + 1))
        (λ last. ap (λ (z : DomainView). z.seen.free) (told.last full last))
        (λ not_last. ap (λ (z : DomainView). z.seen.free) (told.full full (lt_of_not-le not_last)))

  pub walked_took : (a : ℕ) → i < blocks_of class → a ≡ place_in pool class i → place_of (search_at v.own.looked class) ≡ record { pool = pool; slot = i } → found ≡ 0 → Took k class a x y
  walked_took a below is next free = record { pool = pool; slot = i; inside = inside; below = below; address = is; next = ap (λ (z : DomainView). place_of (search_at z.own.looked class)) (told.free free) ∙ next; view = below_of x y (Fills pool class i _) (hunted_twice x v y (Walks pool class) (Fills pool class i _) hunted (hunted_of v y _ (Fills pool class i _) (told.free free))) }

-- a pool that isn't the domain's
pub passes : (k : Config) (x y : DomainView) (pool class found : ℕ) → pool < k.pools → class < class_count → OwnerTold k pool class x found y → found ≢ owner_word (owned x.own.number class) → WentOn class pool x y
passes k x y pool class found inside few told other =
    let e = told.other other in record {
      missed = missed_of x y Rests (hunted_of x y _ Rests e) refl;
      later = subst (λ (s : Search). pool < s.pool) (sym (spot_of x y class (pool_behind k.pools x.own.swept.top pool (search_at x.own.looked class)) Rests few told.wide e)) (behind_later k.pools x.own.swept.top pool (search_at x.own.looked class) inside);
    }

-- after a look at a pool
pub took_after : (k : Config) (class a : ℕ) (x v y : DomainView) → Missed x v → Took k class a v y → Took k class a x y
took_after k class a x v y missed t = record { pool = t.pool; slot = t.slot; inside = t.inside; below = t.below; address = t.address; next = t.next; view = below_after x v y v.seen.hunt (Fills t.pool class t.slot _) missed.view t.view }

some_pool : (p q : ℕ) → ◌≡◌ {A = Option ℕ} (Some p) (Some q) → p ≡ q
some_pool p q e = cc

-- the cursor was below the limit at a load, and at the add that drew the pool
pub drew_pool : (k : Config) (x v1 v2 y : DomainView) (count found place class : ℕ) → ListedTold k x count v1 → CursorTold k count v1 found v2 → found < limit_of k count → Drew k place class v2 y → DrewPool k place class x y
drew_pool k x v1 v2 y count found place class listed told below d =
    let e2 = told.below below in
    let h1 : Hunted x v1 (Counts count) = hunted_of x v1 x.own.looked (Counts count) listed.view in
    let h2 : Hunted x v2 (Asks count) = hunted_twice x v1 v2 (Counts count) (Asks count) h1 (hunted_free v1 v2 v1.own.looked (Asks count) ((count - found) ∷ v1.seen.free) e2) in record {
      pool = d.pool;
      listed_is = d.listed_is;
      inside = d.inside;
      view = hunted_twice x v2 y (Asks count) (Draws place d.pool class 0) h2 (hunted_of v2 y v2.own.looked (Draws place d.pool class 0) d.view);
      looked = ap (λ (z : DomainView). z.own.looked) d.view ∙ (ap (λ (z : DomainView). z.own.looked) e2 ∙ ap (λ (z : DomainView). z.own.looked) listed.view);
      unreserved = record {
        free = count - found;
        found = ([], ap (λ (z : DomainView). z.seen.free) d.view ∙ (ap (λ (z : DomainView). z.seen.free) e2 ∙ ap (λ (z : DomainView). (count - found) ∷ z.seen.free) listed.view));
        more = let r : ℕ = reserve (sizes_in k) in let b : found < count - r = below in let m : r < count - found = omega arith in m;
      };
    }

-- a step that changes what is known of pools alone leaves the stage
pub hunted_takes : (x y : DomainView) (h : Hunt) → Hunted x y h → Takes x.seen.stage → Takes y.seen.stage
hunted_takes x y h view takes = subst Takes (sym (ap (λ (z : DomainView). z.seen.stage) view)) takes

-- a pool was drawn
pub drew_drawn : (k : Config) (place class : ℕ) (x y : DomainView) → DrewPool k place class x y → HasDrawn k place class y
drew_drawn k place class x y d = record { pool = d.pool; listed_is = d.listed_is; inside = d.inside; hunt = ap (λ (z : DomainView). z.seen.hunt) d.view }

-- and no place of an own pool is free still
pub none_still : (k : Config) (class : ℕ) (x y : DomainView) → y.own.looked ≡ x.own.looked → NoneFree k x class → NoneFree k y class
none_still k class x y same none = subst (λ (l : List Search). k.pools ≤ (search_at l class).pool) (sym same) none

-- after another step
pub took_later : (k : Config) (class a : ℕ) (x v y : DomainView) (h : Hunt) → Hunted x v h → Took k class a v y → Took k class a x y
took_later k class a x v y h view t = record { pool = t.pool; slot = t.slot; inside = t.inside; below = t.below; address = t.address; next = t.next; view = below_after x v y h (Fills t.pool class t.slot _) view t.view }

-- more pools were found free than the reserve
pub still_unreserved : (k : Config) (x v y : DomainView) → y.seen.free ≡ v.seen.free → Unreserved k x v → Unreserved k x y
still_unreserved k x v y same u = record { free = u.free; found = (u.found.0, same ∙ u.found.1); more = u.more }

-- a pool drawn, cleared and signed
module _ (k : Config) (x v2 : DomainView) (place class found : ℕ) (d : HasDrawn k place class x) (list : ListTold x found v2) where
  pool_is : d.pool ≡ found
  pool_is = some_pool d.pool found (sym (ap drawn_in d.hunt) ∙ list.names)

  hunt2 : v2.seen.hunt ≡ Draws place found class 0
  hunt2 = ap (λ (z : DomainView). z.seen.hunt) list.view ∙ (d.hunt ∙ ap (λ (p : ℕ). Draws place p class 0) pool_is)

  -- the pool found is the one drawn
  pub found_inside : found < k.pools
  found_inside = subst (λ (p : ℕ). p < k.pools) pool_is d.inside

  -- it may be cleared
  pub found_drawn : (p : ℕ) × (v2.seen.hunt ≡ Draws p found class 0)
  found_drawn = (place, hunt2)

  module _ (v3 : DomainView) (cleared : (p : ℕ) → v2.seen.hunt ≡ Draws p found class 0 → v3 ≡ with_hunt v2 (Draws p found class (blocks_of class))) where
    all_clear : v3 ≡ with_hunt v2 (Draws place found class (blocks_of class))
    all_clear = cleared place hunt2

    all_view : v3 ≡ with_hunt x (Draws place found class (blocks_of class))
    all_view = all_clear ∙ ap (λ (z : DomainView). with_hunt z (Draws place found class (blocks_of class))) list.view

    pub clear_takes : Takes x.seen.stage → Takes v3.seen.stage
    clear_takes takes = subst Takes (sym (ap (λ (z : DomainView). z.seen.stage) all_view)) takes

    module _ (v4 : DomainView) (new : ℕ) (signed : OwnedTold found class v3 new v4) where
      -- its first place is taken
      pub drawn_took : (a : ℕ) → class < class_count → a ≡ place_in found class 0 → Took k class a x v4
      drawn_took a few is = record {
        pool = found;
        slot = 0;
        inside = found_inside;
        below = (some_block class few).0;
        address = is;
        view = below_after x v3 v4 (Draws place found class (blocks_of class)) (Fills found class 0 []) (hunted_of x v3 _ (Draws place found class (blocks_of class)) all_view) (below_free v3 v4 _ _ (Fills found class 0 []) _ signed.view);
        next = ap (λ (z : DomainView). place_of (search_at z.own.looked class)) signed.view ∙ ap place_of (get_or-set_same v3.own.looked class (record { pool = found; slot = 0; only = true }) first_search (let n : ℕ = length v3.own.looked in let w : n ≡ class_count = signed.wide in omega arith));
      }

      pub drawn_free : v4.seen.free ≡ x.seen.free
      drawn_free = ap (λ (z : DomainView). z.seen.free) signed.view ∙ ap (λ (z : DomainView). z.seen.free) all_view

    -- and it may be signed
    pub owner_ready : (word new : ℕ) → NoneFree k x class → word ≡ 11 + k.pools + found → new ≡ owner_word (owned v3.own.number class) → OwnerMay k v3 word new found class
    owner_ready word new none at signs = record {
      place = place;
      hunt = ap (λ (z : DomainView). z.seen.hunt) all_clear;
      word = at;
      signs = signs;
      none_free = none_still k class x v3 (ap (λ (z : DomainView). z.own.looked) all_view) none;
    }
