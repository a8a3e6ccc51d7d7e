-- Steps of sweeping one behind the other.
use Rattle.std.proofs.Common.{◌≡◌, ◌∙◌, ℕ, ◌+◌, ◌-◌, ◌*◌, ◌<◌, ◌≤◌, List, length, [], ◌∷◌, ◌++◌, refl, ap, sym, subst, inl, inr, ⊎_elim, arith, append_assoc, IsTrue, set, get_or-set_other, get_or-set_same, length-append, lt_of_not-le, zero-le}
use Rattle.std.proofs.lemmas.List.{set_past}
use mathlib.Core.Logic.{dite}
use native.Mathlib.Decide.{ℕ_discrete, dec_le}
use Rattle.heap_words.specs.Remembered.Bounded.{Bounded}
use Rattle.heap_words.specs.declared.colours.Colours.{Colours}
use Rattle.heap_rule.specs.declared.view.DomainView.{DomainView}
use Rattle.heap_rule.specs.declared.view.Reaping.TheVariants.{AtGarbage}
use Rattle.heap_rule.specs.declared.view.Search.{Search}
use Rattle.heap_rule.specs.declared.view.Spot.{Spot}
use Rattle.heap_rule.specs.Pools.{blocks_of, place_in, first_search, freed_at, place_of, search_at}
use Rattle.heap_rule.specs.Cycles.{seen_by}
use Rattle.heap_rule.proofs.Classes.{some_block}
use Rattle.step_marks.specs.Marking.Looks.{knowing_colours, with_share}
use Rattle.step_marks.specs.Marking.Marking.{behind}
use Rattle.step_sweep.specs.Freeing.{FreeMay, Frees, IsColoured, IsNoLater, SweepTold, freed, passed}
use Rattle.model_core.specs.Domains.{IsWithinLimits, class_count}
use Rattle.heap_rule.specs.declared.config.Config.{Config}
use Rattle.heap_rule.specs.Limits.{sizes_in}
use Rattle.step_marks.proofs.OfMarking.WalkSteps.{next_behind}
use Rattle.step_sweep.proofs.CountSteps.{here_behind}
use Rattle.step_sweep.proofs.Earlier.{before_other, freed_no_later}
use Rattle.gc_sweep.specs.Pruning.{Shortens, with_pruned}
use Rattle.gc_sweep.specs.Sweeping.{IsSweeping, LooksAgain, Onward, Sweeps, SweepsAt, Swept, SweptAll, SweptOn, SweptPlace, with_sweep}
use Rattle.gc_sweep.specs.Walks.{IsWalk}

-- a place doesn't stand behind itself
no_later : (a : Spot) → IsNoLater a a
no_later a = inr (refl, let n : ℕ = a.slot in let h : n ≤ n = omega arith in h)

later_still : (a b c : Spot) → IsNoLater a b → IsNoLater b c → IsNoLater a c
later_still a b c p q =
    let u : ℕ = a.pool in let v : ℕ = b.pool in let w : ℕ = c.pool in let i : ℕ = a.slot in let j : ℕ = b.slot in let l : ℕ = c.slot in ⊎_elim
    (λ (h : u < v). inl (⊎_elim (λ (g : v < w). let z : u < w = omega arith in z) (λ (g : (v ≡ w) × (j ≤ l)). let e = g.0 in let z : u < w = omega arith in z) q))
    (λ (h : (u ≡ v) × (i ≤ j)). ⊎_elim (λ (g : v < w). inl (let e = h.0 in let z : u < w = omega arith in z)) (λ (g : (v ≡ w) × (j ≤ l)). inr (h.0 ∙ g.0, let a = h.1 in let b = g.1 in let z : i ≤ l = omega arith in z)) q)
    p

-- a walk may go on without a place
walk_later : (a : Spot) (l : List Spot) (b c : Spot) → IsWalk a l b → IsNoLater b c → IsWalk a l c
walk_later a [] b c w q = later_still a b c w q
walk_later a (s ∷ ss) b c w q = (w.0, before_other b c q s.pool s.slot w.1, w.2)

-- and with the places of another
walk_both : (a : Spot) (l : List Spot) (b : Spot) (m : List Spot) (c : Spot) → IsWalk a l b → IsWalk b m c → IsWalk a (m ++ l) c
walk_both a l b [] c w v = walk_later a l b c w v
walk_both a l b (s ∷ ss) c w v = (v.0, v.1, walk_both a l b ss s w v.2)

-- it comes to no more places than there are up to the last one
walk_places : (a s : Spot) (l : List Spot) (b : Spot) → IsWalk a (s ∷ l) b → length l ≤ s.pool * 1024 + s.slot
walk_places a s [] b w = zero-le
walk_places a s (t ∷ ts) b w =
    let n : ℕ = length ts in let p : ℕ = t.pool in let q : ℕ = t.slot in let v : ℕ = s.pool in let j : ℕ = s.slot in
    let before : n ≤ p * 1024 + q = walk_places a t ts s w.2 in
    let f : q < 1024 = w.2.0 in ⊎_elim
    (λ (h : p < v). let g : length (t ∷ ts) ≤ v * 1024 + j = omega arith in g)
    (λ (h : (p ≡ v) × (q < j)). let e = h.0 in let d = h.1 in let g : length (t ∷ ts) ≤ v * 1024 + j = omega arith in g)
    w.2.1

walk_few : (a : Spot) (l : List Spot) (b : Spot) → IsWalk a l b → length l ≤ b.pool * 1024 + 1024
walk_few a [] b w = zero-le
walk_few a (s ∷ ss) b w =
    let n : ℕ = length ss in let p : ℕ = s.pool in let q : ℕ = s.slot in let v : ℕ = b.pool in
    let all : n ≤ p * 1024 + q = walk_places a s ss b w in
    let f : q < 1024 = w.0 in
    let low : p ≤ v = ⊎_elim (λ (h : p < v). let g : p ≤ v = omega arith in g) (λ h. let e = h.0 in let g : p ≤ v = omega arith in g) w.1 in
    let g : length (s ∷ ss) ≤ v * 1024 + 1024 = omega arith in g

-- and it never goes back
walk_forward : (a : Spot) (l : List Spot) (b : Spot) → IsWalk a l b → IsNoLater a b
walk_forward a [] b w = w
walk_forward a (s ∷ ss) b w =
    let v : ℕ = b.pool in let j : ℕ = b.slot in let p : ℕ = s.pool in let q : ℕ = s.slot in later_still a s b (walk_forward a ss s w.2)
    (⊎_elim (λ (h : p < v). inl h) (λ (h : (p ≡ v) × (q < j)). inr (h.0, let l = h.1 in let g : q ≤ j = omega arith in g)) w.1)

pub looks_still : (x : DomainView) → LooksAgain x x
looks_still x class = no_later (place_of (search_at x.own.looked class))

pub looks_twice : (x y z : DomainView) → LooksAgain x y → LooksAgain y z → LooksAgain x z
looks_twice x y z a b class = later_still (place_of (search_at z.own.looked class)) (place_of (search_at y.own.looked class)) (place_of (search_at x.own.looked class)) (b class) (a class)

-- where nothing is swept the sweep stays, or goes on in another pool
pub swept_none : (x y : DomainView) → y.seen.share.swept ≡ x.seen.share.swept → IsNoLater x.own.swept.spot y.own.swept.spot → SweptOn x y 0
swept_none x y same later = record { places = []; many = refl; swept = same; walk = later }

pub swept_twice : (x y z : DomainView) (m n : ℕ) → SweptOn x y m → SweptOn y z n → SweptOn x z (m + n)
swept_twice x y z m n a b = record {
  places = b.places ++ a.places;
  many = length-append b.places a.places ∙ (let p : ℕ = length a.places in let q : ℕ = length b.places in let e : p ≡ m = a.many in let f : q ≡ n = b.many in let g : q + p ≡ m + n = omega arith in g);
  swept = b.swept ∙ (ap (λ (l : List Spot). b.places ++ l) a.swept ∙ sym (append_assoc b.places a.places x.seen.share.swept));
  walk = walk_both x.own.swept.spot a.places y.own.swept.spot b.places z.own.swept.spot a.walk b.walk;
}

pub sweeps_twice : (x y z : DomainView) (m n : ℕ) → Sweeps x y m → Sweeps y z n → Sweeps x z (m + n)
sweeps_twice x y z m n a b = record {
  view = b.view ∙ ap (λ (v : DomainView). with_sweep v z) a.view;
  colours = b.colours ∙ a.colours;
  ephemerons = b.ephemerons ∙ a.ephemerons;
  listed = b.listed ∙ a.listed;
  looked = looks_twice x y z a.looked b.looked;
  on = swept_twice x y z m n a.on b.on;
}

pub sweeps_none : (x : DomainView) → Sweeps x x 0
sweeps_none x = record { view = refl; colours = refl; ephemerons = refl; listed = refl; looked = looks_still x; on = swept_none x x refl (no_later x.own.swept.spot) }

-- the domain sweeps still
pub sweeping_still : (garbage : ℕ) (x y : DomainView) (n : ℕ) → Sweeps x y n → IsSweeping garbage x → IsSweeping garbage y
sweeping_still garbage x y n s w = record {
  stage = subst (λ (v : DomainView). Frees v.seen.stage) (sym s.view) w.stage;
  at_rest = ap (λ (v : DomainView). v.seen.hunt) s.view ∙ w.at_rest;
  colours = w.colours;
  known = s.colours ∙ w.known;
  means = w.means;
  pruned = subst (λ (m : Bounded ℕ × ℕ). length m.0.items ≤ m.1) (λ i. (sym s.ephemerons i, sym s.listed i)) w.pruned;
}

module _ (pool class slot : ℕ) (x : DomainView) (next : SweepsAt x pool class slot) where
  -- the place is on the walk from one to the next
  one_more : (blocks : slot < 1024) → IsWalk x.own.swept.spot (record { pool = pool; slot = slot } ∷ []) (behind pool class slot)
  one_more few = (few, here_behind pool class slot, subst (λ (from : Spot). IsNoLater from (record { pool = pool; slot = slot })) (sym next.next) (no_later (record { pool = pool; slot = slot })))

  few_slots : slot < 1024
  few_slots = let b : ℕ = blocks_of class in let m : b ≤ 1024 = (some_block class next.few).1 in let l : slot < b = next.inside in let g : slot < 1024 = omega arith in g

  -- no garbage was there
  pub swept_clean : (y : DomainView) → y ≡ passed pool class slot x → SweptPlace pool class slot x y
  swept_clean y is = subst (SweptPlace pool class slot x) (sym is) record {
    sweeps = record { view = refl; colours = refl; ephemerons = refl; listed = refl; looked = looks_still x; on = record { places = record { pool = pool; slot = slot } ∷ []; many = refl; swept = refl; walk = one_more few_slots } };
    own = refl;
    next = refl;
  }

  abbrev found : DomainView
  found = with_share x (record x.seen.share { reaping = AtGarbage pool class slot })

  -- how far it was looked for a free place
  looked_earlier : (l : List Search) (c : ℕ) → IsNoLater (place_of (search_at (set l class (freed_at pool slot (search_at l class))) c)) (place_of (search_at l c))
  looked_earlier l c =
      let new : Search = freed_at pool slot (search_at l class) in dite (ℕ_discrete c class)
      (λ same. subst (λ (n : ℕ). IsNoLater (place_of (search_at (set l class new) n)) (place_of (search_at l n))) (sym same) (dite (dec_le (length l) class)
      (λ past. subst (λ (m : List Search). IsNoLater (place_of (search_at m class)) (place_of (search_at l class))) (sym (set_past l class new past)) (no_later (place_of (search_at l class))))
      (λ within. subst (λ (s : Search). IsNoLater (place_of s) (place_of (search_at l class))) (sym (get_or-set_same l class new first_search (lt_of_not-le within))) (freed_no_later pool slot (search_at l class)))))
      (λ other. subst (λ (s : Search). IsNoLater (place_of s) (place_of (search_at l c))) (sym (get_or-set_other l class c new first_search other)) (no_later (place_of (search_at l c))))

  -- garbage was there, and was freed
  pub swept_dirty : (y z : DomainView) → y ≡ found → z ≡ freed pool class slot y → SweptPlace pool class slot x z
  swept_dirty y z finds is = subst (SweptPlace pool class slot x) (sym (is ∙ ap (freed pool class slot) finds)) record {
    sweeps = record { view = refl; colours = refl; ephemerons = refl; listed = refl; looked = looked_earlier x.own.looked; on = record { places = record { pool = pool; slot = slot } ∷ []; many = refl; swept = refl; walk = one_more few_slots } };
    own = refl;
    next = refl;
  }

  module _ (garbage at word : ℕ) (y : DomainView) (w : IsSweeping garbage x) (here : at ≡ place_in pool class slot) (told : SweepTold pool class slot garbage x word y) where
    pub no_garbage : (IsColoured garbage word → ⊥) → y ≡ passed pool class slot x
    no_garbage none = ⊎_elim (λ u. u.1) (λ u. absurd (none u.0)) told.told

    pub is_garbage : IsColoured garbage word → y ≡ found
    is_garbage dead = ⊎_elim (λ u. absurd (u.0 dead)) (λ u. u.1) told.told

    pub may_free : IsColoured garbage word → FreeMay y at pool class slot
    may_free dead = subst (λ (v : DomainView). FreeMay v at pool class slot) (sym (is_garbage dead)) record { stage = w.stage; at_rest = w.at_rest; found = refl; few = next.few; low = next.inside; word = here; next = next.next; pruned = w.pruned }

-- it has pruned its list and then swept
pub view_whole : (x y z v : DomainView) (c : Colours) → y ≡ knowing_colours x c → z ≡ with_pruned y z → v ≡ with_sweep z v → v ≡ with_sweep x v
view_whole x y z v c knows prunes sweeps = sweeps ∙ (ap (λ (u : DomainView). with_sweep u v) prunes ∙ ap (λ (u : DomainView). with_sweep u v) knows)

pub shorter_still : (x y z : DomainView) → Shortens x y → z.own.ephemerons ≡ y.own.ephemerons → Shortens x z
shorter_still x y z s same = record {
  among = subst (λ (b : Bounded ℕ). (a : ℕ) → IsTrue (seen_by b.items a) → IsTrue (seen_by x.own.ephemerons.items a)) (sym same) s.among;
  room = subst (λ (b : Bounded ℕ). b.room + length b.items ≡ x.own.ephemerons.room + length x.own.ephemerons.items) (sym same) s.room;
  no_less = subst (λ (b : Bounded ℕ). x.own.ephemerons.room ≤ b.room) (sym same) s.no_less;
}

-- the next place is one of the same pool, where one is left
pub next_place : (pool class slot : ℕ) (x y : DomainView) → SweptPlace pool class slot x y → class < class_count → slot + 1 < blocks_of class → SweepsAt y pool class (slot + 1)
next_place pool class slot x y p few low = record { own = p.own; few = few; inside = low; next = p.next ∙ next_behind pool class slot low }

-- each look at a pool leaves fewer places to be swept, or fewer pools
pub less_left : (x y : DomainView) (most count n pools : ℕ) → Sweeps x y n → Onward x y n → n ≤ most - count → count < most → x.own.swept.spot.pool < pools → (most - (count + n)) + (pools - y.own.swept.spot.pool) < (most - count) + (pools - x.own.swept.spot.pool)
less_left x y most count n pools s onward few more inside =
    let p : ℕ = x.own.swept.spot.pool in let q : ℕ = y.own.swept.spot.pool in
    let low : p ≤ q = ⊎_elim (λ (h : p < q). let g : p ≤ q = omega arith in g) (λ h. let e = h.0 in let g : p ≤ q = omega arith in g) (walk_forward x.own.swept.spot s.on.places y.own.swept.spot s.on.walk) in
    ⊎_elim (λ (some : 0 < n). let g : (most - (count + n)) + (pools - q) < (most - count) + (pools - p) = omega arith in g) (λ (later : p < q). let g : (most - (count + n)) + (pools - q) < (most - count) + (pools - p) = omega arith in g) onward

-- with so many places in a slice nothing is left
pub all_swept : (k : Config) (count : ℕ) (x y : DomainView) → IsWithinLimits (sizes_in k) → Swept k 4294967295 count x y → SweptAll k x y
all_swept k count x y limits s = record {
  view = s.view;
  shortens = s.shortens;
  looked = s.looked;
  places = s.on.places;
  swept = s.on.swept;
  walk = s.on.walk;
  done = dite (dec_le k.pools y.own.swept.spot.pool)
      (λ done. done)
      (λ not_done.
      let p : ℕ = k.pools in let q : ℕ = y.own.swept.spot.pool in let n : ℕ = length s.on.places in
      let low : q < p = lt_of_not-le not_done in
      let few : p ≤ 2048 = limits.pools in
      let many : n ≤ q * 1024 + 1024 = walk_few x.own.swept.spot s.on.places y.own.swept.spot s.on.walk in
      let e : n ≡ count = s.on.many in
      s.rest (let g : count < 4294967295 = omega arith in g));
}
