-- The steps that look at the places of own pools, and make a drawn pool the domain's own.
use Rattle.model_core.specs.Domains.{class_count}
use Rattle.std.proofs.Common.{◌≡◌, ◌≢◌, ℕ, ◌+◌, ◌*◌, ◌<◌, ◌≤◌, ◌⊎◌, List, [], ◌∷◌, ◌++◌, length, get_or, set, slice_get, Some, None, sym, refl, ap, ◌∙◌, subst, inl, inr, ⊎_elim, arith, length-set, get_or-set_same, get_or-set_other, lt_of_not-le, IsTrue, true}
use mathlib.Core.Logic.{dite}
use native.Mathlib.Decide.{ℕ_discrete, dec_le}
use mathlib.Core.Option.{some}
use lib.ListN.{get_elem?}
use Rattle.model_core.specs.declared.entry.Entry.{Entry}
use Rattle.heap_rule.specs.declared.config.Config.{Config}
use Rattle.heap_rule.specs.declared.view.DomainView.{DomainView}
use Rattle.heap_rule.specs.declared.view.Hunt.TheVariants.{Rests, Draws, Walks, Fills}
use Rattle.heap_rule.specs.declared.view.Search.{Search}
use Rattle.heap_rule.specs.declared.view.Spot.{Spot}
use Rattle.heap_rule.specs.Layout.{heap_words, before_heap, table_words, at_address, listed, cursor, listed_pool, owner_of}
use Rattle.heap_rule.specs.Places.{Place, Live, extent}
use Rattle.heap_rule.specs.Room.{Room, IsUnused}
use Rattle.heap_rule.specs.Views.{one}
use Rattle.heap_rule.specs.Rule.{state_of, Rule}
use Rattle.heap_rule.specs.Pools.{nobody, owned, owner_word, Stock, Tenancy, Takes, Pools, Grid, IsSpare, Hunts, Hunter, Latest, DrawsFor, Clearing, Filling, drawn_in, search_at, first_search, place_of, IsBefore, IsPassed, place_in, size_of, blocks_of, limit_of}
use Rattle.heap_rule.specs.Phases.{sum_of}
use Rattle.step_pools.specs.Takes.{with_hunt, looked_to, NoneFree}
use Rattle.heap_rule.proofs.Update.{over, over_here, over_else}
use Rattle.heap_rule.proofs.Lists.{got_end, got_below}
use Rattle.heap_rule.proofs.Values.{extent_large}
use Rattle.step_pools.specs.Takes.{owning_pool}
use Rattle.step_pools.specs.Writes.{pool_behind, top_above}
use Rattle.step_pools.proofs.Tops.{above_top, passed_behind, low_same}
use Rattle.heap_rule.proofs.Keeps.{Words, my_good, mine, more_same, phases_words, phases_same, cycle_control, control_set, controls_kept, pools_same, covered_words, room_words, holds_again, garbage_here}
use Rattle.heap_rule.proofs.Classes.{size_least, some_block, slot_below, slot_inside}
use Rattle.heap_rule.proofs.Beside.{found_beside, making_beside}
use Rattle.heap_rule.proofs.EphemeronLemmas.{own_place_on}
use Rattle.heap_rule.specs.Ephemerons.{Listed}
use Rattle.heap_rule.specs.Rule.{Good}
use Rattle.heap_rule.proofs.OwnPlaces.{owned_same}
use Rattle.heap_rule.proofs.Lots.{Beside, pool_beside, hunter_beside, drawn_same, stays, head_full, garbage_full}
use Rattle.heap_rule.proofs.Holders.{Agrees, SameStock, agrees_set, drawn_not, drawn_owned, found_agrees, free_later, grid_over, hunter_agree, making_agrees, nobody_drawn, nobody_owned, owned_not, same_over}
use Rattle.step_pools.proofs.DrawSteps.{hunter, next_hunter, hunter_on, knows, known_free, draws_none, latest_words, own_word, garbage_agrees}
use Rattle.heap_rule.specs.Fullness.{Fullness}
use Rattle.std.proofs.lemmas.Option.{same_Some}
use Rattle.heap_rule.specs.Cycles.{Cycling, Leaves}

pub equal_le : {a b : ℕ} → a ≡ b → b ≤ a
equal_le {a} {b} e = omega arith

-- how far it was looked, for a class and for the others
search_same : (l : List Search) (class c : ℕ) (n : Search) → c ≡ class → class < class_count → length l ≡ class_count → search_at (set l class n) c ≡ n
search_same l class c n same few wide = ap (λ (m : ℕ). search_at (set l class n) m) same ∙ get_or-set_same l class n first_search (omega arith)

search_other : (l : List Search) (class c : ℕ) (n : Search) → c ≢ class → search_at (set l class n) c ≡ search_at l c
search_other l class c n other = get_or-set_other l class c n first_search other

-- the prepared places stay where the written word is the head of no place of an owned pool
pub spares_stay : (k : Config) (t : Tenancy) (live : Live) (words : List ℕ) (at new : ℕ) → ((q e c slot : ℕ) → t.holder q ≡ owned e c → slot < blocks_of c → place_in q c slot ≢ at) → Grid k t live words
    → (a e : ℕ) → t.prepared a ≡ Some e → IsSpare k t.holder live (set words (before_heap k + at) new) a e
spares_stay k t live words at new far g a e prep = let s = g.spares a e prep in let o = s.own in record {
  own = o;
  head = λ z. s.head (sym (stays k t words at new a (λ same. far o.pool e o.class o.slot o.owned_is o.inside (sym o.begins ∙ same))) ∙ z);
  empty = s.empty;
}

-- and so do the heads of garbage
pub garbage_heads : (k : Config) (t : Tenancy) (live : Live) (c : Cycling) (words : List ℕ) (at new : ℕ) → ((q e b slot : ℕ) → t.holder q ≡ owned e b → slot < blocks_of b → place_in q b slot ≢ at) → Leaves k live t c words
    → (a : ℕ) → IsTrue (t.garbage a) → at_address k (set words (before_heap k + at) new) a ≡ at_address k words a
garbage_heads k t live c words at new far l a is = let h = l.owned a is in let o = h.1 in stays k t words at new a (λ same. far o.pool h.0 o.class o.slot o.owned_is o.inside (sym o.begins ∙ same))

module _ (k : Config) (s : Words) (r : Rule k s) (id : ℕ) (hist : List Entry) (x : DomainView) (at : get_elem? s.views id ≡ some (one k hist x)) (takes : Takes x.seen.stage) where
  open x use {own.{number as d}}
  open r.account use {tenancy as T}

  H : Hunter k T s.words x
  H = hunter k s r id hist x at takes

  P : Pools k T s.words
  P = r.whole.pools

  -- a live block has a word
  some_word : (b : ℕ) (q : Place) → r.account.live b ≡ Some q → 0 < extent q.shape
  some_word b q lives = let n : ℕ = extent q.shape in let l : 3 ≤ n = extent_large q.shape (r.whole.placed.fits b q lives).head in let o : 0 < n = omega arith in o

  -- the owner word
  module _ (pool class : ℕ) (inside : pool < k.pools) (few : class < class_count) where
    abbrev word : ℕ
    word = owner_of k s.words pool

    own_is : word ≡ owner_word (owned d class) → T.holder pool ≡ owned d class
    own_is e = own_word (T.holder pool) d class few (λ a b h. (P.owned_by pool a b h).2) (sym (P.owners pool inside) ∙ e)

    pub walks_rule : drawn_in x.seen.hunt ≡ None → word ≡ owner_word (owned d class) → Rule k record { words = s.words; homes = s.homes; views = set s.views id (one k hist (with_hunt x (Walks pool class))) }
    walks_rule free e = knows k s r id hist x at takes x.own.looked (Walks pool class) (next_hunter k s r id hist x at takes (Walks pool class) (own_is e) free)

    -- the pool isn't the domain's, of this class
    abbrev past : Search
    past = pool_behind k.pools x.own.swept.top pool (search_at x.own.looked class)

    pub passes_rule : drawn_in x.seen.hunt ≡ None → word ≢ owner_word (owned d class) → (search_at x.own.looked class).pool ≡ pool → length x.own.looked ≡ class_count
        → Rule k record { words = s.words; homes = s.homes; views = set s.views id (one k hist (looked_to x class past Rests)) }
    passes_rule free differ from wide = knows k s r id hist x at takes (set x.own.looked class past) Rests (hunter_on k T s.words x (set x.own.looked class past) Rests x.seen.free tt free
        (λ q c slot is below seen. dite (ℕ_discrete c class)
        (λ same.
        let mine_is : T.holder q ≡ owned d class = is ∙ ap (owned d) same in
        let other : q ≢ pool = (λ here. differ (P.owners pool inside ∙ ap owner_word (sym (ap T.holder here) ∙ mine_is))) in
        H.taken q c slot is below (subst (λ (m : ℕ). IsPassed q slot (search_at x.own.looked m)) (sym same) (⊎_elim
        (λ (here : q ≡ pool). absurd (other here))
        (λ (was : IsPassed q slot (search_at x.own.looked class)). was)
        (passed_behind k.pools x.own.swept.top pool q slot (search_at x.own.looked class) from ((my_good k s r id hist x at).sweeps.below q c is)
        (subst (IsPassed q slot) (search_same x.own.looked class c past same few wide) seen)))))
        (λ other. H.taken q c slot is below (subst (IsPassed q slot) (search_other x.own.looked class c past other) seen)))
        H.free H)

  -- the head at the next place of an own pool
  module _ (pool class slot : ℕ) (is : x.seen.hunt ≡ Walks pool class) (inside : slot < blocks_of class) where
    abbrev place : ℕ
    place = place_in pool class slot

    own : T.holder pool ≡ owned d class
    own = subst (Hunts k T s.words d) is H.hunt

    few : class < class_count
    few = (P.owned_by pool d class own).2

    no_draw : drawn_in x.seen.hunt ≡ None
    no_draw = ap drawn_in is

    pub takes_rule : at_address k s.words place ≡ 0 → Rule k record { words = s.words; homes = s.homes; views = set s.views id (one k hist (with_hunt x (Fills pool class slot []))) }
    takes_rule free = knows k s r id hist x at takes x.own.looked (Fills pool class slot []) (next_hunter k s r id hist x at takes (Fills pool class slot []) record {
      own_is = own;
      inside = inside;
      free = free;
      fits = (let z : ℕ = size_of class in let l : 4 ≤ z = size_least class few in let g : 0 < z = omega arith in g);
      written = λ j w got. cc;
    } no_draw)

    abbrev next : Search
    next = record { pool = pool; slot = slot + 1; only = (search_at x.own.looked class).only }

    pub full_rule : at_address k s.words place ≢ 0 → place_of (search_at x.own.looked class) ≡ record { pool = pool; slot = slot } → length x.own.looked ≡ class_count
        → Rule k record { words = s.words; homes = s.homes; views = set s.views id (one k hist (looked_to x class next (Walks pool class))) }
    full_rule full from wide = knows k s r id hist x at takes (set x.own.looked class next) (Walks pool class) (hunter_on k T s.words x (set x.own.looked class next) (Walks pool class) x.seen.free own no_draw
        (λ q c i is below seen. dite (ℕ_discrete c class)
        (λ same.
        let before : place_of (search_at x.own.looked c) ≡ record { pool = pool; slot = slot } = ap (λ (m : ℕ). place_of (search_at x.own.looked m)) same ∙ from in
        ⊎_elim
        (λ (b : IsBefore q i (record { pool = pool; slot = slot + 1 })). ⊎_elim
        (λ (h : q < pool). H.taken q c i is below (inl (subst (IsBefore q i) (sym before) (inl h))))
        (λ (h : (q ≡ pool) × (i < slot + 1)). dite (ℕ_discrete i slot)
        (λ (eq : i ≡ slot). λ z. full (subst (λ (m : ℕ × ℕ × ℕ). at_address k s.words (place_in m.0 m.1 m.2) ≡ 0) (λ j. (h.0 j, same j, eq j)) z))
        (λ (ne : i ≢ slot). H.taken q c i is below (inl (subst (IsBefore q i) (sym before) (inr (h.0, (let l = h.1 in omega arith)))))))
        b)
        (λ (h : ((search_at x.own.looked class).only ≡ true) × (pool < q)). H.taken q c i is below (inr (ap (λ (m : ℕ). (search_at x.own.looked m).only) same ∙ h.0, subst (λ (m : Spot). m.pool < q) (sym before) h.1)))
        (subst (IsPassed q i) (search_same x.own.looked class c next same few wide) seen))
        (λ other. H.taken q c i is below (subst (IsPassed q i) (search_other x.own.looked class c next other) seen)))
        H.free H)

    abbrev behind : Search
    behind = pool_behind k.pools x.own.swept.top pool (search_at x.own.looked class)

    pub last_rule : at_address k s.words place ≢ 0 → blocks_of class ≤ slot + 1 → place_of (search_at x.own.looked class) ≡ record { pool = pool; slot = slot } → length x.own.looked ≡ class_count
        → Rule k record { words = s.words; homes = s.homes; views = set s.views id (one k hist (looked_to x class behind (Walks pool class))) }
    last_rule full last from wide = knows k s r id hist x at takes (set x.own.looked class behind) (Walks pool class) (hunter_on k T s.words x (set x.own.looked class behind) (Walks pool class) x.seen.free own no_draw
        (λ q c i is below seen. dite (ℕ_discrete c class)
        (λ same.
        let before : place_of (search_at x.own.looked c) ≡ record { pool = pool; slot = slot } = ap (λ (m : ℕ). place_of (search_at x.own.looked m)) same ∙ from in
        ⊎_elim
        (λ (here : q ≡ pool). dite (ℕ_discrete i slot)
        (λ (eq : i ≡ slot). λ z. full (subst (λ (m : ℕ × ℕ × ℕ). at_address k s.words (place_in m.0 m.1 m.2) ≡ 0) (λ j. (here j, same j, eq j)) z))
        (λ (ne : i ≢ slot). H.taken q c i is below (inl (subst (IsBefore q i) (sym before) (inr (here, (let b : i < blocks_of class = subst (λ (m : ℕ). i < blocks_of m) same below in let n : ℕ = blocks_of class in let l : n ≤ slot + 1 = last in omega arith)))))))
        (λ (was : IsPassed q i (search_at x.own.looked class)). H.taken q c i is below (subst (λ (m : ℕ). IsPassed q i (search_at x.own.looked m)) (sym same) was))
        (passed_behind k.pools x.own.swept.top pool q i (search_at x.own.looked class) (ap (λ (m : Spot). m.pool) from) ((my_good k s r id hist x at).sweeps.below q c is)
        (subst (IsPassed q i) (search_same x.own.looked class c behind same few wide) seen)))
        (λ other. H.taken q c i is below (subst (IsPassed q i) (search_other x.own.looked class c behind other) seen)))
        H.free H)

  -- Free at the next place of the pool drawn
  module _ (place pool class cleared : ℕ) (is : x.seen.hunt ≡ Draws place pool class cleared) where
    drew : Clearing k T.holder T.fresh s.words d place pool class cleared
    drew = subst (Hunts k T s.words d) is H.hunt

    others_pool : (z : DomainView) → z.own.number ≢ d → (a : ℕ) → pool * 4096 < a → a ≤ pool * 4096 + 4096 → Beside k T s.words z.own.number a
    others_pool z other a low high = pool_beside k T s.words pool a z.own.number P low high
        (λ e. other (sym (drawn_same d z.own.number (sym drew.drawn_is ∙ e)))) (λ c e. drawn_owned d z.own.number c (sym drew.drawn_is ∙ e))

    -- the words of live blocks aren't in the pool
    far : (a : ℕ) → pool * 4096 < a → a ≤ pool * 4096 + 4096 → (b : ℕ) (q : Place) → r.account.live b ≡ Some q → (z : ℕ) → z < extent q.shape → b + z ≢ a
    far a low high b q lives z inside e = dite (dec_le b (k.pools * 4096))
        (λ le.
        let l = r.whole.grid.lots b q lives le in
        let n : ℕ = extent q.shape in
        let y : ℕ = size_of l.class in
        let w : ℕ = l.slot * size_of l.class in
        let top : w + y ≤ 4096 = slot_inside l.class l.slot (P.owned_by l.pool l.domain l.class l.owned_is).2 l.inside in
        let begins : b ≡ l.pool * 4096 + w + 1 = l.begins in
        let fits : n ≤ y = l.fits in
        let i : z < n = inside in
        let same : b + z ≡ a = e in
        let here : l.pool ≡ pool = omega arith in
        drawn_owned d l.domain l.class (sym drew.drawn_is ∙ (ap T.holder (sym here) ∙ l.owned_is)))
        (λ gt. let g : k.pools * 4096 < b = lt_of_not-le gt in let i : pool < k.pools = drew.inside in let same : b + z ≡ a = e in omega arith)

    -- no place of an owned pool lies in it
    place_far : (a : ℕ) → pool * 4096 < a → a ≤ pool * 4096 + 4096 → (q e c slot : ℕ) → T.holder q ≡ owned e c → slot < blocks_of c → place_in q c slot ≢ a
    place_far a low high q e c slot owned_is below same_place =
        let y : ℕ = size_of c in
        let w : ℕ = slot * size_of c in
        let few : c < class_count = (P.owned_by q e c owned_is).2 in
        let large : 4 ≤ y = size_least c few in
        let top : w + y ≤ 4096 = slot_inside c slot few below in
        let same : q * 4096 + w + 1 ≡ a = same_place in
        let here : q ≡ pool = omega arith in
        drawn_owned d e c (sym drew.drawn_is ∙ (ap T.holder (sym here) ∙ owned_is))

    module _ (some : cleared < blocks_of class) where
      abbrev A : ℕ
      A = place_in pool class cleared

      abbrev ws : List ℕ
      ws = set s.words (before_heap k + A) 0

      low : pool * 4096 < A
      low = omega arith

      high : A ≤ pool * 4096 + 4096
      high = let y : ℕ = size_of class in let w : ℕ = cleared * size_of class in let l : 4 ≤ y = size_least class drew.of_class in let top : w + y ≤ 4096 = slot_inside class cleared drew.of_class some in let g : pool * 4096 + w + 1 ≤ pool * 4096 + 4096 = omega arith in g

      spot : before_heap k + A < length s.words
      spot = let h = high in let i = drew.inside in let w : ℕ = k.domains * k.minor_words in let wide : length s.words ≡ table_words k = r.whole.wide in omega arith

      pub clears_rule : Rule k record { words = ws; homes = s.homes; views = set s.views id (one k hist (with_hunt x (Draws place pool class (cleared + 1)))) }
      clears_rule = let controls = controls_kept k s r id hist x at ws (control_set k s.words A 0 (omega arith)) in holds_again k s r id hist x at x.own.swept.top x.own.looked (Draws place pool class (cleared + 1)) x.seen.free ws T record {
        higher = low_same x.own.swept.top;
        gained = λ q e b is. inl is;
        takes = takes;
        known_free = known_free k s r id hist x at takes;
        listed_same = control_set k s.words A 0 (omega arith) 6 (omega arith);
        reserved = controls.reserved;
        covered = controls.covered;
        room = room_words k r.account.live r.account.pause T.stock s.words ws controls.counts r.whole.room;
        unused = r.whole.unused;
        wide = length-set s.words (before_heap k + A) 0;
        phases = phases_same k r.account.pause s.words ws (control_set k s.words A 0 (omega arith)) r.whole.phases;
        want = control_set k s.words A 0 (omega arith) 0 (omega arith);
        endings = control_set k s.words A 0 (omega arith) 8 (omega arith);
        cycle = cycle_control k s.words ws (control_set k s.words A 0 (omega arith));
        garbage = garbage_here k s r id hist x at r.account.live ws r.whole.cycle.leaves.dead
            (garbage_heads k T r.account.live r.account.cycling s.words A 0 (λ q e c slot owned_is below. place_far A low high q e c slot owned_is below) r.whole.cycle.leaves);
        heads = λ b q lives. stays k T s.words A 0 b (λ same. far A low high b q lives 0 (some_word b q lives) (let o : b ≡ A = same in let g : b + 0 ≡ A = omega arith in g));
        listeds = λ z g. g.listed;
        full = r.whole.full;
        found = λ b q lives. let f = r.whole.found b q lives in found_beside k r.account.cycling.paint r.account.live r.account.live (state_of k r.account.log).graph (state_of k r.account.log).graph s.words A 0 b q (more_same r.account.live) f f.there (far A low high b q lives);
        pools = pools_same k T s.words ws (control_set k s.words A 0 (omega arith)) P;
        drawers = r.whole.drawers;
        grid = record {
          lots = r.whole.grid.lots;
          places = λ q e c slot owned_is below. dite (ℕ_discrete (place_in q c slot) A)
              (λ same. inl (ap (at_address k ws) same ∙ get_or-set_same s.words (before_heap k + A) 0 0 spot))
              (λ other. ⊎_elim (λ (z : at_address k s.words (place_in q c slot) ≡ 0). inl (stays k T s.words A 0 (place_in q c slot) other ∙ z)) (λ z. inr z) (r.whole.grid.places q e c slot owned_is below));
          spares = spares_stay k T r.account.live s.words A 0 (λ q e c slot owned_is below. place_far A low high q e c slot owned_is below) r.whole.grid;
        };
        makings = λ z p. making_beside k s.words A 0 z (λ j fits e. let i : pool < k.pools = drew.inside in let h : A ≤ pool * 4096 + 4096 = high in let n : ℕ = z.own.number * k.minor_words in let a : ℕ = A in let same : k.pools * 4096 + n + 1 + z.own.used + 1 + j ≡ a = e in omega arith) p;
        hunter = record {
          hunt = record {
            inside = drew.inside;
            listed_is = drew.listed_is;
            names = (let h = drew.listed_is in control_set k s.words A 0 (omega arith) (11 + place) (omega arith)) ∙ drew.names;
            drawn_is = drew.drawn_is;
            fresh_is = drew.fresh_is;
            of_class = drew.of_class;
            some = (let e : cleared + 1 ≤ blocks_of class = omega arith in e);
            free = λ j h. dite (ℕ_discrete j cleared)
                (λ same. ap (λ (i : ℕ). at_address k ws (place_in pool class i)) same ∙ get_or-set_same s.words (before_heap k + A) 0 0 spot)
                (λ other. stays k T s.words A 0 (place_in pool class j) (λ e.
                let y : ℕ = size_of class in let l : 4 ≤ y = size_least class drew.of_class in let w : ℕ = cleared * size_of class in let v : ℕ = j * size_of class in
                let m : v + y ≤ w = slot_below class j cleared (let n : j ≢ cleared = other in omega arith) in
                let same : pool * 4096 + v + 1 ≡ pool * 4096 + w + 1 = e in omega arith)
                ∙ drew.free j (let n : j ≢ cleared = other in omega arith));
          };
          drawn_alone = λ q e. sym (ap drawn_in is) ∙ H.drawn_alone q e;
          free = λ f e. free_later k s.words ws (control_set k s.words A 0 (omega arith) 6 (omega arith)) (equal_le (control_set k s.words A 0 (omega arith) 7 (omega arith))) f (H.free f e);
          spare = λ u e. let f = H.spare u e in record { own_is = f.own_is; inside = f.inside; free = stays k T s.words A 0 (place_in u.pool u.class u.slot) (place_far A low high u.pool d u.class u.slot f.own_is f.inside) ∙ f.free };
          taken = λ q c slot owned_is below seen e. H.taken q c slot owned_is below seen (sym (stays k T s.words A 0 (place_in q c slot) (place_far A low high q d c slot owned_is below)) ∙ e);
          holds = H.holds;
          prepared = H.prepared;
          claims = H.claims;
          supply = λ c few some. ⊎_elim (λ (u : DrawsFor c x.seen.hunt). inl (subst (DrawsFor c) is u))
              (λ (l : Latest k T s.words d c). inr (latest_words k T s.words ws d c (λ q slot owned_is below. stays k T s.words A 0 (place_in q c slot) (place_far A low high q d c slot owned_is below)) l)) (H.supply c few some);
        };
        hunters = λ z other g. hunter_beside k T s.words A 0 P z (others_pool z other A low high) g.hunter;
      }

  -- the owner of the pool drawn
  module _ (place pool class : ℕ) (is : x.seen.hunt ≡ Draws place pool class (blocks_of class)) (none_free : NoneFree k x class) (wide : length x.own.looked ≡ class_count) where
    all_clear : Clearing k T.holder T.fresh s.words d place pool class (blocks_of class)
    all_clear = subst (Hunts k T s.words d) is H.hunt

    abbrev spot_owner : ℕ
    spot_owner = 11 + k.pools + pool

    abbrev signed : ℕ
    signed = owner_word (owned d class)

    abbrev words2 : List ℕ
    words2 = set s.words spot_owner signed

    agrees : Agrees k s.words words2
    agrees = agrees_set k s.words spot_owner signed (λ e. omega arith) (inr (omega arith)) (let i = all_clear.inside in omega arith)

    other_word : (j : ℕ) → j ≢ spot_owner → get_or words2 j 0 ≡ get_or s.words j 0
    other_word j differ = get_or-set_other s.words spot_owner j signed 0 differ

    -- the domain drew it last for the class, and used none of its places
    abbrev own_latest : ℕ → ℕ
    own_latest = over class pool (T.stock.latest d)

    abbrev own_used : ℕ → ℕ
    own_used = over class 0 (T.stock.used d)

    abbrev stock2 : Stock
    stock2 = record T.stock { latest = over d own_latest T.stock.latest; used = over d own_used T.stock.used }

    latest_here : stock2.latest d class ≡ pool
    latest_here = ap (λ (f : ℕ → ℕ). f class) (over_here d own_latest T.stock.latest) ∙ over_here class pool (T.stock.latest d)

    used_here : stock2.used d class ≡ 0
    used_here = ap (λ (f : ℕ → ℕ). f class) (over_here d own_used T.stock.used) ∙ over_here class 0 (T.stock.used d)

    latest_else : (c : ℕ) → c ≢ class → stock2.latest d c ≡ T.stock.latest d c
    latest_else c other = ap (λ (f : ℕ → ℕ). f c) (over_here d own_latest T.stock.latest) ∙ over_else class pool (T.stock.latest d) c other

    used_else : (c : ℕ) → c ≢ class → stock2.used d c ≡ T.stock.used d c
    used_else c other = ap (λ (f : ℕ → ℕ). f c) (over_here d own_used T.stock.used) ∙ over_else class 0 (T.stock.used d) c other

    abbrev t2 : Tenancy
    t2 = record { holder = over pool (owned d class) T.holder; asking = T.asking; prepared = T.prepared; garbage = T.garbage; fresh = T.fresh; stock = stock2 }

    here2 : t2.holder pool ≡ owned d class
    here2 = over_here pool (owned d class) T.holder

    else2 : (q : ℕ) → q ≢ pool → t2.holder q ≡ T.holder q
    else2 q other = over_else pool (owned d class) T.holder q other

    long2 : spot_owner < length s.words
    long2 = let w : length s.words ≡ table_words k = r.whole.wide in let h : ℕ = heap_words k in let i = all_clear.inside in omega arith

    cursor2 : cursor words2 ≡ cursor s.words
    cursor2 = other_word 7 (λ e. omega arith)

    lower2 : (i : ℕ) → i < listed words2 → i < listed s.words
    lower2 i h = subst (λ (m : ℕ). i < m) agrees.count h

    names2 : (i : ℕ) → i < listed words2 → listed_pool words2 i ≡ listed_pool s.words i
    names2 i h = let l = lower2 i h in let m : ℕ = listed s.words in let f : m ≤ k.pools = P.few in let g : i < m = l in agrees.list i (omega arith)

    -- a listed pool that is nobody's isn't this one
    nobody_still : (i : ℕ) → i < listed words2 → T.holder (listed_pool s.words i) ≡ nobody → t2.holder (listed_pool words2 i) ≡ nobody
    nobody_still i h u = ap t2.holder (names2 i h) ∙ (else2 (listed_pool s.words i) (λ e. nobody_drawn d (sym u ∙ (ap T.holder e ∙ all_clear.drawn_is))) ∙ u)

    -- and a pool that is nobody's was so before
    nobody_was : (q : ℕ) → t2.holder q ≡ nobody → T.holder q ≡ nobody
    nobody_was q free = sym (else2 q (λ same. nobody_owned d class (sym free ∙ (ap t2.holder same ∙ here2)))) ∙ free

    owned_still : (q c : ℕ) → T.holder q ≡ owned d c → t2.holder q ≡ owned d c
    owned_still q c e = else2 q (λ same. drawn_owned d d c (sym all_clear.drawn_is ∙ (ap T.holder (sym same) ∙ e))) ∙ e

    counts2 : (listed words2 ≡ listed s.words) × (cursor words2 ≡ cursor s.words)
    counts2 = (agrees.count, cursor2)

    room2 : Room k r.account.live r.account.pause stock2 words2
    room2 = let w = room_words k r.account.live r.account.pause T.stock s.words words2 (λ _. counts2) r.whole.room in record { fills = w.fills; fit = w.fit; claims = w.claims; listed_copies = w.listed_copies; left = w.left }

    unused2 : IsUnused r.account.pause stock2
    unused2 rests = ap (λ (z : Stock). record z { latest = stock2.latest; used = stock2.used }) (r.whole.unused rests)

    -- all places of the pool are free
    free2 : (q e c slot : ℕ) → q ≡ pool → t2.holder q ≡ owned e c → slot < blocks_of c → at_address k s.words (place_in q c slot) ≡ 0
    free2 q e c slot same is inside =
        let class_is : class ≡ c = (owned_same d e class c (sym here2 ∙ (ap t2.holder (sym same) ∙ is))).1 in
        let place_is : place_in q c slot ≡ place_in pool class slot = (λ i. place_in (same i) (sym class_is i) slot) in
        ap (at_address k s.words) place_is ∙ all_clear.free slot (subst (λ (m : ℕ). slot < blocks_of m) (sym class_is) inside)

    -- so it is the latest of its class, and no place of it is used
    latest2 : (c : ℕ) → c ≡ class → Latest k t2 words2 d c
    latest2 c same = subst (Latest k t2 words2 d) (sym same) record {
      own_is = subst (λ (m : ℕ). t2.holder m ≡ owned d class) (sym latest_here) here2;
      few = subst (λ (m : ℕ). m ≤ blocks_of class) (sym used_here) (let b : ℕ = blocks_of class in let o : 0 ≤ b = omega arith in o);
      enough = subst (λ (m : ℕ). T.stock.drawn d class * blocks_of class + m ≤ T.stock.copies d class + blocks_of class) (sym used_here)
          (let f : T.stock.drawn d class * blocks_of class ≤ T.stock.copies d class + blocks_of class = r.whole.room.fills d class in let u : ℕ = T.stock.drawn d class * blocks_of class in let v : ℕ = T.stock.copies d class + blocks_of class in let g : u ≤ v = f in let o : u + 0 ≤ v = omega arith in o);
      rest = λ j from below. inl (subst (λ (m : ℕ). at_address k words2 (place_in m class j) ≡ 0) (sym latest_here) (agrees.heap (place_in pool class j) (omega arith) ∙ all_clear.free j below));
    }

    -- the pools drawn last for other classes stay so
    latest_other : (c : ℕ) → c ≢ class → Latest k T s.words d c → Latest k t2 words2 d c
    latest_other c other l =
        let Rest : ℕ → ℕ → ℕ → Type 0 = (λ pool used j. (at_address k words2 (place_in pool c j) ≡ 0) ⊎ ((j ≡ used) × (T.prepared (place_in pool c j) ≡ Some d))) in record {
          own_is = subst (λ (m : ℕ). t2.holder m ≡ owned d c) (sym (latest_else c other)) (owned_still (T.stock.latest d c) c l.own_is);
          few = subst (λ (m : ℕ). m ≤ blocks_of c) (sym (used_else c other)) l.few;
          enough = subst (λ (m : ℕ). T.stock.drawn d c * blocks_of c + m ≤ T.stock.copies d c + blocks_of c) (sym (used_else c other)) l.enough;
          rest = λ j from inside. subst (λ (m : ℕ × ℕ). Rest m.0 m.1 j) (λ i. (sym (latest_else c other) i, sym (used_else c other) i))
              (⊎_elim (λ (z : at_address k s.words (place_in (T.stock.latest d c) c j) ≡ 0). inl (agrees.heap (place_in (T.stock.latest d c) c j) (omega arith) ∙ z)) (λ (z : (j ≡ T.stock.used d c) × (T.prepared (place_in (T.stock.latest d c) c j) ≡ Some d)). inr z)
              (l.rest j (subst (λ (m : ℕ). m ≤ j) (used_else c other) from) inside));
        }

    -- a place of an own pool was so before, or lies in this one, whose places are free, so it isn't prepared
    owned_was : (q c : ℕ) → q ≢ pool → t2.holder q ≡ owned d c → T.holder q ≡ owned d c
    owned_was q c other e = sym (else2 q other) ∙ e

    unprepared2 : (q c slot : ℕ) → t2.holder q ≡ owned d c → slot < blocks_of c → T.prepared (place_in q c slot) ≡ Some d → q ≢ pool
    unprepared2 q c slot owned_is below prep same = (r.whole.grid.spares (place_in q c slot) d prep).head (free2 q d c slot same owned_is below)

    pools2 : Pools k t2 words2
    pools2 = record {
      few = subst (λ (m : ℕ). m ≤ k.pools) (sym agrees.count) P.few;
      inside = λ i h. subst (λ (q : ℕ). q < k.pools) (sym (names2 i h)) (P.inside i (lower2 i h));
      once = λ i j h g e. P.once i j (lower2 i h) (lower2 j g) (sym (names2 i h) ∙ (e ∙ names2 j g));
      untaken = λ i h g. nobody_still i h (P.untaken i (lower2 i h) (subst (λ (m : ℕ). m ≤ i) cursor2 g));
      owners = λ q h. dite (ℕ_discrete q pool)
          (λ same. ap (owner_of k words2) same ∙ (get_or-set_same s.words spot_owner signed 0 long2 ∙ (sym (ap owner_word here2) ∙ ap (λ (m : ℕ). owner_word (t2.holder m)) (sym same))))
          (λ other. other_word (11 + k.pools + q) (λ e. let n : q ≢ pool = other in omega arith) ∙ (P.owners q h ∙ sym (ap owner_word (else2 q other))));
      owned_by = λ q e c h. dite (ℕ_discrete q pool)
          (λ same. let o = owned_same d e class c (sym here2 ∙ (ap t2.holder (sym same) ∙ h)) in
          subst (λ (m : ℕ × ℕ × ℕ). (m.0 < k.pools) × (m.1 < k.domains) × (m.2 < class_count)) (λ j. (sym same j, o.0 j, o.1 j)) (all_clear.inside, (mine k s r id hist x at).inside, all_clear.of_class))
          (λ other. P.owned_by q e c (sym (else2 q other) ∙ h));
      drawn_by = λ q e h. dite (ℕ_discrete q pool)
          (λ same. absurd (drawn_owned e d class (sym h ∙ (ap t2.holder same ∙ here2))))
          (λ other. P.drawn_by q e (sym (else2 q other) ∙ h));
      one_each = P.one_each;
      asked = subst (λ (m : ℕ). m + sum_of T.asking k.domains ≤ k.pools + k.domains) (sym cursor2) P.asked;
    }

    stock_still : (e : ℕ) → e ≢ d → SameStock T.stock stock2 e
    stock_still e other = record { drawn = refl; copies = refl; latest = over_else d own_latest T.stock.latest e other; used = over_else d own_used T.stock.used e other; claims = refl }

    abbrev from_here : Search
    from_here = record { pool = pool; slot = 0; only = true }

    abbrev looked2 : List Search
    looked2 = set x.own.looked class from_here

    -- no block lives in it, as all its places are free
    lifeless2 : (q e c slot : ℕ) (p : Place) → q ≡ pool → t2.holder q ≡ owned e c → slot < blocks_of c → r.account.live (place_in q c slot) ≡ Some p → ⊥
    lifeless2 q e c slot p same is inside lives =
        head_full k r.account.cycling.paint r.account.live (state_of k r.account.log).graph s.words (place_in q c slot) p (r.whole.found (place_in q c slot) p lives) (free2 q e c slot same is inside)

    -- the pool is the one that the domain drew last for its class, and neither blocks nor garbage lie in it
    full2 : Fullness k r.account.log r.account.live t2.holder t2.fresh t2.garbage r.account.homes r.account.cycling.kind
    full2 =
        let f = r.whole.full in record {
          kept = f.kept;
          low = λ q e c slot p is inside lives. dite (ℕ_discrete q pool)
              (λ same. absurd (lifeless2 q e c slot p same is inside lives))
              (λ other. f.low q e c slot p (sym (else2 q other) ∙ is) inside lives);
          young = f.young;
          made = f.made;
          left = λ q e c slot is inside dead. dite (ℕ_discrete q pool)
              (λ same. absurd (garbage_full k r.account.live T r.account.cycling s.words r.whole.cycle.leaves (place_in q c slot) dead (free2 q e c slot same is inside)))
              (λ other. f.left q e c slot (sym (else2 q other) ∙ is) inside dead);
          owned = λ goes q e c is. dite (ℕ_discrete q pool)
              (λ same. let o = owned_same d e class c (sym here2 ∙ (ap t2.holder (sym same) ∙ is)) in inl (subst (λ (m : ℕ × ℕ). T.fresh m.0 m.1 ≡ Some q) (λ i. (o.0 i, o.1 i)) (all_clear.fresh_is ∙ ap Some (sym same))))
              (λ other. f.owned goes q e c (sym (else2 q other) ∙ is));
          drawn = λ q e is. dite (ℕ_discrete q pool)
              (λ same. absurd (drawn_owned e d class (sym is ∙ (ap t2.holder same ∙ here2))))
              (λ other. f.drawn q e (sym (else2 q other) ∙ is));
        }

    -- no ephemeron lives in it
    listeds2 : (z : DomainView) → Good k r.account s.words z → Listed r.account.live t2.holder t2.garbage z.own.number z.own.ephemerons.items
    listeds2 z g = record {
      all = λ q c slot is inside e. dite (ℕ_discrete q pool)
          (λ same. absurd (lifeless2 q z.own.number c slot e.place same is inside e.lives))
          (λ other. g.listed.all q c slot (sym (else2 q other) ∙ is) inside e);
      own = λ a is. own_place_on T.holder t2.holder a z.own.number (λ q c h. else2 q (λ same. drawn_owned d z.own.number c (sym all_clear.drawn_is ∙ (ap T.holder (sym same) ∙ h))) ∙ h) (g.listed.own a is);
      lives = g.listed.lives;
    }

    pub owns_rule : Rule k record { words = words2; homes = s.homes; views = set s.views id (one k hist (owning_pool x class pool (Fills pool class 0 []))) }
    owns_rule = holds_again k s r id hist x at (top_above x.own.swept.top pool) looked2 (Fills pool class 0 []) x.seen.free words2 t2 record {
      higher = (above_top x.own.swept.top pool).0;
      gained = λ q e c is. dite (ℕ_discrete q pool)
          (λ same. let o = owned_same d e class c (sym here2 ∙ (ap t2.holder (sym same) ∙ is)) in inr (sym o.0, subst (λ (m : ℕ). m < top_above x.own.swept.top pool) (sym same) (above_top x.own.swept.top pool).1))
          (λ other. inl (sym (else2 q other) ∙ is));
      takes = takes;
      known_free = known_free k s r id hist x at takes;
      listed_same = agrees.count;
      reserved = λ keeps i h above. nobody_still i h (r.whole.reserved keeps i (lower2 i h) (subst (λ (m : ℕ). limit_of k m ≤ i) agrees.count above));
      covered = λ goes q inside free. covered_words k r.account.pause T s.words words2 agrees.count cursor2 agrees.list P.few r.whole.covered goes q inside (nobody_was q free);
      room = room2;
      unused = unused2;
      wide = length-set s.words spot_owner signed;
      phases = phases_words k r.account.pause s.words words2 (other_word 1 (λ e. omega arith)) (other_word 2 (λ e. omega arith)) r.whole.phases;
      want = other_word 0 (λ e. omega arith);
      endings = other_word 8 (λ e. omega arith);
      cycle = record { armed_same = other_word 4 (λ e. omega arith); colours_same = other_word 5 (λ e. omega arith); changed_same = other_word 3 (λ e. omega arith); blocks_same = other_word 9 (λ e. omega arith); words_same = other_word 10 (λ e. omega arith) };
      garbage = garbage_agrees k T t2 s.words words2 r.account.live r.account.cycling agrees r.whole.cycle.leaves refl refl
          (λ q e c is. else2 q (λ same. drawn_owned d e c (sym all_clear.drawn_is ∙ (ap T.holder (sym same) ∙ is))) ∙ is);
      heads = λ a p lives. agrees.heap a (r.whole.placed.fits a p lives).low;
      listeds = listeds2;
      full = full2;
      found = found_agrees k r.account.cycling.paint r.account.live (state_of k r.account.log).graph s.words words2 agrees r.whole.placed r.whole.found;
      pools = pools2;
      drawers = record {
        drawn = λ q e h. dite (ℕ_discrete q pool)
            (λ same. absurd (drawn_owned e d class (sym h ∙ (ap t2.holder same ∙ here2))))
            (λ other. r.whole.drawers.drawn q e (sym (else2 q other) ∙ h));
        prepared = r.whole.drawers.prepared;
        claims = r.whole.drawers.claims;
      };
      grid = grid_over T pool (owned d class) T.asking T.fresh stock2 k r.account.live s.words words2 agrees (λ e c h. drawn_owned d e c (sym all_clear.drawn_is ∙ h))
          (λ e c slot h below. free2 pool e c slot refl (here2 ∙ h) below) r.whole.grid;
      makings = λ z p. making_agrees k s.words words2 z agrees p;
      hunter = record {
        hunt = record {
          own_is = here2;
          inside = (some_block class all_clear.of_class).0;
          free = agrees.heap (place_in pool class 0) (omega arith) ∙ all_clear.free 0 (some_block class all_clear.of_class).0;
          fits = (let z : ℕ = size_of class in let l : 4 ≤ z = size_least class all_clear.of_class in let g : 0 < z = omega arith in g);
          written = λ j w got. cc;
        };
        free = λ f e. free_later k s.words words2 agrees.count (equal_le cursor2) f (H.free f e);
        drawn_alone = λ q e. absurd (dite (ℕ_discrete q pool)
            (λ same. drawn_owned d d class (sym e ∙ (ap t2.holder same ∙ here2)))
            (λ other. other (sym (same_Some pool q (sym (ap drawn_in is) ∙ H.drawn_alone q (sym (else2 q other) ∙ e))))));
        spare = λ u e. let f = H.spare u e in record { own_is = owned_still u.pool u.class f.own_is; inside = f.inside; free = agrees.heap (place_in u.pool u.class u.slot) (omega arith) ∙ f.free };
        taken = λ q c slot owned_is below seen z.
            let unset : at_address k s.words (place_in q c slot) ≡ 0 = sym (agrees.heap (place_in q c slot) (omega arith)) ∙ z in
            dite (ℕ_discrete q pool)
            (λ same.
            let class_is : c ≡ class = sym (owned_same d d class c (sym here2 ∙ (ap t2.holder (sym same) ∙ owned_is))).1 in
            ⊎_elim (λ (b : IsBefore q slot (record { pool = pool; slot = 0 })). ⊎_elim (λ (h : q < pool). let e : q ≡ pool = same in omega arith) (λ (h : (q ≡ pool) × (slot < 0)). let l = h.1 in omega arith) b)
            (λ (h : (true ≡ true) × (pool < q)). let e : q ≡ pool = same in let l : pool < q = h.1 in omega arith)
            (subst (IsPassed q slot) (search_same x.own.looked class c from_here class_is all_clear.of_class wide) seen))
            (λ other.
            let own_before : T.holder q ≡ owned d c = sym (else2 q other) ∙ owned_is in
            dite (ℕ_discrete c class)
            (λ same. H.taken q c slot own_before below (inl (inl (let i : q < k.pools = (P.owned_by q d c own_before).0 in
            let full : k.pools ≤ (search_at x.own.looked c).pool = subst (λ (m : ℕ). k.pools ≤ (search_at x.own.looked m).pool) (sym same) none_free in
            let w : ℕ = (search_at x.own.looked c).pool in let g : q < w = omega arith in g))) unset)
            (λ differ. H.taken q c slot own_before below (subst (IsPassed q slot) (search_other x.own.looked class c from_here differ) seen) unset));
        holds = λ c a few e. let u = H.holds c a few e in (u.0, (u.1.0, u.1.1, owned_still u.1.0 c u.1.2, u.1.3, u.1.4));
        prepared = λ q c slot owned_is below e. H.prepared q c slot (owned_was q c (unprepared2 q c slot owned_is below e) owned_is) below e;
        claims = H.claims;
        supply = λ c few some. inr (dite (ℕ_discrete c class) (λ same. latest2 c same)
            (λ other. latest_other c other (⊎_elim (λ (u : DrawsFor c x.seen.hunt). absurd (other (sym (subst (DrawsFor c) is u)))) (λ (l : Latest k T s.words d c). l) (H.supply c few some))));
      };
      hunters = λ z other g. hunter_agree k T t2 s.words words2 agrees z (equal_le cursor2)
          (same_over T pool (owned d class) T.asking T.fresh stock2 z.own.number (let e : d ≢ z.own.number = (λ m. other (sym m)) in record { not_drawn = λ m. (drawn_not d z.own.number e).not_drawn (sym all_clear.drawn_is ∙ m); not_owned = λ c m. drawn_owned d z.own.number c (sym all_clear.drawn_is ∙ m) }) (owned_not d class z.own.number (λ m. other (sym m))) refl (λ c. refl) (stock_still z.own.number other)) g.hunter;
    }

  -- a word behind the head's of the place taken
  module _ (pool class slot new : ℕ) (made : List ℕ) (is : x.seen.hunt ≡ Fills pool class slot made) where
    pub filling : Filling k T.holder s.words d pool class slot made
    filling = subst (Hunts k T s.words d) is H.hunt

    abbrev m : ℕ
    m = length made

    abbrev B : ℕ
    B = place_in pool class slot + 1 + m

    pub few_class : class < class_count
    few_class = (P.owned_by pool d class filling.own_is).2

    pub lot_top : slot * size_of class + size_of class ≤ 4096
    lot_top = slot_inside class slot few_class filling.inside

    fill_low : pool * 4096 < B
    fill_low = omega arith

    -- the place isn't one of a live block
    pub not_live : (q : Place) → r.account.live (place_in pool class slot) ≡ Some q → ⊥
    not_live q lives = head_full k r.account.cycling.paint r.account.live (state_of k r.account.log).graph s.words (place_in pool class slot) q (r.whole.found (place_in pool class slot) q lives) filling.free

    -- live blocks lie beside the place taken
    pub live_far : (b : ℕ) (q : Place) → r.account.live b ≡ Some q → (b + extent q.shape ≤ place_in pool class slot) ⊎ (place_in pool class slot + size_of class ≤ b)
    live_far b q lives =
        let n : ℕ = extent q.shape in
        let y : ℕ = size_of class in
        let w : ℕ = slot * size_of class in
        let top : w + y ≤ 4096 = lot_top in
        dite (dec_le b (k.pools * 4096))
        (λ le.
        let l = r.whole.grid.lots b q lives le in
        let v : ℕ = size_of l.class in
        let u : ℕ = l.slot * size_of l.class in
        let o = P.owned_by l.pool l.domain l.class l.owned_is in
        let top' : u + v ≤ 4096 = slot_inside l.class l.slot o.2 l.inside in
        let begins : b ≡ l.pool * 4096 + u + 1 = l.begins in
        let fits : n ≤ v = l.fits in
        dite (ℕ_discrete l.pool pool)
        (λ same.
        let class_is : l.class ≡ class = (owned_same l.domain d l.class class (sym l.owned_is ∙ (ap T.holder same ∙ filling.own_is))).1 in
        let vy : v ≡ y = ap size_of class_is in
        let h : ℕ = l.slot * size_of class in
        let uh : u ≡ h = ap (λ (c : ℕ). l.slot * size_of c) class_is in
        let pool_is : l.pool ≡ pool = same in
        dite (ℕ_discrete l.slot slot)
        (λ eq. let hw : h ≡ w = ap (λ (i : ℕ). i * size_of class) eq in absurd (not_live q (subst (λ (i : ℕ). r.account.live i ≡ Some q) (let e : b ≡ pool * 4096 + w + 1 = omega arith in e) lives)))
        (λ ne. dite (dec_le l.slot slot)
        (λ below. let e : h + y ≤ w = slot_below class l.slot slot (let i : l.slot ≤ slot = below in let j : l.slot ≢ slot = ne in omega arith) in inl (let g : b + n ≤ pool * 4096 + w + 1 = omega arith in g))
        (λ above. let e : w + y ≤ h = slot_below class slot l.slot (lt_of_not-le above) in inr (let g : pool * 4096 + w + 1 + y ≤ b = omega arith in g))))
        (λ other. let ne : l.pool ≢ pool = other in dite (dec_le l.pool pool)
        (λ below. let e : l.pool ≤ pool = below in inl (let g : b + n ≤ pool * 4096 + w + 1 = omega arith in g))
        (λ above. let e : pool < l.pool = lt_of_not-le above in inr (let g : pool * 4096 + w + 1 + y ≤ b = omega arith in g))))
        (λ gt. let g : k.pools * 4096 < b = lt_of_not-le gt in let i : pool < k.pools = (P.owned_by pool d class filling.own_is).0 in inr (let e : pool * 4096 + w + 1 + y ≤ b = omega arith in e))

    -- a word of the place is beside all that others know of their pools
    pub others_beside : (z : DomainView) → z.own.number ≢ d → (a : ℕ) → pool * 4096 < a → a ≤ pool * 4096 + 4096 → Beside k T s.words z.own.number a
    others_beside z other a low high = pool_beside k T s.words pool a z.own.number P low high
        (λ e. drawn_owned z.own.number d class (sym e ∙ filling.own_is)) (λ c e. other (sym (owned_same d z.own.number class c (sym filling.own_is ∙ e)).0))

    -- no place of an owned pool lies inside of it
    pub inner_far : (q e c i : ℕ) → T.holder q ≡ owned e c → i < blocks_of c → (a : ℕ) → place_in pool class slot < a → a < place_in pool class slot + size_of class → place_in q c i ≢ a
    inner_far q e c i owned_is below a low high same =
        let y : ℕ = size_of class in
        let w : ℕ = slot * size_of class in
        let top : w + y ≤ 4096 = lot_top in
        let v : ℕ = size_of c in
        let u : ℕ = i * size_of c in
        let o = P.owned_by q e c owned_is in
        let large : 4 ≤ v = size_least c o.2 in
        let top' : u + v ≤ 4096 = slot_inside c i o.2 below in
        let l : pool * 4096 + w + 1 < a = low in
        let h : a < pool * 4096 + w + 1 + y = high in
        let at_a : q * 4096 + u + 1 ≡ a = same in
        let pool_is : q ≡ pool = omega arith in
        let class_is : c ≡ class = (owned_same e d c class (sym owned_is ∙ (ap T.holder pool_is ∙ filling.own_is))).1 in
        let p : ℕ = i * size_of class in
        let up : u ≡ p = ap (λ (b : ℕ). i * size_of b) class_is in
        dite (dec_le i slot)
        (λ le. dite (ℕ_discrete i slot)
        (λ eq. let f : p ≡ w = ap (λ (b : ℕ). b * size_of class) eq in omega arith)
        (λ ne. let f : p + y ≤ w = slot_below class i slot (let b : i ≤ slot = le in let g : i ≢ slot = ne in omega arith) in omega arith))
        (λ gt. let f : w + y ≤ p = slot_below class slot i (lt_of_not-le gt) in omega arith)

    module _ (room : m + 1 < size_of class) where
      abbrev ws3 : List ℕ
      ws3 = set s.words (before_heap k + B) new

      fill_high : B ≤ pool * 4096 + 4096
      fill_high = let y : ℕ = size_of class in let w : ℕ = slot * size_of class in let top : w + y ≤ 4096 = lot_top in let f : m + 1 < y = room in let g : pool * 4096 + w + 1 + 1 + m ≤ pool * 4096 + 4096 = omega arith in g

      spot3 : before_heap k + B < length s.words
      spot3 = let h = fill_high in let i = (P.owned_by pool d class filling.own_is).0 in let w : ℕ = k.domains * k.minor_words in let wide : length s.words ≡ table_words k = r.whole.wide in let b : ℕ = B in let g : b ≤ pool * 4096 + 4096 = h in omega arith

      above_head : place_in pool class slot < B
      above_head = omega arith

      below_end : B < place_in pool class slot + size_of class
      below_end = let y : ℕ = size_of class in let f : m + 1 < y = room in let p : ℕ = place_in pool class slot in let g : p + 1 + m < p + y = omega arith in g

      pub fills_rule : Rule k record { words = ws3; homes = s.homes; views = set s.views id (one k hist (with_hunt x (Fills pool class slot (made ++ new ∷ [])))) }
      fills_rule = let controls = controls_kept k s r id hist x at ws3 (control_set k s.words B new (omega arith)) in holds_again k s r id hist x at x.own.swept.top x.own.looked (Fills pool class slot (made ++ new ∷ [])) x.seen.free ws3 T record {
        higher = low_same x.own.swept.top;
        gained = λ q e b is. inl is;
        takes = takes;
        known_free = known_free k s r id hist x at takes;
        listed_same = control_set k s.words B new (omega arith) 6 (omega arith);
        reserved = controls.reserved;
        covered = controls.covered;
        room = room_words k r.account.live r.account.pause T.stock s.words ws3 controls.counts r.whole.room;
        unused = r.whole.unused;
        wide = length-set s.words (before_heap k + B) new;
        phases = phases_same k r.account.pause s.words ws3 (control_set k s.words B new (omega arith)) r.whole.phases;
        want = control_set k s.words B new (omega arith) 0 (omega arith);
        endings = control_set k s.words B new (omega arith) 8 (omega arith);
        cycle = cycle_control k s.words ws3 (control_set k s.words B new (omega arith));
        garbage = garbage_here k s r id hist x at r.account.live ws3 r.whole.cycle.leaves.dead
            (garbage_heads k T r.account.live r.account.cycling s.words B new (λ q e c i owned_is below. inner_far q e c i owned_is below B above_head below_end) r.whole.cycle.leaves);
        heads = λ b q lives. stays k T s.words B new b (λ same. let n : ℕ = extent q.shape in let p : ℕ = place_in pool class slot in let y : ℕ = size_of class in let f : m + 1 < y = room in let o : b ≡ p + 1 + m = same in let l : 0 < n = some_word b q lives in ⊎_elim (λ (h : b + n ≤ p). omega arith) (λ (h : p + y ≤ b). omega arith) (live_far b q lives));
        listeds = λ z g. g.listed;
        full = r.whole.full;
        found = λ b q lives. let f = r.whole.found b q lives in found_beside k r.account.cycling.paint r.account.live r.account.live (state_of k r.account.log).graph (state_of k r.account.log).graph s.words B new b q (more_same r.account.live) f f.there
            (λ z inside e. let n : ℕ = extent q.shape in let p : ℕ = place_in pool class slot in let y : ℕ = size_of class in let i : z < n = inside in let same : b + z ≡ p + 1 + m = e in let f : m + 1 < y = room in
            ⊎_elim (λ (h : b + n ≤ p). omega arith) (λ (h : p + y ≤ b). omega arith) (live_far b q lives));
        pools = pools_same k T s.words ws3 (control_set k s.words B new (omega arith)) P;
        drawers = r.whole.drawers;
        grid = record {
          lots = r.whole.grid.lots;
          places = λ q e c i owned_is below. ⊎_elim
              (λ (z : at_address k s.words (place_in q c i) ≡ 0). inl (stays k T s.words B new (place_in q c i) (inner_far q e c i owned_is below B above_head below_end) ∙ z))
              (λ z. inr z) (r.whole.grid.places q e c i owned_is below);
          spares = spares_stay k T r.account.live s.words B new (λ q e c i owned_is below. inner_far q e c i owned_is below B above_head below_end) r.whole.grid;
        };
        makings = λ z p. making_beside k s.words B new z (λ j fits e. let i : pool < k.pools = (P.owned_by pool d class filling.own_is).0 in let h : B ≤ pool * 4096 + 4096 = fill_high in let n : ℕ = z.own.number * k.minor_words in let a : ℕ = B in let same : k.pools * 4096 + n + 1 + z.own.used + 1 + j ≡ a = e in omega arith) p;
        hunter = record {
          hunt = record {
            own_is = filling.own_is;
            inside = filling.inside;
            free = stays k T s.words B new (place_in pool class slot) (λ e. omega arith) ∙ filling.free;
            fits = subst (λ (n : ℕ). n < size_of class) (sym (length_end made new)) room;
            written = λ j w got. ⊎_elim
                (λ (g : slice_get made j ≡ Some w). let below : j < m = got_below made j w g in stays k T s.words B new (place_in pool class slot + 1 + j) (λ e. omega arith) ∙ filling.written j w g)
                (λ (g : (j ≡ m) × (new ≡ w)). ap (λ (i : ℕ). at_address k ws3 (place_in pool class slot + 1 + i)) g.0 ∙ (get_or-set_same s.words (before_heap k + B) new 0 spot3 ∙ g.1))
                (got_end made new w j got);
          };
          drawn_alone = λ q e. sym (ap drawn_in is) ∙ H.drawn_alone q e;
          free = λ f e. free_later k s.words ws3 (control_set k s.words B new (omega arith) 6 (omega arith)) (equal_le (control_set k s.words B new (omega arith) 7 (omega arith))) f (H.free f e);
          spare = λ u e. let f = H.spare u e in record { own_is = f.own_is; inside = f.inside; free = stays k T s.words B new (place_in u.pool u.class u.slot) (inner_far u.pool d u.class u.slot f.own_is f.inside B above_head below_end) ∙ f.free };
          taken = λ q c i owned_is below seen e. H.taken q c i owned_is below seen (sym (stays k T s.words B new (place_in q c i) (inner_far q d c i owned_is below B above_head below_end)) ∙ e);
          holds = H.holds;
          prepared = H.prepared;
          claims = H.claims;
          supply = λ c few some. ⊎_elim (λ (u : DrawsFor c x.seen.hunt). absurd (draws_none c x.seen.hunt (ap drawn_in is) u))
              (λ (l : Latest k T s.words d c). inr (latest_words k T s.words ws3 d c (λ q i owned_is below. stays k T s.words B new (place_in q c i) (inner_far q d c i owned_is below B above_head below_end)) l)) (H.supply c few some);
        };
        hunters = λ z other g. hunter_beside k T s.words B new P z (others_beside z other B fill_low fill_high) g.hunter;
      } where
        length_end : (l : List ℕ) (a : ℕ) → length (l ++ a ∷ []) ≡ length l + 1
        length_end [] a = refl
        length_end (y ∷ l) a = let e = length_end l a in omega arith
