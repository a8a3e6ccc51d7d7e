-- The steps that take a free block of the pools keep the rule.
use Rattle.model_core.specs.Domains.{class_count, reserve}
use Rattle.heap_rule.specs.Limits.{sizes_in}
use Rattle.std.proofs.Common.{◌≡◌, ◌≢◌, ℕ, ◌+◌, ◌*◌, ◌-◌, ◌^◌, ◌%◌, ◌<◌, ◌≤◌, ◌⊎◌, List, [], ◌∷◌, length, get_or, set, slice_get, Option, Some, None, sym, refl, ap, ◌∙◌, subst, inl, inr, ⊎_elim, arith, add-one, suc-mul, length-set, get_or-set_same, get_or-set_other, IsTrue, Bool}
use mathlib.Core.Logic.{dite}
use native.Mathlib.Decide.{ℕ_discrete}
use mathlib.Core.Option.{some}
use lib.ListN.{get_elem?}
use Rattle.model_core.specs.declared.entry.Entry.{Entry}
use Rattle.heap_rule.specs.declared.config.Config.{Config}
use Rattle.heap_rule.specs.declared.view.DomainView.{DomainView}
use Rattle.heap_rule.specs.declared.view.Hunt.{Hunt}
use Rattle.heap_rule.specs.declared.view.Hunt.TheVariants.{Rests, Counts, Asks, Draws, Walks, Fills, Labels, Heads}
use Rattle.heap_rule.specs.declared.view.Search.{Search}
use Rattle.heap_rule.specs.declared.phase.Kind.{Kind}
use Rattle.heap_rule.specs.declared.phase.Kind.TheVariants.{Run, Promote}
use Rattle.heap_rule.specs.declared.phase.Stage.TheVariants.{In}
use Rattle.heap_rule.specs.Layout.{heap_words, table_words, at_address, listed, cursor, listed_pool, owner_of}
use Rattle.heap_rule.specs.Views.{one}
use Rattle.heap_rule.specs.Room.{Room, IsUnused, drawn_in_all}
use Rattle.heap_rule.specs.Rule.{Good, state_of, Rule}
use Rattle.heap_rule.specs.Copies.{Promoting}
use Rattle.heap_rule.specs.Pools.{Holder, nobody, drawn, owned, owner_word, Stock, Tenancy, Takes, Pools, KeepsReserve, IsTaking, Hunts, Hunter, Latest, DrawsFor, IsPassed, search_at, drawn_in, hunting, hunting_free, place_in, blocks_of, limit_of, prepared_at}
use Rattle.heap_rule.specs.Phases.{Phases, AtStage, sum_of}
use Rattle.step_pools.specs.Takes.{with_hunt, found_free, HasNoDraw, LeavesSpare, NoneFree}
use Rattle.heap_rule.proofs.Update.{over, over_here, over_else}
use Rattle.step_pools.proofs.Tops.{low_same}
use Rattle.heap_rule.proofs.Keeps.{Words, mine, my_good, phases_words, holds_again, room_words, whole_words, run_copying}
use Rattle.heap_rule.proofs.PauseFacts.{run_promoting, promote_now}
use Rattle.heap_rule.proofs.Controls.{sum_one}
use Rattle.heap_rule.proofs.EphemeronLemmas.{listed_on}
use Rattle.heap_rule.proofs.Lots.{drawn_same, number_cases}
use Rattle.heap_rule.proofs.Holders.{Agrees, agrees_same, agrees_set, found_agrees, making_agrees, SameStock, stock_self, same_asking, same_over, NotOf, nobody_not, drawn_not, drawn_owned, grid_heap, grid_over, free_later, hunter_agree, sum_over, sum_small}
use Rattle.heap_rule.proofs.Sharings.{SameCycle, cycle_unmoved}
use Rattle.heap_rule.specs.Fullness.{Fullness}
use Rattle.model_cycle.specs.Fullness.{kept_labels, HoldsKept}
use Rattle.heap_rule.proofs.Classes.{some_block}
use Rattle.heap_rule.specs.Places.{Place, Live}
use Rattle.std.proofs.lemmas.Option.{none-some, same_Some}
use Rattle.heap_rule.proofs.Stages.{copying_keeps}
use Rattle.heap_rule.specs.Cycles.{Cycling, Leaves}
use Rattle.heap_rule.proofs.Garbage.{KeepsGarbage, garbage_same}

-- which owner word is which holder's
pub own_word : (h : Holder) (d c : ℕ) → c < class_count → ((e b : ℕ) → h ≡ owned e b → b < class_count) → owner_word h ≡ 16 * d + c + 1 → h ≡ owned d c
own_word nobody d c few each e = absurd (omega arith)
own_word (drawn b) d c few each e = absurd (omega arith)
own_word (owned a b) d c few each e =
    let small : b < class_count = each a b refl in
    let x : a ≡ d = omega arith in
    let y : b ≡ c = omega arith in λ i. owned (x i) (y i)

-- a hunt without a drawn pool draws for no class
pub draws_none : (c : ℕ) (h : Hunt) → drawn_in h ≡ None → DrawsFor c h → ⊥
draws_none c Rests none is = is
draws_none c (Counts n) none is = is
draws_none c (Asks n) none is = is
draws_none c (Draws place pool class cleared) none is = none-some pool (sym none)
draws_none c (Walks pool class) none is = is
draws_none c (Fills pool class slot made) none is = is
draws_none c (Labels address label) none is = is
draws_none c (Heads address label head) none is = is

-- what a domain knows of its pools goes on where it has drawn none, and another hunt is known
pub hunter_on : (k : Config) (t : Tenancy) (words : List ℕ) (x : DomainView) (looked : List Search) (h : Hunt) (free : List ℕ) → Hunts k t words x.own.number h → drawn_in x.seen.hunt ≡ None
    → ((q c slot : ℕ) → t.holder q ≡ owned x.own.number c → slot < blocks_of c → IsPassed q slot (search_at looked c) → at_address k words (place_in q c slot) ≢ 0)
    → ((f : ℕ) → slice_get free 0 ≡ Some f → (listed words ≤ f + cursor words) × (listed words ≤ f + limit_of k (listed words)) × (f ≤ listed words)) → Hunter k t words x → Hunter k t words (hunting_free x looked h free)
hunter_on k t words x looked h free knows none taken bounds hunter = record {
  hunt = knows;
  drawn_alone = λ q e. absurd (none-some q (sym none ∙ hunter.drawn_alone q e));
  taken = taken;
  free = bounds;
  spare = hunter.spare;
  holds = hunter.holds;
  prepared = hunter.prepared;
  claims = hunter.claims;
  supply = λ c few some. ⊎_elim (λ (u : DrawsFor c x.seen.hunt). absurd (draws_none c x.seen.hunt none u)) (λ (l : Latest k t words x.own.number c). inr l) (hunter.supply c few some);
}

-- the pool drawn last stays so where no word of its places changes
pub latest_words : (k : Config) (t : Tenancy) (words words' : List ℕ) (d c : ℕ) → ((q slot : ℕ) → t.holder q ≡ owned d c → slot < blocks_of c → at_address k words' (place_in q c slot) ≡ at_address k words (place_in q c slot)) → Latest k t words d c → Latest k t words' d c
latest_words k t words words' d c stays l = record {
  own_is = l.own_is;
  few = l.few;
  enough = l.enough;
  rest = λ j from inside. ⊎_elim
      (λ (z : at_address k words (place_in (t.stock.latest d c) c j) ≡ 0). inl (stays (t.stock.latest d c) j l.own_is inside ∙ z))
      (λ (z : (j ≡ t.stock.used d c) × (t.prepared (place_in (t.stock.latest d c) c j) ≡ Some d)). inr z)
      (l.rest j from inside);
}

-- garbage stays where no word of the heap changes, and owned pools stay so
pub garbage_agrees : (k : Config) (t t' : Tenancy) (words words' : List ℕ) (live : Live) (c : Cycling) → Agrees k words words' → Leaves k live t c words → t'.garbage ≡ t.garbage → t'.prepared ≡ t.prepared
    → ((q d b : ℕ) → t.holder q ≡ owned d b → t'.holder q ≡ owned d b) → KeepsGarbage k live t t' words words'
garbage_agrees k t t' words words' live c agrees l same prepared held = record {
  same = λ a. ap (λ (f : ℕ → Bool). f a) same;
  dead = l.dead;
  unprepared = λ a is. ap (λ (f : ℕ → Option ℕ). f a) prepared ∙ l.unprepared a is;
  heads = λ a is. let o = (l.owned a is).1 in agrees.heap a (let b : a ≡ place_in o.pool o.class o.slot = o.begins in omega arith);
  held = held;
}

module _ (k : Config) (s : Words) (r : Rule k s) (id : ℕ) (hist : List Entry) (x : DomainView) (at : get_elem? s.views id ≡ some (one k hist x)) (takes : Takes x.seen.stage) where
  abbrev pub me : ℕ
  me = x.own.number

  abbrev pub t : Tenancy
  t = r.account.tenancy

  -- with so many listed and asked for, no more than f are free
  abbrev pub BoundsFree : ℕ → ℕ → ℕ → Type 0
  BoundsFree n c f = (n ≤ f + c) × (n ≤ f + limit_of k n) × (f ≤ n)

  -- where the cursor is below the limit, and where it is past it
  below_bounds : (n c : ℕ) → c < limit_of k n → BoundsFree n c (n - c)
  below_bounds n c below = let l : ℕ = limit_of k n in let p : c < l = below in (omega arith, (let a : n ≤ n - c + l = omega arith in a), omega arith)

  pub past_bounds : (n c : ℕ) → limit_of k n ≤ c → BoundsFree n c (n - limit_of k n)
  past_bounds n c past = let l : ℕ = limit_of k n in let p : l ≤ c = past in ((let a : n ≤ n - l + c = omega arith in a), (let a : n ≤ n - l + l = omega arith in a), (let a : n - l ≤ n = omega arith in a))

  pub hunter : Hunter k t s.words x
  hunter = (my_good k s r id hist x at).hunter

  pub pools : Pools k t s.words
  pools = r.whole.pools

  -- the place that is known to be free isn't passed
  pub leaves_spare : LeavesSpare k x
  leaves_spare z e none =
      let f = hunter.spare z e in
      let inside : z.pool < k.pools = (pools.owned_by z.pool me z.class f.own_is).0 in
      let full : k.pools ≤ (search_at x.own.looked z.class).pool = none in
      let w : ℕ = (search_at x.own.looked z.class).pool in
      let before : z.pool < w = omega arith in
      hunter.taken z.pool z.class z.slot f.own_is f.inside (inl (inl before)) f.free

  -- where it doesn't run, it knows nothing of how many pools are free
  pub known_free : x.seen.stage ≢ In Run → x.seen.free ≡ []
  known_free = (my_good k s r id hist x at).resting.free

  -- while it runs, copying has drawn no pool
  pub none_drawn : x.seen.stage ≡ In Run → (c : ℕ) → 0 < t.stock.drawn me c → ⊥
  none_drawn runs c has =
      let e : t.stock.drawn me c ≡ 0 = ap (λ (u : Stock). u.drawn me c) (r.whole.unused (run_promoting r.account.pause x runs (my_good k s r id hist x at).staged)) in
      let n : ℕ = t.stock.drawn me c in let z : n ≡ 0 = e in let y : 0 < n = has in omega arith

  -- and nothing is said of the room for copies
  pub run_room : x.seen.stage ≡ In Run → (words' : List ℕ) → Room k r.account.live r.account.pause t.stock words'
  run_room runs words' = room_words k r.account.live r.account.pause t.stock s.words words' (λ p. absurd (run_promoting r.account.pause x runs (my_good k s r id hist x at).staged p)) r.whole.room

  -- the domain takes blocks in this phase
  pub own_taking : IsTaking r.account.pause me
  own_taking =
      let st = (my_good k s r id hist x at).staged in
      let by : (kind : Kind) → x.seen.stage ≡ In kind → (kind ≡ Run) ⊎ (kind ≡ Promote) → IsTaking r.account.pause me = (λ kind is which.
      let a = subst (AtStage r.account.pause me x.own.arrivals) is st.stage in
      (sym st.arrivals ∙ a.0, (a.1.0, a.1.1, ⊎_elim (λ (e : kind ≡ Run). inl (a.1.2 ∙ e)) (λ (e : kind ≡ Promote). inr (a.1.2 ∙ e)) which))) in
      ⊎_elim (λ (h : x.seen.stage ≡ In Run). by Run h (inl refl)) (λ (h : x.seen.stage ≡ In Promote). by Promote h (inr refl)) takes

  -- what is known by a hunt without a drawn pool goes on to another one
  pub next_hunter : (h : Hunt) → Hunts k t s.words me h → drawn_in x.seen.hunt ≡ None → Hunter k t s.words (with_hunt x h)
  next_hunter h knows free = hunter_on k t s.words x x.own.looked h x.seen.free knows free hunter.taken hunter.free hunter

  -- a step that changes no word, after which domains ask so, and the domain knows more of the pools
  asks : (asking' : ℕ → ℕ) (looked : List Search) (h : Hunt) (free : List ℕ) → let t' : Tenancy = record t { asking = asking' } in let y : DomainView = hunting_free x looked h free in (x.seen.stage ≢ In Run → free ≡ []) → Pools k t' s.words → Hunter k t' s.words y
      → ((z : DomainView) → z.own.number ≢ me → Good k r.account s.words z → Hunter k t' s.words z) → Rule k record { words = s.words; homes = s.homes; views = set s.views id (one k hist y) }
  asks asking' looked h free known same own others = let t' : Tenancy = record t { asking = asking' } in holds_again k s r id hist x at x.own.swept.top looked h free s.words t' record {
    higher = low_same x.own.swept.top;
    gained = λ q e b is. inl is;
    takes = takes;
    known_free = known;
    wide = refl;
    phases = r.whole.phases;
    want = refl;
    listed_same = refl;
    reserved = r.whole.reserved;
    covered = r.whole.covered;
    room = r.whole.room;
    unused = r.whole.unused;
    endings = refl;
    cycle = cycle_unmoved s.words;
    garbage = garbage_agrees k t t' s.words s.words r.account.live r.account.cycling (agrees_same k s.words) r.whole.cycle.leaves refl refl (λ q d c e. e);
    heads = λ a p e. refl;
    listeds = λ z g. let l = g.listed in record { all = l.all; own = l.own; lives = l.lives };
    full = r.whole.full;
    found = r.whole.found;
    pools = same;
    grid = let g = r.whole.grid in record { lots = g.lots; places = g.places; spares = g.spares };
    drawers = let d = r.whole.drawers in record { drawn = d.drawn; prepared = d.prepared; claims = d.claims };
    makings = λ z p. p;
    hunter = own;
    hunters = others;
  }

  -- a load that tells more of the pools, and maybe of how many are free
  tells : (looked : List Search) (h : Hunt) (free : List ℕ) → (x.seen.stage ≢ In Run → free ≡ []) → Hunter k t s.words (hunting_free x looked h free) → Rule k record { words = s.words; homes = s.homes; views = set s.views id (one k hist (hunting_free x looked h free)) }
  tells looked h free known own = asks t.asking looked h free known pools own (λ z _ g. g.hunter)

  pub knows : (looked : List Search) (h : Hunt) → Hunter k t s.words (hunting x looked h) → Rule k record { words = s.words; homes = s.homes; views = set s.views id (one k hist (hunting x looked h)) }
  knows looked h own = tells looked h x.seen.free known_free own

  -- the count of listed pools
  pub listed_rule : HasNoDraw x → Rule k record { words = s.words; homes = s.homes; views = set s.views id (one k hist (with_hunt x (Counts (listed s.words)))) }
  listed_rule free = knows x.own.looked (Counts (listed s.words)) (next_hunter (Counts (listed s.words)) refl free)

  -- no more pools are free than a look found, and the domain takes none
  looked_rule : x.seen.stage ≡ In Run → HasNoDraw x → (f : ℕ) → BoundsFree (listed s.words) (cursor s.words) f → Rule k record { words = s.words; homes = s.homes; views = set s.views id (one k hist (found_free x f Rests)) }
  looked_rule runs none f bounds = tells x.own.looked Rests (f ∷ x.seen.free) (λ stays. absurd (stays runs))
      (hunter_on k t s.words x x.own.looked Rests (f ∷ x.seen.free) tt none hunter.taken
      (λ g e. subst (BoundsFree (listed s.words) (cursor s.words)) (same_Some f g e) bounds) hunter)

  -- as many are free as the load of the cursor found
  pub rests_rule : x.seen.stage ≡ In Run → (n f : ℕ) → x.seen.hunt ≡ Counts n → BoundsFree n (cursor s.words) f → Rule k record { words = s.words; homes = s.homes; views = set s.views id (one k hist (found_free x f Rests)) }
  rests_rule runs n f is bounds = looked_rule runs (ap drawn_in is) f (subst (λ (m : ℕ). BoundsFree m (cursor s.words) f) (sym (subst (Hunts k t s.words me) is hunter.hunt)) bounds)

  -- no more are free than are listed
  pub young_rule : x.seen.stage ≡ In Run → HasNoDraw x → Rule k record { words = s.words; homes = s.homes; views = set s.views id (one k hist (found_free x (listed s.words) Rests)) }
  young_rule runs none =
      let n : ℕ = listed s.words in
      let c : ℕ = cursor s.words in
      let l : ℕ = limit_of k n in
      looked_rule runs none n ((let a : n ≤ n + c = omega arith in a), (let a : n ≤ n + l = omega arith in a), (let a : n ≤ n = omega arith in a))

  asking_small : (d : ℕ) → over me 1 t.asking d ≤ 1
  asking_small d = dite (ℕ_discrete d me)
      (λ same. subst (λ (n : ℕ). n ≤ 1) (sym (ap (over me 1 t.asking) same ∙ over_here me 1 t.asking)) (omega arith))
      (λ other. subst (λ (n : ℕ). n ≤ 1) (sym (over_else me 1 t.asking d other)) (pools.one_each d))

  pub asks_rule : x.seen.stage ≡ In Run → (n : ℕ) → x.seen.hunt ≡ Counts n → cursor s.words < limit_of k n → Rule k record { words = s.words; homes = s.homes; views = set s.views id (one k hist (found_free x (n - cursor s.words) (Asks n))) }
  asks_rule runs n is below =
      let counts : listed s.words ≡ n = subst (Hunts k t s.words me) is hunter.hunt in
      let t' : Tenancy = record t { asking = over me 1 t.asking } in
      let same : Pools k t' s.words = record {
        few = pools.few;
        inside = pools.inside;
        once = pools.once;
        untaken = pools.untaken;
        owners = pools.owners;
        owned_by = pools.owned_by;
        drawn_by = pools.drawn_by;
        one_each = asking_small;
        asked = let c : ℕ = cursor s.words in let l : ℕ = listed s.words in let f : l ≤ k.pools = pools.few in let e : l ≡ n = counts in
            let m : ℕ = limit_of k n in let b : c < m = below in let o : m ≤ n = limit_low n in
            let u : ℕ = sum_of (over me 1 t.asking) k.domains in let v : u ≤ k.domains = sum_small (over me 1 t.asking) k.domains asking_small in
            let g : c + u ≤ k.pools + k.domains = omega arith in g;
      } in
      let own : Hunter k t' s.words (hunting_free x x.own.looked (Asks n) ((n - cursor s.words) ∷ x.seen.free)) = record {
        hunt = (counts, over_here me 1 t.asking);
        free = λ f e. subst (BoundsFree (listed s.words) (cursor s.words)) (same_Some (n - cursor s.words) f e) (subst (λ (m : ℕ). BoundsFree m (cursor s.words) (n - cursor s.words)) (sym counts) (below_bounds n (cursor s.words) below));
        drawn_alone = λ q e. sym (ap drawn_in is) ∙ hunter.drawn_alone q e;
        spare = hunter.spare;
        taken = hunter.taken;
        holds = hunter.holds;
        prepared = hunter.prepared;
        claims = hunter.claims;
        supply = λ c _ some. absurd (none_drawn runs c some);
      } in
      asks (over me 1 t.asking) x.own.looked (Asks n) ((n - cursor s.words) ∷ x.seen.free) (λ stays. absurd (stays runs)) same own
      (λ z other g. hunter_agree k t t' s.words s.words (agrees_same k s.words) z (let c : ℕ = cursor s.words in let o : c ≤ c = omega arith in o) (same_asking t (over me 1 t.asking) z.own.number (over_else me 1 t.asking z.own.number other)) g.hunter)
    where
      limit_low : (n : ℕ) → limit_of k n ≤ n
      limit_low n = let e : ℕ = limit_of k n in omega arith

  -- an add to the cursor, after which domains ask so
  module _ (asking' : ℕ → ℕ) (small : (d : ℕ) → asking' d ≤ 1) (beside : (d : ℕ) → d ≢ me → asking' d ≡ t.asking d) (sums : cursor s.words + 1 + sum_of asking' k.domains ≤ k.pools + k.domains) where
    abbrev c : ℕ
    c = cursor s.words

    abbrev words1 : List ℕ
    words1 = set s.words 7 (c + 1)

    -- the word doesn't wrap
    pub whole_word : (c + 1) % 2 ^ 64 ≡ c + 1
    whole_word = let b = sums in let u : ℕ = sum_of asking' k.domains in let p = r.limits.pools in let d = r.limits.domains in let f : c + 1 + u ≤ k.pools + k.domains = b in omega arith

    agrees : Agrees k s.words words1
    agrees = agrees_set k s.words 7 (c + 1) (λ e. omega arith) (inl (omega arith)) (omega arith)

    long : 7 < length s.words
    long = let w : length s.words ≡ table_words k = r.whole.wide in let h : ℕ = heap_words k in omega arith

    cursor_is : cursor words1 ≡ c + 1
    cursor_is = get_or-set_same s.words 7 (c + 1) 0 long

    cursor_grows : cursor s.words ≤ cursor words1
    cursor_grows = subst (λ (m : ℕ). c ≤ m) (sym cursor_is) (let e : c ≤ c + 1 = omega arith in e)

    other_word : (j : ℕ) → j ≢ 7 → get_or words1 j 0 ≡ get_or s.words j 0
    other_word j differ = get_or-set_other s.words 7 j (c + 1) 0 differ

    phases1 : Phases k r.account.pause words1
    phases1 = phases_words k r.account.pause s.words words1 (other_word 1 (λ e. omega arith)) (other_word 2 (λ e. omega arith)) r.whole.phases

    cycle1 : SameCycle s.words words1
    cycle1 = record { armed_same = other_word 4 (λ e. omega arith); colours_same = other_word 5 (λ e. omega arith); changed_same = other_word 3 (λ e. omega arith); blocks_same = other_word 9 (λ e. omega arith); words_same = other_word 10 (λ e. omega arith) }

    owners1 : (q : ℕ) → q < k.pools → owner_of k words1 q ≡ owner_word (t.holder q)
    owners1 q h = other_word (11 + k.pools + q) (λ e. omega arith) ∙ pools.owners q h

    lower : (i : ℕ) → i < listed words1 → i < listed s.words
    lower i h = subst (λ (m : ℕ). i < m) agrees.count h

    names : (i : ℕ) → i < listed words1 → listed_pool words1 i ≡ listed_pool s.words i
    names i h = let l = lower i h in let m : ℕ = listed s.words in let f : m ≤ k.pools = pools.few in let g : i < m = l in agrees.list i (omega arith)

    -- what is behind the cursor was so before
    behind : (i : ℕ) → cursor words1 ≤ i → c < i
    behind i b = let m : ℕ = cursor words1 in let e : m ≡ c + 1 = cursor_is in let f : m ≤ i = b in let o : c < i = omega arith in o

    -- a pool that was listed, and not at the cursor, still is, behind the cursor or in the reserve
    abbrev IsListed : List ℕ → ℕ → Type 0
    IsListed words q = (i : ℕ) × (i < listed words) × (listed_pool words i ≡ q) × ((cursor words ≤ i) ⊎ (limit_of k (listed words) ≤ i))

    still_listed : (q : ℕ) → (at : IsListed s.words q) → (at.0 ≡ c → (c + 1 ≤ at.0) ⊎ (limit_of k (listed s.words) ≤ at.0)) → IsListed words1 q
    still_listed q at here =
        let i : ℕ = at.0 in
        let low : i < listed words1 = subst (λ (m : ℕ). i < m) (sym agrees.count) at.1 in
        let place : (c + 1 ≤ i) ⊎ (limit_of k (listed s.words) ≤ i) = ⊎_elim
        (λ (h : c ≤ i). dite (ℕ_discrete i c) here (λ other. inl (let l : c ≤ i = h in let n : i ≢ c = other in let o : c + 1 ≤ i = omega arith in o)))
        (λ (h : limit_of k (listed s.words) ≤ i). inr h) at.3 in
        (i, low, names i low ∙ at.2, subst (λ (m : ℕ × ℕ). (m.0 ≤ i) ⊎ (limit_of k m.1 ≤ i)) (λ j. (sym cursor_is j, sym agrees.count j)) place)

    -- it found none
    pub late_rule : x.seen.stage ≡ In Run → (n : ℕ) → x.seen.hunt ≡ Asks n → limit_of k n ≤ c → Rule k record { words = words1; homes = s.homes; views = set s.views id (one k hist (found_free x (n - limit_of k n) Rests)) }
    late_rule runs n is past = holds_again k s r id hist x at x.own.swept.top x.own.looked Rests ((n - limit_of k n) ∷ x.seen.free) words1 (record t { asking = asking' }) record {
      higher = low_same x.own.swept.top;
      gained = λ q e b is. inl is;
      takes = takes;
      known_free = λ stays. absurd (stays runs);
      wide = length-set s.words 7 (c + 1);
      phases = phases1;
      want = other_word 0 (λ e. omega arith);
      listed_same = agrees.count;
      reserved = λ keeps i h above. ap t.holder (names i h) ∙ r.whole.reserved keeps i (lower i h) (subst (λ (m : ℕ). limit_of k m ≤ i) agrees.count above);
      covered = λ goes q inside free. let at = r.whole.covered (whole_words r.account.pause s.words words1 agrees.count goes) q inside free in still_listed q at (λ here. inr (late_place at.0 here));
      room = run_room runs words1;
      unused = r.whole.unused;
      endings = other_word 8 (λ e. omega arith);
      cycle = cycle1;
      garbage = garbage_agrees k t (record t { asking = asking' }) s.words words1 r.account.live r.account.cycling agrees r.whole.cycle.leaves refl refl (λ q d c e. e);
      heads = λ a p e. agrees.heap a (r.whole.placed.fits a p e).low;
      listeds = λ z g. let l = g.listed in record { all = l.all; own = l.own; lives = l.lives };
      full = r.whole.full;
      found = found_agrees k r.account.cycling.paint r.account.live (state_of k r.account.log).graph s.words words1 agrees r.whole.placed r.whole.found;
      pools = record {
        few = subst (λ (m : ℕ). m ≤ k.pools) (sym agrees.count) pools.few;
        inside = λ i h. subst (λ (q : ℕ). q < k.pools) (sym (names i h)) (pools.inside i (lower i h));
        once = λ i j h g e. pools.once i j (lower i h) (lower j g) (sym (names i h) ∙ (e ∙ names j g));
        untaken = λ i h g. ap t.holder (names i h) ∙ pools.untaken i (lower i h) (let b : c < i = behind i g in omega arith);
        owners = owners1;
        owned_by = pools.owned_by;
        drawn_by = pools.drawn_by;
        one_each = small;
        asked = subst (λ (m : ℕ). m + sum_of asking' k.domains ≤ k.pools + k.domains) (sym cursor_is) sums;
      };
      drawers = let d = r.whole.drawers in record { drawn = d.drawn; prepared = d.prepared; claims = d.claims };
      grid = let g = grid_heap k t r.account.live s.words words1 agrees.heap r.whole.grid in record { lots = g.lots; places = g.places; spares = g.spares };
      makings = λ z p. making_agrees k s.words words1 z agrees p;
      hunter = record {
        hunt = tt;
        free = λ f e. late_free f (same_Some (n - limit_of k n) f e);
        drawn_alone = λ q e. sym (ap drawn_in is) ∙ hunter.drawn_alone q e;
        spare = λ u e. let f = hunter.spare u e in record { own_is = f.own_is; inside = f.inside; free = agrees.heap (place_in u.pool u.class u.slot) (omega arith) ∙ f.free };
        taken = λ q c slot is inside low e. hunter.taken q c slot is inside low (sym (agrees.heap (place_in q c slot) (omega arith)) ∙ e);
        holds = hunter.holds;
        prepared = hunter.prepared;
        claims = hunter.claims;
        supply = λ c _ some. absurd (none_drawn runs c some);
      };
      hunters = λ z other g. hunter_agree k t (record t { asking = asking' }) s.words words1 agrees z cursor_grows (same_asking t asking' z.own.number (beside z.own.number other)) g.hunter;
    } where
      late_place : (i : ℕ) → i ≡ c → limit_of k (listed s.words) ≤ i
      late_place i here =
          let asked : (listed s.words ≡ n) × (t.asking me ≡ 1) = subst (Hunts k t s.words me) is hunter.hunt in
          subst (λ (m : ℕ). limit_of k m ≤ i) (sym asked.0) (let l : ℕ = limit_of k n in let p : l ≤ c = past in let e : i ≡ c = here in let o : l ≤ i = omega arith in o)

      late_free : (f : ℕ) → n - limit_of k n ≡ f → (listed words1 ≤ f + cursor words1) × (listed words1 ≤ f + limit_of k (listed words1)) × (f ≤ listed words1)
      late_free f e =
          let asked : (listed s.words ≡ n) × (t.asking me ≡ 1) = subst (Hunts k t s.words me) is hunter.hunt in
          subst (λ (m : ℕ × ℕ). (m.0 ≤ f + m.1) × (m.0 ≤ f + limit_of k m.0) × (f ≤ m.0)) (λ i. (sym (agrees.count ∙ asked.0) i, sym cursor_is i))
          (let l : ℕ = limit_of k n in let p : l ≤ c = past in let g : n - l ≡ f = e in ((let a : n ≤ f + (c + 1) = omega arith in a), (let a : n ≤ f + l = omega arith in a), (let a : f ≤ n = omega arith in a)))

    -- it found one
    module _ (class : ℕ) (few : class < class_count) (place_low : c < listed s.words) (free : drawn_in x.seen.hunt ≡ None) (none_free : NoneFree k x class) (unprepared : prepared_at x.own.prepared class ≡ None) (stock : Stock) (same_claims : stock.claims ≡ t.stock.claims) where
      abbrev pub pool : ℕ
      pool = listed_pool s.words c

      pub place_inside : c < k.pools
      place_inside = let l : ℕ = listed s.words in let f : l ≤ k.pools = pools.few in let b : c < l = place_low in omega arith

      pub pool_inside : pool < k.pools
      pool_inside = pools.inside c place_low

      was : t.holder pool ≡ nobody
      was = pools.untaken c place_low (omega arith)

      abbrev t1 : Tenancy
      t1 = record { holder = over pool (drawn me) t.holder; asking = asking'; prepared = t.prepared; garbage = t.garbage; fresh = over me (over class (Some pool) (t.fresh me)) t.fresh; stock = stock }

      fresh_here : t1.fresh me class ≡ Some pool
      fresh_here = ap (λ (f : ℕ → Option ℕ). f class) (over_here me (over class (Some pool) (t.fresh me)) t.fresh) ∙ over_here class (Some pool) (t.fresh me)

      fresh_class : (b : ℕ) → b ≢ class → t1.fresh me b ≡ t.fresh me b
      fresh_class b other = ap (λ (f : ℕ → Option ℕ). f b) (over_here me (over class (Some pool) (t.fresh me)) t.fresh) ∙ over_else class (Some pool) (t.fresh me) b other

      fresh_domain : (e b : ℕ) → e ≢ me → t1.fresh e b ≡ t.fresh e b
      fresh_domain e b other = ap (λ (f : ℕ → Option ℕ). f b) (over_else me (over class (Some pool) (t.fresh me)) t.fresh e other)

      else1 : (q : ℕ) → q ≢ pool → t1.holder q ≡ t.holder q
      else1 q other = over_else pool (drawn me) t.holder q other

      -- another listed pool has the holder that it had
      elsewhere : (i : ℕ) → i < listed words1 → i ≢ c → t1.holder (listed_pool words1 i) ≡ t.holder (listed_pool s.words i)
      elsewhere i h other = ap t1.holder (names i h) ∙ else1 (listed_pool s.words i) (λ e. other (pools.once i c (lower i h) place_low e))

      pools1 : Pools k t1 words1
      pools1 = record {
        few = subst (λ (m : ℕ). m ≤ k.pools) (sym agrees.count) pools.few;
        inside = λ i h. subst (λ (q : ℕ). q < k.pools) (sym (names i h)) (pools.inside i (lower i h));
        once = λ i j h g e. pools.once i j (lower i h) (lower j g) (sym (names i h) ∙ (e ∙ names j g));
        untaken = λ i h g. let b : c < i = behind i g in elsewhere i h (λ e. omega arith) ∙ pools.untaken i (lower i h) (omega arith);
        owners = λ q h. dite (ℕ_discrete q pool)
            (λ same. owners1 q h ∙ (ap (λ (m : ℕ). owner_word (t.holder m)) same ∙ (ap owner_word was ∙ (sym (ap owner_word (over_here pool (drawn me) t.holder)) ∙ ap (λ (m : ℕ). owner_word (t1.holder m)) (sym same)))))
            (λ other. owners1 q h ∙ sym (ap owner_word (else1 q other)));
        owned_by = λ q d b e. dite (ℕ_discrete q pool)
            (λ same. absurd (drawn_owned me d b (sym (over_here pool (drawn me) t.holder) ∙ (ap t1.holder (sym same) ∙ e))))
            (λ other. pools.owned_by q d b (sym (else1 q other) ∙ e));
        drawn_by = λ q d e. dite (ℕ_discrete q pool)
            (λ same. let f : me ≡ d = drawn_same me d (sym (over_here pool (drawn me) t.holder) ∙ (ap t1.holder (sym same) ∙ e)) in (subst (λ (m : ℕ). m < k.pools) (sym same) pool_inside, subst (λ (m : ℕ). m < k.domains) f (mine k s r id hist x at).inside))
            (λ other. pools.drawn_by q d (sym (else1 q other) ∙ e));
        one_each = small;
        asked = subst (λ (m : ℕ). m + sum_of asking' k.domains ≤ k.pools + k.domains) (sym cursor_is) sums;
      }

      nothing_drawn : (q : ℕ) → t.holder q ≡ drawn me → ⊥
      nothing_drawn q e = none-some q (sym free ∙ hunter.drawn_alone q e)

      -- a pool that is nobody's isn't this one, and was nobody's before
      is_drawn : (q : ℕ) → t1.holder q ≡ nobody → q ≢ pool
      is_drawn q none same = absurd (let clash : drawn me ≡ nobody = sym (over_here pool (drawn me) t.holder) ∙ (ap t1.holder (sym same) ∙ none) in cc)

      nobody_was : (q : ℕ) → t1.holder q ≡ nobody → t.holder q ≡ nobody
      nobody_was q none = sym (else1 q (is_drawn q none)) ∙ none

      owned_was : (q e b : ℕ) → t1.holder q ≡ owned e b → t.holder q ≡ owned e b
      owned_was q e b is = dite (ℕ_discrete q pool) (λ same. absurd (drawn_owned me e b (sym (over_here pool (drawn me) t.holder) ∙ (ap t1.holder (sym same) ∙ is)))) (λ other. sym (else1 q other) ∙ is)

      owned_after : (q b : ℕ) → t.holder q ≡ owned me b → t1.holder q ≡ owned me b
      owned_after q b e = else1 q (λ same. (nobody_not me).not_owned b (sym was ∙ (ap t.holder (sym same) ∙ e))) ∙ e

      -- the pool that it drew last for another class stays so
      pub latest_drawn : (b : ℕ) → stock.latest me b ≡ t.stock.latest me b → stock.used me b ≡ t.stock.used me b → stock.drawn me b ≡ t.stock.drawn me b → stock.copies me b ≡ t.stock.copies me b → Latest k t s.words me b → Latest k t1 words1 me b
      latest_drawn b latest used drew copies l =
          let Rest : ℕ → ℕ → ℕ → Type 0 = (λ pool used j. (at_address k words1 (place_in pool b j) ≡ 0) ⊎ ((j ≡ used) × (t.prepared (place_in pool b j) ≡ Some me))) in record {
            own_is = subst (λ (m : ℕ). t1.holder m ≡ owned me b) (sym latest) (owned_after (t.stock.latest me b) b l.own_is);
            few = subst (λ (m : ℕ). m ≤ blocks_of b) (sym used) l.few;
            enough = subst (λ (m : ℕ × ℕ × ℕ). m.0 * blocks_of b + m.1 ≤ m.2 + blocks_of b) (λ i. (sym drew i, sym used i, sym copies i)) l.enough;
            rest = λ j from inside. subst (λ (m : ℕ × ℕ). Rest m.0 m.1 j) (λ i. (sym latest i, sym used i))
                (⊎_elim (λ (z : at_address k s.words (place_in (t.stock.latest me b) b j) ≡ 0). inl (agrees.heap (place_in (t.stock.latest me b) b j) (omega arith) ∙ z)) (λ (z : (j ≡ t.stock.used me b) × (t.prepared (place_in (t.stock.latest me b) b j) ≡ Some me)). inr z)
                (l.rest j (subst (λ (m : ℕ). m ≤ j) used from) inside));
          }

      -- no pool of the domain and the class has a free place any more, so a kept block lies in it, or has lain there if garbage does
      filled : (q : ℕ) → t.holder q ≡ owned me class → HoldsKept (kept_labels (sizes_in k) r.account.log) r.account.homes q
      filled q is =
          let own = pools.owned_by q me class is in
          let inside : 0 < blocks_of class = (some_block class own.2).0 in
          let before : IsPassed q 0 (search_at x.own.looked class) = inl (inl (let z : k.pools ≤ (search_at x.own.looked class).pool = none_free in let p : q < k.pools = own.0 in omega arith)) in
          let full_head : at_address k s.words (place_in q class 0) ≢ 0 = hunter.taken q class 0 is inside before in
          let lives : (p : Place) → r.account.live (place_in q class 0) ≡ Some p → HoldsKept (kept_labels (sizes_in k) r.account.log) r.account.homes q = (λ p e. (p.label, r.whole.full.kept (place_in q class 0) p e, r.whole.full.low q me class 0 p is inside e)) in
          ⊎_elim (λ (z : at_address k s.words (place_in q class 0) ≡ 0). absurd (full_head z))
          (λ z. ⊎_elim (λ (y : (p : Place) × (r.account.live (place_in q class 0) ≡ Some p)). lives y.0 y.1)
          (λ y. ⊎_elim (λ (w : t.prepared (place_in q class 0) ≡ Some me). absurd (none-some (place_in q class 0) (sym unprepared ∙ hunter.prepared q class 0 is inside w)))
          (λ (w : IsTrue (t.garbage (place_in q class 0))). r.whole.full.left q me class 0 is inside w) y) z)
          (r.whole.grid.places q me class 0 is inside)

      full1 : Fullness k r.account.log r.account.live t1.holder t1.fresh t1.garbage r.account.homes r.account.cycling.kind
      full1 =
          let f = r.whole.full in
          record {
            kept = f.kept;
            low = λ q e b slot p is. f.low q e b slot p (owned_was q e b is);
            young = f.young;
            made = f.made;
            left = λ q e b slot is. f.left q e b slot (owned_was q e b is);
            owned = λ goes q e b is. let old = owned_was q e b is in dite (ℕ_discrete e me)
                (λ own. dite (ℕ_discrete b class)
                (λ same. inr (filled q (subst (λ (m : ℕ × ℕ). t.holder q ≡ owned m.0 m.1) (λ i. (own i, same i)) old)))
                (λ other. subst (λ (m : ℕ). (t1.fresh m b ≡ Some q) ⊎ HoldsKept (kept_labels (sizes_in k) r.account.log) r.account.homes q) (sym own)
                (⊎_elim (λ (h : t.fresh me b ≡ Some q). inl (fresh_class b other ∙ h)) (λ h. inr h) (f.owned goes q me b (subst (λ (m : ℕ). t.holder q ≡ owned m b) own old)))))
                (λ other. ⊎_elim (λ (h : t.fresh e b ≡ Some q). inl (fresh_domain e b other ∙ h)) (λ h. inr h) (f.owned goes q e b old));
            drawn = λ q e is. dite (ℕ_discrete q pool)
                (λ same. let who : me ≡ e = drawn_same me e (sym (over_here pool (drawn me) t.holder) ∙ (ap t1.holder (sym same) ∙ is)) in
                (class, few, ap (λ (m : ℕ). t1.fresh m class) (sym who) ∙ (fresh_here ∙ ap Some (sym same))))
                (λ other. let old : t.holder q ≡ drawn e = sym (else1 q other) ∙ is in let d = f.drawn q e old in
                (d.0, d.1, fresh_domain e d.0 (λ own. nothing_drawn q (old ∙ ap drawn own)) ∙ d.2));
          }

      pub draws_rule : Room k r.account.live r.account.pause stock words1 → IsUnused r.account.pause stock → ((d : ℕ) → d ≢ me → SameStock t.stock stock d)
          → (KeepsReserve r.account.pause → c < limit_of k (listed s.words)) → ((b : ℕ) → b < class_count → 0 < stock.drawn me b → (class ≡ b) ⊎ Latest k t1 words1 me b)
          → Rule k record { words = words1; homes = s.homes; views = set s.views id (one k hist (with_hunt x (Draws c pool class 0))) }
      draws_rule room unused stocks unreserved supply = holds_again k s r id hist x at x.own.swept.top x.own.looked (Draws c pool class 0) x.seen.free words1 t1 record {
        higher = low_same x.own.swept.top;
        gained = λ q e b is. inl (owned_was q e b is);
        takes = takes;
        known_free = known_free;
        wide = length-set s.words 7 (c + 1);
        phases = phases1;
        want = other_word 0 (λ e. omega arith);
        listed_same = agrees.count;
        reserved = λ keeps i h above.
            let l : ℕ = limit_of k (listed s.words) in
            let low : c < l = unreserved keeps in
            let high : l ≤ i = subst (λ (m : ℕ). limit_of k m ≤ i) agrees.count above in
            elsewhere i h (λ e. omega arith) ∙ r.whole.reserved keeps i (lower i h) high;
        covered = λ goes q inside none. let at = r.whole.covered (whole_words r.account.pause s.words words1 agrees.count goes) q inside (nobody_was q none) in
            still_listed q at (λ here. absurd (is_drawn q none (sym at.2 ∙ ap (listed_pool s.words) here)));
        room = room;
        unused = unused;
        endings = other_word 8 (λ e. omega arith);
        cycle = cycle1;
        garbage = garbage_agrees k t t1 s.words words1 r.account.live r.account.cycling agrees r.whole.cycle.leaves refl refl
            (λ q e b is. else1 q (λ same. (nobody_not e).not_owned b (sym was ∙ (ap t.holder (sym same) ∙ is))) ∙ is);
        heads = λ a p e. agrees.heap a (r.whole.placed.fits a p e).low;
        listeds = λ z g. listed_on r.account.live r.account.live t.holder t1.holder t.garbage t1.garbage z.own.number z.own.ephemerons.items
            (λ q b is. dite (ℕ_discrete q pool) (λ same. absurd (drawn_owned me z.own.number b (sym (over_here pool (drawn me) t.holder) ∙ (ap t1.holder (sym same) ∙ is)))) (λ other. sym (else1 q other) ∙ is))
            (λ q b is. else1 q (λ same. (nobody_not z.own.number).not_owned b (sym was ∙ (ap t.holder (sym same) ∙ is))) ∙ is)
            (λ a e. e) (λ a e. inl e) (λ a e. e) g.listed;
        full = full1;
        found = found_agrees k r.account.cycling.paint r.account.live (state_of k r.account.log).graph s.words words1 agrees r.whole.placed r.whole.found;
        pools = pools1;
        drawers = record {
          drawn = λ q e h. dite (ℕ_discrete q pool)
              (λ same. subst (IsTaking r.account.pause) (drawn_same me e (sym (over_here pool (drawn me) t.holder) ∙ (ap t1.holder (sym same) ∙ h))) own_taking)
              (λ other. r.whole.drawers.drawn q e (sym (else1 q other) ∙ h));
          prepared = r.whole.drawers.prepared;
          claims = λ d some. r.whole.drawers.claims d (subst (λ (f : ℕ → ℕ). 0 < f d) same_claims some);
        };
        grid = grid_over t pool (drawn me) asking' t1.fresh stock k r.account.live s.words words1 agrees (λ d b e. (nobody_not d).not_owned b (sym was ∙ e)) (λ d b slot e inside. absurd (drawn_owned me d b e)) r.whole.grid;
        makings = λ z p. making_agrees k s.words words1 z agrees p;
        hunter = record {
          hunt = record { inside = pool_inside; listed_is = place_inside; names = agrees.list c place_inside; drawn_is = over_here pool (drawn me) t.holder; fresh_is = fresh_here; of_class = few; some = (let b : ℕ = blocks_of class in let o : 0 ≤ b = omega arith in o); free = λ j h. absurd (omega arith) };
          free = λ f e. free_later k s.words words1 agrees.count cursor_grows f (hunter.free f e);
          drawn_alone = λ q e. dite (ℕ_discrete q pool) (λ same. ap Some (sym same)) (λ other. absurd (nothing_drawn q (sym (else1 q other) ∙ e)));
          spare = λ u e. let f = hunter.spare u e in record { own_is = owned_after u.pool u.class f.own_is; inside = f.inside; free = agrees.heap (place_in u.pool u.class u.slot) (omega arith) ∙ f.free };
          taken = λ q b slot e inside low z. hunter.taken q b slot (owned_was q me b e) inside low (sym (agrees.heap (place_in q b slot) (omega arith)) ∙ z);
          holds = λ b a below e. let u = hunter.holds b a below e in (u.0, (u.1.0, u.1.1, owned_after u.1.0 b u.1.2, u.1.3, u.1.4));
          prepared = λ q b slot e inside z. hunter.prepared q b slot (owned_was q me b e) inside z;
          claims = hunter.claims ∙ sym (ap (λ (f : ℕ → ℕ). f me) same_claims);
          supply = supply;
        };
        hunters = λ z other g. hunter_agree k t t1 s.words words1 agrees z cursor_grows
            (same_over t pool (drawn me) asking' t1.fresh stock z.own.number (subst (λ (h : Holder). NotOf h z.own.number) (sym was) (nobody_not z.own.number)) (drawn_not me z.own.number (λ e. other (sym e))) (beside z.own.number other) (λ b. fresh_domain z.own.number b other) (stocks z.own.number other)) g.hunter;
      }

module _ (k : Config) (s : Words) (r : Rule k s) (id : ℕ) (hist : List Entry) (x : DomainView) (at : get_elem? s.views id ≡ some (one k hist x)) where
  open x use {own.{number as d}}
  open r.account use {tenancy as T}

  abbrev place : ℕ
  place = cursor s.words

  abbrev drawn_pool : ℕ
  drawn_pool = listed_pool s.words place

  -- the add of a running domain
  module _ (runs : x.seen.stage ≡ In Run) (n : ℕ) (is : x.seen.hunt ≡ Asks n) where
    abbrev asking0 : ℕ → ℕ
    asking0 = over d 0 T.asking

    asked : (listed s.words ≡ n) × (T.asking d ≡ 1)
    asked = subst (Hunts k T s.words d) is (my_good k s r id hist x at).hunter.hunt

    small0 : (e : ℕ) → asking0 e ≤ 1
    small0 e = dite (ℕ_discrete e d)
        (λ same. subst (λ (n : ℕ). n ≤ 1) (sym (ap (over d 0 T.asking) same ∙ over_here d 0 T.asking)) (omega arith))
        (λ other. subst (λ (n : ℕ). n ≤ 1) (sym (over_else d 0 T.asking e other)) (r.whole.pools.one_each e))

    beside0 : (e : ℕ) → e ≢ d → asking0 e ≡ T.asking e
    beside0 e other = over_else d 0 T.asking e other

    sums0 : place + 1 + sum_of asking0 k.domains ≤ k.pools + k.domains
    sums0 =
        let c : ℕ = place in
        let u : ℕ = sum_of asking0 k.domains in let v : ℕ = sum_of T.asking k.domains in let a : ℕ = T.asking d in
        let e : u + a ≡ v + 0 = sum_over T.asking d 0 k.domains (mine k s r id hist x at).inside in
        let f : a ≡ 1 = asked.1 in
        let b : c + v ≤ k.pools + k.domains = r.whole.pools.asked in
        let g : c + 1 + u ≤ k.pools + k.domains = omega arith in g

    pub add_whole : (place + 1) % 2 ^ 64 ≡ place + 1
    add_whole = whole_word k s r id hist x at (inl runs) asking0 small0 beside0 sums0

    pub add_late_rule : limit_of k n ≤ place → Rule k record { words = set s.words 7 (place + 1); homes = s.homes; views = set s.views id (one k hist (found_free x (n - limit_of k n) Rests)) }
    add_late_rule past = late_rule k s r id hist x at (inl runs) asking0 small0 beside0 sums0 runs n is past

    module _ (class : ℕ) (few : class < class_count) (none_free : NoneFree k x class) (below : place < limit_of k n) where
      -- a running domain has prepared no place
      unprepared : prepared_at x.own.prepared class ≡ None
      unprepared = ⊎_elim (λ (e : prepared_at x.own.prepared class ≡ None). e) (λ (t : (a : ℕ) × (prepared_at x.own.prepared class ≡ Some a)). absurd (run_copying r.account.pause x d runs (my_good k s r id hist x at).staged (r.whole.drawers.prepared t.0 d ((my_good k s r id hist x at).hunter.holds class t.0 few t.1).0))) (number_cases (prepared_at x.own.prepared class))

      place_low : place < listed s.words
      place_low = let l : ℕ = listed s.words in let e : l ≡ n = asked.0 in let m : ℕ = limit_of k n in let c : ℕ = place in let b : c < m = below in let o : c < l = omega arith in o

      pub add_place_inside : place < k.pools
      add_place_inside = place_inside k s r id hist x at (inl runs) asking0 small0 beside0 sums0 class few place_low (ap drawn_in is) none_free unprepared T.stock refl

      pub add_pool_inside : drawn_pool < k.pools
      add_pool_inside = pool_inside k s r id hist x at (inl runs) asking0 small0 beside0 sums0 class few place_low (ap drawn_in is) none_free unprepared T.stock refl

      pub add_draws_rule : Rule k record { words = set s.words 7 (place + 1); homes = s.homes; views = set s.views id (one k hist (with_hunt x (Draws place drawn_pool class 0))) }
      add_draws_rule = draws_rule k s r id hist x at (inl runs) asking0 small0 beside0 sums0 class few place_low (ap drawn_in is) none_free unprepared T.stock refl
          (run_room k s r id hist x at (inl runs) runs (set s.words 7 (place + 1))) r.whole.unused (λ e other. stock_self T.stock e)
          (λ _. subst (λ (m : ℕ). place < limit_of k m) (sym asked.0) below)
          (λ b _ some. absurd (none_drawn k s r id hist x at (inl runs) runs b some))

  -- the add of a domain that copies young blocks
  module _ (copies : x.seen.stage ≡ In Promote) (class : ℕ) (few : class < class_count) (place_low : place < listed s.words) (free : drawn_in x.seen.hunt ≡ None) (none_free : NoneFree k x class) (unprepared : prepared_at x.own.prepared class ≡ None) (used : T.stock.drawn d class * blocks_of class ≤ T.stock.copies d class) where
    promoting : Promoting r.account.pause
    promoting = promote_now r.account.pause x copies (my_good k s r id hist x at).staged

    sums : place + 1 + sum_of T.asking k.domains ≤ k.pools + k.domains
    sums =
        let c : ℕ = place in let l : ℕ = listed s.words in let u : ℕ = sum_of T.asking k.domains in
        let a : c < l = place_low in let b : l ≤ k.pools = r.whole.pools.few in
        let f : u ≤ k.domains = sum_small T.asking k.domains r.whole.pools.one_each in
        let g : c + 1 + u ≤ k.pools + k.domains = omega arith in g

    abbrev own_drawn : ℕ → ℕ
    own_drawn = over class (T.stock.drawn d class + 1) (T.stock.drawn d)

    abbrev stock1 : Stock
    stock1 = record T.stock { drawn = over d own_drawn T.stock.drawn }

    own_is : stock1.drawn d ≡ own_drawn
    own_is = over_here d own_drawn T.stock.drawn

    one_more : stock1.drawn d class ≡ T.stock.drawn d class + 1
    one_more = ap (λ (f : ℕ → ℕ). f class) own_is ∙ over_here class (T.stock.drawn d class + 1) (T.stock.drawn d)

    same_class : (b : ℕ) → b ≢ class → stock1.drawn d b ≡ T.stock.drawn d b
    same_class b other = ap (λ (f : ℕ → ℕ). f b) own_is ∙ over_else class (T.stock.drawn d class + 1) (T.stock.drawn d) b other

    same_domain : (e : ℕ) → e ≢ d → stock1.drawn e ≡ T.stock.drawn e
    same_domain e other = over_else d own_drawn T.stock.drawn e other

    all_more : drawn_in_all k stock1 ≡ drawn_in_all k T.stock + 1
    all_more = sum_one (λ e. sum_of (T.stock.drawn e) class_count) (λ e. sum_of (stock1.drawn e) class_count) d k.domains (mine k s r id hist x at).inside
        (ap (λ (f : ℕ → ℕ). sum_of f class_count) own_is ∙ sum_one (T.stock.drawn d) own_drawn class class_count few (over_here class (T.stock.drawn d class + 1) (T.stock.drawn d)) (λ b other. over_else class (T.stock.drawn d class + 1) (T.stock.drawn d) b other))
        (λ e other. ap (λ (f : ℕ → ℕ). sum_of f class_count) (same_domain e other))

    abbrev words2 : List ℕ
    words2 = set s.words 7 (place + 1)

    room1 : Room k r.account.live r.account.pause stock1 words2
    room1 = record {
      fills = λ e b. dite (ℕ_discrete e d)
          (λ own. dite (ℕ_discrete b class)
          (λ same. subst (λ (z : ℕ × ℕ). stock1.drawn z.0 z.1 * blocks_of z.1 ≤ T.stock.copies z.0 z.1 + blocks_of z.1) (λ i. (sym own i, sym same i)) own_fills)
          (λ other. subst (λ (z : ℕ). z * blocks_of b ≤ T.stock.copies e b + blocks_of b) (ap (λ (m : ℕ). T.stock.drawn m b) own ∙ (sym (same_class b other) ∙ ap (λ (m : ℕ). stock1.drawn m b) (sym own))) (r.whole.room.fills e b)))
          (λ other. subst (λ (f : ℕ → ℕ). f b * blocks_of b ≤ T.stock.copies e b + blocks_of b) (sym (same_domain e other)) (r.whole.room.fills e b));
      fit = r.whole.room.fit;
      claims = r.whole.room.claims;
      listed_copies = r.whole.room.listed_copies;
      left = λ p a q lives young.
          let l : ℕ = listed s.words in let c : ℕ = place in let z : ℕ = reserve (sizes_in k) in let v : ℕ = drawn_in_all k T.stock in
          let was : c + z ≤ l + v = r.whole.room.left p a q lives young in
          let g : c + 1 + z ≤ l + (v + 1) = omega arith in
          subst (λ (m : ℕ × ℕ × ℕ). m.0 + z ≤ m.1 + m.2) (λ i. (sym cursor_is i, sym listed_is i, sym all_more i)) g;
    } where
      own_fills : stock1.drawn d class * blocks_of class ≤ T.stock.copies d class + blocks_of class
      own_fills =
          let n : ℕ = T.stock.drawn d class in let m : ℕ = blocks_of class in let x : ℕ = n * m in
          let u : x ≤ T.stock.copies d class = used in
          let e : (n + 1) * m ≡ x + m = ap (λ (z : ℕ). z * m) (add-one n) ∙ suc-mul n m in
          subst (λ (z : ℕ). z * m ≤ T.stock.copies d class + m) (sym one_more) (subst (λ (z : ℕ). z ≤ T.stock.copies d class + m) (sym e) (let y : ℕ = T.stock.copies d class in let u' : x ≤ y = u in let g : x + m ≤ y + m = omega arith in g))

      cursor_is : cursor words2 ≡ place + 1
      cursor_is = get_or-set_same s.words 7 (place + 1) 0 (let w : length s.words ≡ table_words k = r.whole.wide in let h : ℕ = heap_words k in omega arith)

      listed_is : listed words2 ≡ listed s.words
      listed_is = get_or-set_other s.words 7 6 (place + 1) 0 (λ e. omega arith)

    beside : (e : ℕ) → e ≢ d → T.asking e ≡ T.asking e
    beside e other = refl

    pub copy_whole : (place + 1) % 2 ^ 64 ≡ place + 1
    copy_whole = whole_word k s r id hist x at (inr copies) T.asking r.whole.pools.one_each beside sums

    pub copy_place_inside : place < k.pools
    copy_place_inside = place_inside k s r id hist x at (inr copies) T.asking r.whole.pools.one_each beside sums class few place_low free none_free unprepared stock1 refl

    pub copy_pool_inside : drawn_pool < k.pools
    copy_pool_inside = pool_inside k s r id hist x at (inr copies) T.asking r.whole.pools.one_each beside sums class few place_low free none_free unprepared stock1 refl

    pub copy_draws_rule : Rule k record { words = words2; homes = s.homes; views = set s.views id (one k hist (with_hunt x (Draws place drawn_pool class 0))) }
    copy_draws_rule = draws_rule k s r id hist x at (inr copies) T.asking r.whole.pools.one_each beside sums class few place_low free none_free unprepared stock1 refl
        room1 (λ rests. absurd (rests promoting)) (λ e other. record { drawn = same_domain e other; copies = refl; latest = refl; used = refl; claims = refl })
        (λ keeps. absurd (copying_keeps r.account.pause promoting keeps))
        (λ b below some. dite (ℕ_discrete b class)
        (λ same. inl (sym same))
        (λ other. inr (latest_drawn k s r id hist x at (inr copies) T.asking r.whole.pools.one_each beside sums class few place_low free none_free unprepared stock1 refl b refl refl (same_class b other) refl
        (⊎_elim (λ (u : DrawsFor b x.seen.hunt). absurd (draws_none b x.seen.hunt free u)) (λ (l : Latest k T s.words d b). l)
        ((my_good k s r id hist x at).hunter.supply b below (subst (λ (m : ℕ). 0 < m) (same_class b other) some))))))
