-- The steps by which domain 0 looks at the list of free pools, or writes it anew, keep the rule.
use Rattle.std.proofs.Common.{◌≡◌, ◌≢◌, ℕ, ◌+◌, ◌-◌, ◌*◌, ◌<◌, ◌≤◌, ◌⊎◌, true, false, true≢false, List, [], ◌∷◌, ◌++◌, length, get_or, set, slice_get, Option, Some, sym, refl, ap, ◌∙◌, subst, inl, inr, ⊎_elim, arith, zero-le, length-set, length-append, get_or-set_same, get_or-set_other}
use Rattle.std.proofs.lemmas.Option.{none-some, same_Some, slice_get-get_or}
use mathlib.Core.Logic.{dite}
use native.Mathlib.Decide.{dec_le}
use mathlib.Core.Option.{some}
use lib.ListN.{get_elem?}
use Rattle.atomic_table.specs.Table.{Me, keeps}
use Rattle.model_core.specs.declared.entry.Entry.{Entry}
use Rattle.heap_rule.specs.declared.config.Config.{Config}
use Rattle.heap_rule.specs.declared.phase.Kind.{Kind}
use Rattle.heap_rule.specs.declared.phase.Kind.TheVariants.{Run}
use Rattle.heap_rule.specs.declared.phase.Note.{Note}
use Rattle.heap_rule.specs.declared.phase.Note.TheVariants.{Cleared, Listed, SetBack}
use Rattle.heap_rule.specs.declared.phase.Stage.{Stage}
use Rattle.heap_rule.specs.declared.phase.Stage.TheVariants.{In, Leads, Led, Gone}
use Rattle.heap_rule.specs.declared.view.DomainView.{DomainView}
use Rattle.heap_rule.specs.declared.view.Hunt.TheVariants.{Rests}
use Rattle.heap_rule.specs.declared.view.Listing.{Listing}
use Rattle.heap_rule.specs.declared.view.View.{View}
use Rattle.heap_rule.specs.Layout.{heap_words, before_heap, table_words, listed, cursor, listed_pool, owner_of, at_address}
use Rattle.heap_rule.specs.Places.{Place}
use Rattle.heap_rule.specs.Copies.{Promoting}
use Rattle.heap_rule.specs.Room.{Drawable}
use Rattle.heap_rule.specs.Phases.{Agree, Pause, AtStage, Staged, IsOdd, sum_of, last_note, HasSetBack}
use Rattle.heap_rule.specs.Pools.{Holder, nobody, drawn, owned, owner_word, Tenancy, Takes, Pools, Reserved, RunsNext, KnowsList, no_listing, Covered, KeepsReserve, Lists, Hunts, Hunter, Latest, DrawsFor, drawn_in, limit_of, place_in}
use Rattle.heap_rule.specs.Raw.{MayStep, MayStore}
use Rattle.heap_rule.specs.Rule.{state_of, Good, Rule}
use Rattle.heap_rule.specs.Standing.{noted}
use Rattle.heap_rule.specs.Views.{one}
use Rattle.heap_rule.proofs.Holders.{SameHeap, found_heap, making_heap, grid_heap, sum_small}
use Rattle.heap_rule.proofs.Keeps.{whole_stays, Words, my_good, remakes, knows_front, phases_words, room_words, opened_words, whole_words, hunter_as, owes_as, takes_even, unmoved}
use Rattle.heap_rule.proofs.PauseFacts.{agree, not_both}
use Rattle.heap_rule.proofs.Controls.{last_note_end, sharing_words}
use Rattle.heap_rule.proofs.Lists.{got_below, got_end}
use Rattle.heap_rule.proofs.Notes.{IsLook, listed_note}
use Rattle.step_pools.specs.Listings.{with_listing, further, relisted, found_owner, named, cursor_at, with_cursor, listed_as, IsLeader, LeadsBehind, IsLooker, CountedTold, HasCounted, IsCounted, IsAbove, noted_set_back, noted_left, CursorLookTold, KeepLookTold, CursorCutTold, Empties, EmptiedTold, LookMay, LookedTold, NameMay, NamedTold, SetBackTold, CloseMay, ListedAsTold, free_pools}
use Rattle.step_pools.proofs.FreePools.{IsFree, free_there, free_once, free_all}
use Rattle.step_pools.proofs.DrawSteps.{draws_none, latest_words}
use Rattle.heap_rule.proofs.Sharings.{SameCycle, cycle_words}
use Rattle.std.proofs.Math.Nat.{not-le_of_lt}

-- a domain that takes no block and knows nothing of how many are free
pub rests_hunter : (k : Config) (t : Tenancy) (words words' : List ℕ) (z : DomainView) → SameHeap k words words' → z.seen.hunt ≡ Rests → z.seen.free ≡ [] → Hunter k t words z → Hunter k t words' z
rests_hunter k t words words' z same rests free h = record {
  hunt = subst (Hunts k t words' z.own.number) (sym rests) tt;
  drawn_alone = h.drawn_alone;
  taken = λ q c slot is inside low e. h.taken q c slot is inside low (sym (same (place_in q c slot) (omega arith)) ∙ e);
  free = λ f e. absurd (none-some f (ap (λ (l : List ℕ). slice_get l 0) (sym free) ∙ e));
  spare = λ u e. let f = h.spare u e in record { own_is = f.own_is; inside = f.inside; free = same (place_in u.pool u.class u.slot) (omega arith) ∙ f.free };
  holds = h.holds;
  prepared = h.prepared;
  claims = h.claims;
  supply = λ c few some. ⊎_elim (λ (u : DrawsFor c z.seen.hunt). absurd (draws_none c z.seen.hunt (ap drawn_in rests) u))
      (λ (l : Latest k t words z.own.number c). inr (latest_words k t words words' z.own.number c (λ q slot is inside. same (place_in q c slot) (omega arith)) l)) (h.supply c few some);
}

-- domain 0 may know of the list in an odd phase
knows_list : (x : DomainView) (kind : Kind) (l : Listing) → x.own.number ≡ 0 → x.seen.stage ≡ Leads kind → KnowsList x.own.number x.seen.stage l
knows_list x kind l first stage = subst (λ (y : Stage). KnowsList x.own.number y l) (sym stage) first

-- and no other domain does then
leads_alone : (kind : Kind) (d : ℕ) (y : Stage) (l : Listing) → d ≢ 0 → Agree (Leads kind) y → KnowsList d y l → ⊥
leads_alone kind d (In v) l other a is = a
leads_alone kind d (Leads v) l other a is = other is
leads_alone kind d (Led v) l other a is = other is
leads_alone kind d (Gone v) l other a is = is

-- the words that are written: the count of listed pools, the cursor, and the list
abbrev pub IsOfList : Config → ℕ → Type 0
IsOfList k j = (j ≡ 6) ⊎ ((j ≡ 7) ⊎ ((11 ≤ j) × (j < 11 + k.pools)))

-- the domain with another list in the making, and other notes
abbrev pub listing_notes : DomainView → Option Listing → List Note → DomainView
listing_notes x listing notes = record x { seen = record x.seen { listing = listing; notes = notes } }

module _ (k : Config) (s : Words) (r : Rule k s) (id : ℕ) (hist : List Entry) (x : DomainView) (at : get_elem? s.views id ≡ some (one k hist x)) (last : Kind) (first : x.own.number ≡ 0) (stage : x.seen.stage ≡ Leads last) where
  abbrev pub t : Tenancy
  t = r.account.tenancy

  abbrev pub pause : Pause
  pause = r.account.pause

  pub good : Good k r.account s.words x
  good = my_good k s r id hist x at

  -- the phase is the odd one after one of that kind
  pub half : (j : ℕ) × (pause.phase ≡ j * 2 + 1) × (pause.kinds j ≡ last)
  half = (subst (AtStage pause x.own.number x.own.arrivals) stage good.staged.stage).1

  pub odd : IsOdd pause.phase
  odd = (half.0, half.1)

  pub kind_here : (j : ℕ) → pause.phase ≡ j * 2 + 1 → pause.kinds j ≡ last
  kind_here j is = let i : ℕ = half.0 in let e : pause.phase ≡ i * 2 + 1 = half.1 in let same : j ≡ i = omega arith in ap pause.kinds same ∙ half.2

  -- nobody has named the next kind
  pub unled : pause.led ≡ false
  unled = (subst (AtStage pause x.own.number x.own.arrivals) stage good.staged.stage).2 first

  pub not_led : pause.led ≡ true → ⊥
  not_led led = true≢false (sym led ∙ unled)

  -- so no domain runs next
  not_next : RunsNext pause → ⊥
  not_next runs = ⊎_elim
      (λ (h : (j : ℕ) × (pause.phase ≡ j * 2) × (pause.kinds j ≡ Run)). not_both pause.phase (h.0, h.1) odd)
      (λ (h : (j : ℕ) × (pause.phase ≡ j * 2 + 1) × (pause.led ≡ true) × (pause.kinds (j + 1) ≡ Run)). not_led h.2) runs

  -- and while no pool is listed nothing is said of the list
  pub covers_none : (words' : List ℕ) → listed words' ≡ 0 → Covered k pause t words'
  covers_none words' none is = absurd (⊎_elim not_next (λ (some : listed words' ≢ 0). some none) is)

  -- nothing is said of the cursor yet
  undrawable : (words' : List ℕ) → Drawable k pause words'
  undrawable words' = record { to_run = λ _ _ led _. absurd (not_led led); to_copy = λ _ _ led _. absurd (not_led led) }

  -- and no domain takes blocks
  nobody_takes : (z : DomainView) → Staged pause z → Takes z.seen.stage → ⊥
  nobody_takes z staged takes = not_both pause.phase (takes_even pause z takes staged) odd

  pub not_promoting : Promoting pause → ⊥
  not_promoting p = not_both pause.phase (p.0, p.1) odd

  -- so no other domain knows of the list
  others_none : (words' : List ℕ) (z : DomainView) → z.own.number ≢ x.own.number → Good k r.account s.words z → (l : Listing) → z.seen.listing ≡ Some l → Lists k words' z.own.number z.seen.stage l
  others_none words' z other g l e = absurd (leads_alone last z.own.number z.seen.stage l (λ same. other (same ∙ sym first))
      (agree pause x.own.number z.own.number x.own.arrivals z.own.arrivals (Leads last) z.seen.stage (subst (AtStage pause x.own.number x.own.arrivals) stage good.staged.stage) g.staged.stage)
      (g.resting.lists l e).who)

-- a step on the count of listed pools, the cursor or the list, while no domain takes blocks
module _ (k : Config) (s : Words) (r : Rule k s) (id : ℕ) (hist : List Entry) (x : DomainView) (at : get_elem? s.views id ≡ some (one k hist x)) (calm : Promoting r.account.pause → ⊥) (idle : (z : DomainView) → Staged r.account.pause z → Takes z.seen.stage → ⊥) where
  -- what such a step owes
  pub record Relists (listing : Option Listing) (notes : List Note) (words' : List ℕ) : Type 0 where
    pub wide : length words' ≡ length s.words
    pub every : (a : ℕ) → at_address k words' a ≡ at_address k s.words a
    pub control : (i : ℕ) → (i < 6) ⊎ ((8 ≤ i) × (i ≤ 10)) → get_or words' i 0 ≡ get_or s.words i 0
    pub pools : Pools k r.account.tenancy words'
    pub lists : (l : Listing) → listing ≡ Some l → Lists k words' x.own.number x.seen.stage l
    pub listed_young : (a : ℕ) (q : Place) → r.account.live a ≡ Some q → k.pools * 4096 < a → listed words' ≡ listed s.words
    pub reserved : Reserved k r.account.pause r.account.tenancy words'
    pub covered : Covered k r.account.pause r.account.tenancy words'
    pub took_back : last_note notes ≡ Some Cleared → last_note x.seen.notes ≡ Some Cleared
    pub set_back : x.seen.stage ≡ Leads Run → last_note notes ≡ Some SetBack → cursor words' ≤ limit_of k (listed words')
    pub drawable : Drawable k r.account.pause words'
    pub others : (z : DomainView) → z.own.number ≢ x.own.number → Good k r.account s.words z → (l : Listing) → z.seen.listing ≡ Some l → Lists k words' z.own.number z.seen.stage l
    pub others_set_back : (z : DomainView) → Staged r.account.pause z → HasSetBack z → cursor s.words ≤ limit_of k (listed s.words) → cursor words' ≤ limit_of k (listed words')

  pub relists : (listing : Option Listing) (notes : List Note) (words' : List ℕ) → Relists listing notes words' → Rule k record { words = words'; homes = s.homes; views = set s.views id (one k hist (listing_notes x listing notes)) }
  relists listing notes words' o =
      let y : DomainView = listing_notes x listing notes in
      let t : Tenancy = r.account.tenancy in
      let pause : Pause = r.account.pause in
      let good : Good k r.account s.words x = my_good k s r id hist x at in
      let heap : SameHeap k s.words words' = (λ a _. o.every a) in
      let same : SameCycle s.words words' = record { armed_same = o.control 4 (inl (omega arith)); colours_same = o.control 5 (inl (omega arith)); changed_same = o.control 3 (inl (omega arith)); blocks_same = o.control 9 (inr (omega arith, omega arith)); words_same = o.control 10 (inr (omega arith, omega arith)) } in
      let making = making_heap k s.words words' x heap good.making in
      let own_stays : Takes x.seen.stage → ⊥ = idle x good.staged in
      let h = rests_hunter k t s.words words' x heap (good.resting.hunt own_stays) (good.resting.free (λ e. own_stays (inl e))) good.hunter in
      remakes k s r id hist x at y r.account words'
      (whole_stays k s r id hist x at r.account.log t r.account.cycling words' record {
        wide = o.wide ∙ r.whole.wide;
        legal = r.whole.legal;
        full = r.whole.full;
        found = found_heap k r.account.cycling.paint r.account.live (state_of k r.account.log).graph s.words words' heap r.whole.placed r.whole.found;
        phases = phases_words k pause s.words words' (o.control 1 (inl (omega arith))) (o.control 2 (inl (omega arith))) r.whole.phases;
        unwished = λ j odd led runs. o.control 0 (inl (omega arith)) ∙ r.whole.unwished j odd led runs;
        endings = o.control 8 (inr (omega arith, omega arith)) ∙ r.whole.endings;
        pools = o.pools;
        reserved = o.reserved;
        covered = o.covered;
        grid = grid_heap k t r.account.live s.words words' heap r.whole.grid;
        drawers = r.whole.drawers;
        room = room_words k r.account.live pause t.stock s.words words' (λ p. absurd (calm p)) r.whole.room;
        unused = r.whole.unused;
        opened = opened_words k r.account.live s.words words' o.listed_young r.whole.opened;
        drawable = o.drawable;
        cycle = cycle_words k (state_of k r.account.log) r.account.live pause t r.account.cycling s.words words' same o.every r.whole.cycle;
      })
      (knows_front k s r id hist x at y refl (inl refl))
      record {
        stood = record { wide = good.stood.wide; each = good.stood.each; serial = good.stood.serial; enrolled = good.stood.enrolled };
        area = record { room = good.area.room; free = good.area.free; classes = good.area.classes };
        making = record { fits = making.fits; written = making.written };
        staged = record { arrivals = good.staged.arrivals; stage = good.staged.stage };
        still = good.still;
        hunter = hunter_as k t words' x y refl refl refl refl refl refl refl h;
        resting = record { hunt = good.resting.hunt; free = good.resting.free; spare = good.resting.spare; lists = o.lists };
        took_back = λ kind leads last. o.control 0 (inl (omega arith)) ∙ good.took_back kind leads (o.took_back last);
        owes = owes_as k r.account.live x y refl refl refl refl good.owes;
        rooted = good.rooted;
        set_back = λ h. o.set_back h.0 h.1;
        sharing = sharing_words k r.account r.account s.words words' x refl refl refl refl same o.every good.sharing;
        listed = good.listed;
        sweeps = good.sweeps;
      }
      (λ z _ other g. record {
        stood = g.stood;
        area = g.area;
        making = making_heap k s.words words' z heap g.making;
        staged = g.staged;
        still = g.still;
        hunter = let stays : Takes z.seen.stage → ⊥ = idle z g.staged in rests_hunter k t s.words words' z heap (g.resting.hunt stays) (g.resting.free (λ e. stays (inl e))) g.hunter;
        resting = record { hunt = g.resting.hunt; free = g.resting.free; spare = g.resting.spare; lists = o.others z other g };
        took_back = λ kind leads last. o.control 0 (inl (omega arith)) ∙ g.took_back kind leads last;
        owes = g.owes;
        rooted = g.rooted;
        set_back = λ h. o.others_set_back z g.staged h (g.set_back h);
        sharing = sharing_words k r.account r.account s.words words' z refl refl refl refl same o.every g.sharing;
        listed = g.listed;
        sweeps = g.sweeps;
      })

-- one of these words is written
module _ (k : Config) (s : Words) (r : Rule k s) where
  -- a store of one of these words
  module _ (j new : ℕ) (of_list : IsOfList k j) where
    abbrev pub ws : List ℕ
    ws = set s.words j new

    pub long : j < length s.words
    long = let w : length s.words ≡ table_words k = r.whole.wide in let h : ℕ = heap_words k in
        ⊎_elim (λ (e : j ≡ 6). omega arith) (λ (e : (j ≡ 7) ⊎ ((11 ≤ j) × (j < 11 + k.pools))). ⊎_elim (λ (f : j ≡ 7). omega arith) (λ (f : (11 ≤ j) × (j < 11 + k.pools)). let g : j < 11 + k.pools = f.1 in omega arith) e) of_list

    pub here : get_or ws j 0 ≡ new
    here = get_or-set_same s.words j new 0 long

    pub elsewhere : (i : ℕ) → i ≢ j → get_or ws i 0 ≡ get_or s.words i 0
    elsewhere i other = get_or-set_other s.words j i new 0 other

    beside : (i : ℕ) → i ≢ 6 → i ≢ 7 → (i < 11) ⊎ (11 + k.pools ≤ i) → get_or ws i 0 ≡ get_or s.words i 0
    beside i a b out = elsewhere i (λ e. ⊎_elim (λ (f : j ≡ 6). a (e ∙ f)) (λ (f : (j ≡ 7) ⊎ ((11 ≤ j) × (j < 11 + k.pools))). ⊎_elim (λ (g : j ≡ 7). b (e ∙ g))
        (λ (g : (11 ≤ j) × (j < 11 + k.pools)). let l : 11 ≤ j = g.0 in let u : j < 11 + k.pools = g.1 in let is : i ≡ j = e in ⊎_elim (λ (o : i < 11). omega arith) (λ (o : 11 + k.pools ≤ i). omega arith) out) f) of_list)

    pub every : (a : ℕ) → at_address k ws a ≡ at_address k s.words a
    every a = elsewhere (before_heap k + a) (λ e. let f : 10 + 2 * k.pools + a ≡ j = e in
        ⊎_elim (λ (g : j ≡ 6). omega arith) (λ (g : (j ≡ 7) ⊎ ((11 ≤ j) × (j < 11 + k.pools))). ⊎_elim (λ (h : j ≡ 7). omega arith) (λ (h : (11 ≤ j) × (j < 11 + k.pools)). let l : 11 ≤ j = h.0 in let u : j < 11 + k.pools = h.1 in omega arith) g) of_list)

    pub owners_same : (q : ℕ) → owner_of k ws q ≡ owner_of k s.words q
    owners_same q = beside (11 + k.pools + q) (λ e. omega arith) (λ e. omega arith) (inr (omega arith))

    -- what stays beside them
    pub control : (i : ℕ) → (i < 6) ⊎ ((8 ≤ i) × (i ≤ 10)) → get_or ws i 0 ≡ get_or s.words i 0
    control i low = ⊎_elim (λ (b : i < 6). beside i (λ e. omega arith) (λ e. omega arith) (inl (omega arith)))
        (λ (b : (8 ≤ i) × (i ≤ 10)). let l : 8 ≤ i = b.0 in let u : i ≤ 10 = b.1 in beside i (λ e. omega arith) (λ e. omega arith) (inl (omega arith))) low

    -- where no pool is listed, the list may be anything
    pub emptied : listed ws ≡ 0 → cursor ws ≤ cursor s.words → Pools k r.account.tenancy ws
    emptied none low =
        let pools = r.whole.pools in
        let nothing : (i : ℕ) → i < listed ws → ⊥ = (λ i h. let l : ℕ = listed ws in let e : l ≡ 0 = none in let b : i < l = h in omega arith) in record {
          few = subst (λ (n : ℕ). n ≤ k.pools) (sym none) (let p : ℕ = k.pools in let o : 0 ≤ p = omega arith in o);
          inside = λ i h. absurd (nothing i h);
          once = λ i m h g e. absurd (nothing i h);
          untaken = λ i h g. absurd (nothing i h);
          owners = λ q h. owners_same q ∙ pools.owners q h;
          owned_by = pools.owned_by;
          drawn_by = pools.drawn_by;
          one_each = pools.one_each;
          asked = let c : ℕ = cursor ws in let d : ℕ = cursor s.words in let u : ℕ = sum_of r.account.tenancy.asking k.domains in let b : d + u ≤ k.pools + k.domains = pools.asked in let l : c ≤ d = low in let o : c + u ≤ k.pools + k.domains = omega arith in o;
        }

-- while nothing lives in minor areas, domain 0 may write the list
module _ (k : Config) (s : Words) (r : Rule k s) (id : ℕ) (hist : List Entry) (x : DomainView) (at : get_elem? s.views id ≡ some (one k hist x)) (leader : IsLeader x) where
  abbrev T : Tenancy
  T = r.account.tenancy

  good_leader : Good k r.account s.words x
  good_leader = my_good k s r id hist x at

  -- the phase before is one in which nothing lives there
  before : (j : ℕ) × (r.account.pause.phase ≡ j * 2 + 1) × (r.account.pause.kinds j ≡ leader.last)
  before = half k s r id hist x at leader.last leader.first leader.stage

  not_run : (j : ℕ) → r.account.pause.phase ≡ j * 2 + 1 → r.account.pause.kinds j ≢ Run
  not_run j odd runs = leader.empty.0 (sym (kind_here k s r id hist x at leader.last leader.first leader.stage j odd) ∙ runs)

  nothing_young : (a : ℕ) (q : Place) → r.account.live a ≡ Some q → k.pools * 4096 < a → ⊥
  nothing_young a q lives young = let o : a ≤ k.pools * 4096 = r.whole.emptied (inl (before.0, before.1, not_run before.0 before.1)) a q lives in omega arith

  -- no pools are kept
  nothing_kept : KeepsReserve r.account.pause → ⊥
  nothing_kept kept = ⊎_elim
      (λ (h : r.account.pause.phase ≡ kept.0 * 2). not_both r.account.pause.phase (kept.0, h) (before.0, before.1))
      (λ (h : r.account.pause.phase ≡ kept.0 * 2 + 1). not_run kept.0 h kept.2) kept.1

  -- nobody leads a pause in
  nobody_opens : (z : DomainView) → Staged r.account.pause z → z.seen.stage ≡ Leads Run → ⊥
  nobody_opens z staged stage = let a = (subst (AtStage r.account.pause z.own.number z.own.arrivals) stage staged.stage).1 in not_run a.0 a.1 a.2

  -- a store of one of these words, or a load
  relists_noting : (listing : Option Listing) (notes : List Note) (words' : List ℕ) → (last_note notes ≡ Some Cleared → last_note x.seen.notes ≡ Some Cleared) → length words' ≡ length s.words → ((a : ℕ) → at_address k words' a ≡ at_address k s.words a) → ((i : ℕ) → (i < 6) ⊎ ((8 ≤ i) × (i ≤ 10)) → get_or words' i 0 ≡ get_or s.words i 0) → Pools k T words' → Covered k r.account.pause T words' → ((l : Listing) → listing ≡ Some l → Lists k words' x.own.number x.seen.stage l)
      → Rule k record { words = words'; homes = s.homes; views = set s.views id (one k hist (listing_notes x listing notes)) }
  relists_noting listing notes words' took_back wide every control pools covered lists = relists k s r id hist x at (not_promoting k s r id hist x at leader.last leader.first leader.stage) (nobody_takes k s r id hist x at leader.last leader.first leader.stage) listing notes words' record {
    drawable = undrawable k s r id hist x at leader.last leader.first leader.stage words';
    others = others_none k s r id hist x at leader.last leader.first leader.stage words';
    wide = wide;
    every = every;
    control = control;
    pools = pools;
    lists = lists;
    listed_young = λ a q lives young. absurd (nothing_young a q lives young);
    reserved = λ keeps. absurd (nothing_kept keeps);
    covered = covered;
    took_back = took_back;
    set_back = λ leads _. absurd (nobody_opens x good_leader.staged leads);
    others_set_back = λ z staged h. absurd (nobody_opens z staged h.0);
  }

  relists_empty : (listing : Option Listing) (words' : List ℕ) → length words' ≡ length s.words → ((a : ℕ) → at_address k words' a ≡ at_address k s.words a) → ((i : ℕ) → (i < 6) ⊎ ((8 ≤ i) × (i ≤ 10)) → get_or words' i 0 ≡ get_or s.words i 0) → Pools k T words' → Covered k r.account.pause T words' → ((l : Listing) → listing ≡ Some l → Lists k words' x.own.number x.seen.stage l)
      → Rule k record { words = words'; homes = s.homes; views = set s.views id (one k hist (with_listing x listing)) }
  relists_empty listing words' wide every control pools covered lists = relists_noting listing x.seen.notes words' (λ e. e) wide every control pools covered lists

  -- while no pool is listed
  none_covered : (words' : List ℕ) → listed words' ≡ 0 → Covered k r.account.pause T words'
  none_covered = covers_none k s r id hist x at leader.last leader.first leader.stage

  module _ (j new : ℕ) (of_list : IsOfList k j) where
    abbrev pub ws0 : List ℕ
    ws0 = set s.words j new

    pub stores : (listing : Option Listing) → Pools k T ws0 → listed ws0 ≡ 0 → ((l : Listing) → listing ≡ Some l → Lists k ws0 x.own.number x.seen.stage l) → Rule k record { words = ws0; homes = s.homes; views = set s.views id (one k hist (with_listing x listing)) }
    stores listing pools none lists = relists_empty listing ws0 (length-set s.words j new) (every k s r j new of_list) (control k s r j new of_list) pools (none_covered ws0 none) lists

    -- and one that leaves a note
    pub stores_noting : (n : Note) → IsLook n → (listing : Option Listing) → Pools k T ws0 → Covered k r.account.pause T ws0 → ((l : Listing) → listing ≡ Some l → Lists k ws0 x.own.number x.seen.stage l) → Rule k record { words = ws0; homes = s.homes; views = set s.views id (one k hist (noted (with_listing x listing) n)) }
    stores_noting n look listing pools covered lists = relists_noting listing (x.seen.notes ++ n ∷ []) ws0 (λ e. absurd (look.not_cleared (sym (last_note_end x.seen.notes n) ∙ e))) (length-set s.words j new) (every k s r j new of_list) (control k s r j new of_list) pools covered lists

  -- the list is emptied
  pub empties_rule : Rule k record { words = set s.words 6 0; homes = s.homes; views = set s.views id (one k hist (with_listing x (Some no_listing))) }
  empties_rule =
      let none : listed (set s.words 6 0) ≡ 0 = here k s r 6 0 (inl refl) in
      let same : cursor (set s.words 6 0) ≡ cursor s.words = elsewhere k s r 6 0 (inl refl) 7 (λ e. omega arith) in
      let low : cursor (set s.words 6 0) ≤ cursor s.words = subst (λ (n : ℕ). n ≤ cursor s.words) (sym same) (let c : ℕ = cursor s.words in let o : c ≤ c = omega arith in o) in
      let p : ℕ = k.pools in
      stores 6 0 (inl refl) (Some no_listing) (emptied k s r 6 0 (inl refl) none low) none (λ l e. subst (Lists k (set s.words 6 0) x.own.number x.seen.stage) (same_Some no_listing l e) record {
        who = knows_list x leader.last no_listing leader.first leader.stage;
        few = let o : 0 ≤ p = omega arith in (o, o);
        owners = λ q w got. cc;
        names = λ i q got. cc;
        count = none;
        found = λ c e. cc;
      })

  module _ (l : Listing) (listing : x.seen.listing ≡ Some l) where
    known : Lists k s.words x.own.number x.seen.stage l
    known = good_leader.resting.lists l listing

    -- one owner word more is found
    pub finds_rule : length l.owners < k.pools → Rule k record { words = s.words; homes = s.homes; views = set s.views id (one k hist (with_listing x (Some (found_owner (owner_of k s.words (length l.owners)) l)))) }
    finds_rule inside = let word : ℕ = owner_of k s.words (length l.owners) in let after : Listing = found_owner word l in relists_empty (Some after) s.words refl (λ a. refl) (λ i low. refl) r.whole.pools r.whole.covered (λ m e. subst (Lists k s.words x.own.number x.seen.stage) (same_Some after m e) record {
      who = knows_list x leader.last after leader.first leader.stage;
      few = (subst (λ (n : ℕ). n ≤ k.pools) (sym (length-append l.owners (word ∷ []))) (let n : ℕ = length l.owners in let i : n < k.pools = inside in let o : n + 1 ≤ k.pools = omega arith in o), known.few.1);
      owners = λ q w got. ⊎_elim (λ (g : slice_get l.owners q ≡ Some w). known.owners q w g) (λ (g : (q ≡ length l.owners) × (word ≡ w)). ap (owner_of k s.words) g.0 ∙ g.1) (got_end l.owners word w q got);
      names = known.names;
      count = known.count;
      found = known.found;
    })

    module _ (empty : l.listed ≡ 0) where
      none : listed s.words ≡ 0
      none = known.count ∙ empty

      -- one place more of the list is written
      pub names_rule : (new : ℕ) → length l.names < k.pools → Rule k record { words = set s.words (11 + length l.names) new; homes = s.homes; views = set s.views id (one k hist (with_listing x (Some (named new l)))) }
      names_rule new inside =
          let n : ℕ = length l.names in
          let j : ℕ = 11 + n in
          let of_list : IsOfList k j = inr (inr (omega arith, let i : n < k.pools = inside in omega arith)) in
          let w1 : List ℕ = set s.words j new in
          let count : listed w1 ≡ listed s.words = elsewhere k s r j new of_list 6 (λ e. omega arith) in
          let asked : cursor w1 ≡ cursor s.words = elsewhere k s r j new of_list 7 (λ e. omega arith) in
          let low : cursor w1 ≤ cursor s.words = subst (λ (c : ℕ). c ≤ cursor s.words) (sym asked) (let c : ℕ = cursor s.words in let o : c ≤ c = omega arith in o) in
          stores j new of_list (Some (named new l)) (emptied k s r j new of_list (count ∙ none) low) (count ∙ none) (λ m e. subst (Lists k w1 x.own.number x.seen.stage) (same_Some (named new l) m e) record {
            who = knows_list x leader.last (named new l) leader.first leader.stage;
            few = (known.few.0, subst (λ (c : ℕ). c ≤ k.pools) (sym (length-append l.names (new ∷ []))) (let i : n < k.pools = inside in let o : n + 1 ≤ k.pools = omega arith in o));
            owners = λ q w got. owners_same k s r j new of_list q ∙ known.owners q w got;
            names = λ i q got. ⊎_elim (λ (g : slice_get l.names i ≡ Some q). let below : i < n = got_below l.names i q g in elsewhere k s r j new of_list (11 + i) (λ e. omega arith) ∙ known.names i q g)
                (λ (g : (i ≡ length l.names) × (new ≡ q)). ap (λ (c : ℕ). get_or w1 (11 + c) 0) g.0 ∙ (here k s r j new of_list ∙ g.1)) (got_end l.names new q i got);
            count = count ∙ known.count;
            found = λ c e. asked ∙ known.found c e;
          })

      -- the cursor is set back
      pub back_rule : Rule k record { words = set s.words 7 0; homes = s.homes; views = set s.views id (one k hist (with_listing x (Some (cursor_at 0 l)))) }
      back_rule =
          let of_list : IsOfList k 7 = inr (inl refl) in
          let w1 : List ℕ = set s.words 7 0 in
          let count : listed w1 ≡ listed s.words = elsewhere k s r 7 0 of_list 6 (λ e. omega arith) in
          let zero_is : cursor w1 ≡ 0 = here k s r 7 0 of_list in
          let low : cursor w1 ≤ cursor s.words = subst (λ (c : ℕ). c ≤ cursor s.words) (sym zero_is) (let c : ℕ = cursor s.words in let o : 0 ≤ c = omega arith in o) in
          stores 7 0 of_list (Some (cursor_at 0 l)) (emptied k s r 7 0 of_list (count ∙ none) low) (count ∙ none) (λ m e. subst (Lists k w1 x.own.number x.seen.stage) (same_Some (cursor_at 0 l) m e) record {
            who = knows_list x leader.last (cursor_at 0 l) leader.first leader.stage;
            few = known.few;
            owners = λ q w got. owners_same k s r 7 0 of_list q ∙ known.owners q w got;
            names = λ i q got. elsewhere k s r 7 0 of_list (11 + i) (λ e. omega arith) ∙ known.names i q got;
            count = count ∙ known.count;
            found = λ c e. zero_is ∙ same_Some 0 c e;
          })

      -- the pools that the list names are nobody's, and they are listed
      module _ (all : length l.owners ≡ k.pools) (free : l.names ≡ free_pools l.owners) (back : l.cursor ≡ Some 0) where
        abbrev n : ℕ
        n = length l.names

        of_list : IsOfList k 6
        of_list = inl refl

        abbrev w2 : List ℕ
        w2 = set s.words 6 n

        count : listed w2 ≡ n
        count = here k s r 6 n of_list

        asked_same : cursor w2 ≡ cursor s.words
        asked_same = elsewhere k s r 6 n of_list 7 (λ e. omega arith)

        at_place : (i : ℕ) → i < listed w2 → slice_get (free_pools l.owners) i ≡ Some (listed_pool w2 i)
        at_place i h =
            let got : slice_get l.names i ≡ Some (get_or l.names i 0) = slice_get-get_or l.names i 0 (subst (λ (m : ℕ). i < m) count h) in
            let is : listed_pool w2 i ≡ get_or l.names i 0 = elsewhere k s r 6 n of_list (11 + i) (λ e. omega arith) ∙ known.names i (get_or l.names i 0) got in
            subst (λ (z : List ℕ × ℕ). slice_get z.0 i ≡ Some z.1) (λ c. (free c, sym is c)) got

        its : (i : ℕ) → i < listed w2 → IsFree 0 (listed_pool w2 i) l.owners
        its i h = free_there 0 i (listed_pool w2 i) l.owners (at_place i h)

        names_inside : (i : ℕ) → i < listed w2 → listed_pool w2 i < k.pools
        names_inside i h = subst (λ (m : ℕ). listed_pool w2 i < m) all (let q : ℕ = listed_pool w2 i in let o : ℕ = length l.owners in let f : q < 0 + o = (its i h).inside in let g : q < o = omega arith in g)

        no_owner : (h : Holder) → owner_word h ≡ 0 → ((d : ℕ) → h ≢ drawn d) → h ≡ nobody
        no_owner nobody e n = refl
        no_owner (drawn d) e n = absurd (n d refl)
        no_owner (owned d c) e n = absurd (omega arith)

        nobodys : (i : ℕ) → i < listed w2 → T.holder (listed_pool w2 i) ≡ nobody
        nobodys i h =
            let q : ℕ = listed_pool w2 i in
            let word : owner_of k s.words q ≡ 0 = known.owners q 0 ((its i h).word q (omega arith)) in
            no_owner (T.holder q) (sym (r.whole.pools.owners q (names_inside i h)) ∙ word) (λ d e. let w = (r.whole.drawers.drawn q d e).1 in not_both r.account.pause.phase (w.0, w.1) (before.0, before.1))

        -- each pool that is nobody's is listed
        closed_covers : (q : ℕ) → q < k.pools → T.holder q ≡ nobody → (i : ℕ) × (i < listed w2) × (listed_pool w2 i ≡ q) × ((cursor w2 ≤ i) ⊎ (limit_of k (listed w2) ≤ i))
        closed_covers q inside none_has =
            let word : ℕ = get_or l.owners q 0 in
            let got : slice_get l.owners q ≡ Some word = slice_get-get_or l.owners q 0 (subst (λ (m : ℕ). q < m) (sym all) inside) in
            let is_zero : word ≡ 0 = sym (known.owners q word got) ∙ (r.whole.pools.owners q inside ∙ ap owner_word none_has) in
            let at : (i : ℕ) × (slice_get (free_pools l.owners) i ≡ Some (0 + q)) = free_all 0 q l.owners (got ∙ ap Some is_zero) in
            let there : slice_get l.names at.0 ≡ Some q = ap (λ (names : List ℕ). slice_get names at.0) free ∙ (at.1 ∙ ap Some (let e : 0 + q ≡ q = omega arith in e)) in
            let below : at.0 < listed w2 = subst (λ (m : ℕ). at.0 < m) (sym count) (got_below l.names at.0 q there) in
            (at.0, below, elsewhere k s r 6 n of_list (11 + at.0) (λ e. omega arith) ∙ known.names at.0 q there, inl (subst (λ (c : ℕ). c ≤ at.0) (sym (asked_same ∙ known.found 0 back)) zero-le))

        pub closes_rule : Rule k record { words = w2; homes = s.homes; views = set s.views id (one k hist (noted (with_listing x (Some (listed_as n l))) (Listed n))) }
        closes_rule =
            let pools = r.whole.pools in
            stores_noting 6 n of_list (Listed n) (listed_note n) (Some (listed_as n l)) record {
              few = subst (λ (m : ℕ). m ≤ k.pools) (sym count) known.few.1;
              inside = names_inside;
              once = λ i j h g e. free_once 0 i j (listed_pool w2 i) l.owners (at_place i h) (subst (λ (q : ℕ). slice_get (free_pools l.owners) j ≡ Some q) (sym e) (at_place j g));
              untaken = λ i h g. nobodys i h;
              owners = λ q h. owners_same k s r 6 n of_list q ∙ pools.owners q h;
              owned_by = pools.owned_by;
              drawn_by = pools.drawn_by;
              one_each = pools.one_each;
              asked = subst (λ (c : ℕ). c + sum_of T.asking k.domains ≤ k.pools + k.domains) (sym asked_same) pools.asked;
            } (λ _. closed_covers) (λ m e. subst (Lists k w2 x.own.number x.seen.stage) (same_Some (listed_as n l) m e) record {
              who = knows_list x leader.last (listed_as n l) leader.first leader.stage;
              few = known.few;
              owners = λ q w got. owners_same k s r 6 n of_list q ∙ known.owners q w got;
              names = λ i q got. elsewhere k s r 6 n of_list (11 + i) (λ e. omega arith) ∙ known.names i q got;
              count = count;
              found = λ c e. asked_same ∙ known.found c e;
            })

-- in an odd phase domain 0 may look how many pools are listed, and where the cursor stands
module _ (k : Config) (s : Words) (r : Rule k s) (id : ℕ) (hist : List Entry) (x : DomainView) (at : get_elem? s.views id ≡ some (one k hist x)) (last : Kind) (leads : LeadsBehind last x) where
  good_looker : Good k r.account s.words x
  good_looker = my_good k s r id hist x at

  -- a look at these words, which may leave a note
  looks_at : (l : Listing) (notes : List Note) → Lists k s.words x.own.number x.seen.stage l → (last_note notes ≡ Some Cleared → last_note x.seen.notes ≡ Some Cleared) → (x.seen.stage ≡ Leads Run → last_note notes ≡ Some SetBack → cursor s.words ≤ limit_of k (listed s.words))
      → Rule k record { words = s.words; homes = s.homes; views = set s.views id (one k hist (listing_notes x (Some l) notes)) }
  looks_at l notes lists took_back set_back = relists k s r id hist x at (not_promoting k s r id hist x at last leads.first leads.stage) (nobody_takes k s r id hist x at last leads.first leads.stage) (Some l) notes s.words record {
    drawable = undrawable k s r id hist x at last leads.first leads.stage s.words;
    others = others_none k s r id hist x at last leads.first leads.stage s.words;
    wide = refl;
    every = λ a. refl;
    control = λ i low. refl;
    pools = r.whole.pools;
    lists = λ m e. subst (Lists k s.words x.own.number x.seen.stage) (same_Some l m e) lists;
    listed_young = λ _ _ _ _. refl;
    reserved = r.whole.reserved;
    covered = r.whole.covered;
    took_back = took_back;
    set_back = set_back;
    others_set_back = λ _ _ _ low. low;
  }

  -- so many pools are listed
  pub counts_rule : Rule k record { words = s.words; homes = s.homes; views = set s.views id (one k hist (with_listing x (Some (listed_as (listed s.words) no_listing)))) }
  counts_rule = looks_at (listed_as (listed s.words) no_listing) x.seen.notes record {
    who = knows_list x last (listed_as (listed s.words) no_listing) leads.first leads.stage;
    few = (let p : ℕ = k.pools in let o : 0 ≤ p = omega arith in (o, o));
    owners = λ q w got. cc;
    names = λ i q got. cc;
    count = refl;
    found = λ c e. cc;
  } (λ e. e) (λ stage noted. good_looker.set_back (stage, noted))

  module _ (l : Listing) (listing : x.seen.listing ≡ Some l) where
    pub counted : Lists k s.words x.own.number x.seen.stage l
    counted = good_looker.resting.lists l listing

    -- and there stands the cursor
    abbrev pub seen_list : Listing
    seen_list = cursor_at (cursor s.words) l

    seen_lists : Lists k s.words x.own.number x.seen.stage seen_list
    seen_lists = record { who = knows_list x last seen_list leads.first leads.stage; few = counted.few; owners = counted.owners; names = counted.names; count = counted.count; found = λ c e. same_Some (cursor s.words) c e }

    pub sees_rule : Rule k record { words = s.words; homes = s.homes; views = set s.views id (one k hist (with_listing x (Some seen_list))) }
    sees_rule = looks_at seen_list x.seen.notes seen_lists (λ e. e) (λ stage noted. good_looker.set_back (stage, noted))

    -- which the domain may note
    pub notes_list_rule : (n : Note) → (◌≡◌ {A = Option Note} (Some n) (Some Cleared) → ⊥) → (◌≡◌ {A = Option Note} (Some n) (Some SetBack) → cursor s.words ≤ limit_of k l.listed)
        → Rule k record { words = s.words; homes = s.homes; views = set s.views id (one k hist (noted (with_listing x (Some seen_list)) n)) }
    notes_list_rule n not_cleared low = looks_at seen_list (x.seen.notes ++ n ∷ []) seen_lists (λ e. absurd (not_cleared (sym (last_note_end x.seen.notes n) ∙ e)))
        (λ _ e. subst (λ (c : ℕ). cursor s.words ≤ limit_of k c) (sym counted.count) (low (sym (last_note_end x.seen.notes n) ∙ e)))

-- in the first phase of a pause domain 0 may set the cursor back
module _ (k : Config) (s : Words) (r : Rule k s) (id : ℕ) (hist : List Entry) (x : DomainView) (at : get_elem? s.views id ≡ some (one k hist x)) (opener : LeadsBehind Run x) (l : Listing) (listing : x.seen.listing ≡ Some l) (c : ℕ) (stands : l.cursor ≡ Some c) (above : limit_of k l.listed < c) where
  abbrev T0 : Tenancy
  T0 = r.account.tenancy

  -- the domains ran before, so the pools of the reserve are nobody's
  reserve_kept : KeepsReserve r.account.pause
  reserve_kept = let h = half k s r id hist x at Run opener.first opener.stage in (h.0, inr h.1, h.2)

  wishes_kept : (notes : List Note) → last_note (notes ++ SetBack ∷ []) ≡ Some Cleared → ⊥
  wishes_kept notes e = let clash : ◌≡◌ {A = Option Note} (Some SetBack) (Some Cleared) = sym (last_note_end notes SetBack) ∙ e in cc

  known_list : Lists k s.words x.own.number x.seen.stage l
  known_list = counted k s r id hist x at Run opener l listing

  abbrev limit : ℕ
  limit = limit_of k l.listed

  abbrev ws7 : List ℕ
  ws7 = set s.words 7 limit

  of_seven : IsOfList k 7
  of_seven = inr (inl refl)

  cursor_is : cursor ws7 ≡ limit
  cursor_is = here k s r 7 limit of_seven

  listed_same : listed ws7 ≡ listed s.words
  listed_same = elsewhere k s r 7 limit of_seven 6 (λ e. omega arith)

  list_same : (i : ℕ) → listed_pool ws7 i ≡ listed_pool s.words i
  list_same i = elsewhere k s r 7 limit of_seven (11 + i) (λ e. omega arith)

  lower : (i : ℕ) → i < listed ws7 → i < listed s.words
  lower i h = subst (λ (n : ℕ). i < n) listed_same h

  low_now : cursor ws7 ≤ limit_of k (listed ws7)
  low_now = subst (λ (m : ℕ × ℕ). m.0 ≤ limit_of k m.1) (λ i. (sym cursor_is i, sym (listed_same ∙ known_list.count) i)) (let n : ℕ = limit in let o : n ≤ n = omega arith in o)

  -- the pools that the cursor had passed and passes no more are of the reserve
  cut_covers : Covered k r.account.pause T0 ws7
  cut_covers is q inside free =
      let at = r.whole.covered (whole_words r.account.pause s.words ws7 listed_same is) q inside free in
      let i : ℕ = at.0 in
      let stood : ℕ = cursor s.words in
      let z : ℕ = limit in
      let high : z < stood = subst (λ (n : ℕ). limit < n) (sym (known_list.found c stands)) above in (
        i,
        subst (λ (n : ℕ). i < n) (sym listed_same) at.1,
        list_same i ∙ at.2,
        ⊎_elim
            (λ (behind : cursor s.words ≤ i). inl (subst (λ (n : ℕ). n ≤ i) (sym cursor_is) (let b : stood ≤ i = behind in let o : z ≤ i = omega arith in o)))
            (λ (spared : limit_of k (listed s.words) ≤ i). inr (subst (λ (n : ℕ). limit_of k n ≤ i) (sym listed_same) spared)) at.3,
      )

  pub cuts_rule : Rule k record { words = ws7; homes = s.homes; views = set s.views id (one k hist (noted_set_back (with_listing x (Some (cursor_at limit l))))) }
  cuts_rule =
      let pools = r.whole.pools in
      relists k s r id hist x at (not_promoting k s r id hist x at Run opener.first opener.stage) (nobody_takes k s r id hist x at Run opener.first opener.stage) (Some (cursor_at limit l)) (x.seen.notes ++ SetBack ∷ []) ws7 record {
        drawable = undrawable k s r id hist x at Run opener.first opener.stage ws7;
        others = others_none k s r id hist x at Run opener.first opener.stage ws7;
        wide = length-set s.words 7 limit;
        every = every k s r 7 limit of_seven;
        control = control k s r 7 limit of_seven;
        pools = record {
          few = subst (λ (n : ℕ). n ≤ k.pools) (sym listed_same) pools.few;
          inside = λ i h. subst (λ (q : ℕ). q < k.pools) (sym (list_same i)) (pools.inside i (lower i h));
          once = λ i j h g e. pools.once i j (lower i h) (lower j g) (sym (list_same i) ∙ (e ∙ list_same j));
          untaken = λ i h g. ap T0.holder (list_same i) ∙ r.whole.reserved reserve_kept i (lower i h) (subst (λ (n : ℕ). limit_of k n ≤ i) (sym known_list.count) (subst (λ (n : ℕ). n ≤ i) cursor_is g));
          owners = λ q h. owners_same k s r 7 limit of_seven q ∙ pools.owners q h;
          owned_by = pools.owned_by;
          drawn_by = pools.drawn_by;
          one_each = pools.one_each;
          asked =
              let u : ℕ = sum_of T0.asking k.domains in let v : u ≤ k.domains = sum_small T0.asking k.domains pools.one_each in
              let n : ℕ = listed s.words in let m : ℕ = l.listed in let e : n ≡ m = known_list.count in let f : n ≤ k.pools = pools.few in
              let z : ℕ = limit in let y : z ≤ m = limit_low m in
              let g : z + u ≤ k.pools + k.domains = omega arith in subst (λ (c : ℕ). c + u ≤ k.pools + k.domains) (sym cursor_is) g;
        };
        lists = λ m e. subst (Lists k ws7 x.own.number x.seen.stage) (same_Some (cursor_at limit l) m e) record {
          who = knows_list x Run (cursor_at limit l) opener.first opener.stage;
          few = known_list.few;
          owners = λ q w got. owners_same k s r 7 limit of_seven q ∙ known_list.owners q w got;
          names = λ i q got. list_same i ∙ known_list.names i q got;
          count = listed_same ∙ known_list.count;
          found = λ n e. cursor_is ∙ same_Some limit n e;
        };
        listed_young = λ _ _ _ _. listed_same;
        reserved = λ still i h above. ap T0.holder (list_same i) ∙ r.whole.reserved still i (lower i h) (subst (λ (n : ℕ). limit_of k n ≤ i) listed_same above);
        covered = cut_covers;
        took_back = λ e. absurd (wishes_kept x.seen.notes e);
        set_back = λ _ _. low_now;
        others_set_back = λ _ _ _ _. low_now;
      }
    where
      limit_low : (m : ℕ) → limit_of k m ≤ m
      limit_low m = let e : ℕ = limit_of k m in omega arith

abbrev Seat : Type 0
Seat = Me (Unit {0}) View

-- the domain's view where what it knows of the list is known
on_list : (x : DomainView) (l : Listing) (f : Listing → Listing) → x.seen.listing ≡ Some l → with_listing x (Some (f l)) ≡ relisted x f
on_list x l f listing = ap (λ (o : Option Listing). with_listing x (further f o)) (sym listing)

pub emptied_may : (k : Config) (x : DomainView) → IsLeader x → MayStore k x 6 0 EmptiedTold
emptied_may k x leader fits slots id h s r _ at _ = (one k h (with_listing x (Some no_listing)), keeps, tt, empties_rule k s r id h x at leader, (refl, refl))

pub look_may : (k : Config) (x : DomainView) (word : ℕ) → LookMay k x word → MayStep k x word (λ n. n) LookedTold
look_may k x word may fits slots id h s r _ at _ =
    let l : Listing = may.list in
    let found : get_or s.words word 0 ≡ owner_of k s.words (length l.owners) = ap (λ (n : ℕ). get_or s.words n 0) may.word in
    let is : with_listing x (Some (found_owner (owner_of k s.words (length l.owners)) l)) ≡ relisted x (found_owner (get_or s.words word 0)) =
    ap (λ (n : ℕ). with_listing x (Some (found_owner n l))) (sym found) ∙ on_list x l (found_owner (get_or s.words word 0)) may.listing in
    let y : DomainView = relisted x (found_owner (get_or s.words word 0)) in
    (one k h y, keeps, tt, unmoved k s word (set s.views id (one k h y)) (subst (λ (z : DomainView). Rule k record { words = s.words; homes = s.homes; views = set s.views id (one k h z) }) is (finds_rule k s r id h x at may.leader l may.listing may.inside)), (refl, refl))

pub name_may : (k : Config) (x : DomainView) (word new : ℕ) → NameMay k x word → MayStore k x word new NamedTold
name_may k x word new may fits slots id h s r _ at _ =
    let e = may.empties in
    let y : DomainView = relisted x (named new) in (
      one k h y,
      keeps,
      tt,
      subst (λ (z : ℕ × DomainView). Rule k record { words = set s.words z.0 new; homes = s.homes; views = set s.views id (one k h z.1) }) (λ i. (sym may.word i, on_list x e.list (named new) e.listing i))
          (names_rule k s r id h x at e.leader e.list e.listing e.empty new may.inside),
      (refl, refl),
    )

pub back_may : (k : Config) (x : DomainView) → Empties x → MayStore k x 7 0 SetBackTold
back_may k x e fits slots id h s r _ at _ =
    let y : DomainView = with_cursor x 0 in
    (one k h y, keeps, tt, subst (λ (z : DomainView). Rule k record { words = set s.words 7 0; homes = s.homes; views = set s.views id (one k h z) }) (on_list x e.list (cursor_at 0) e.listing) (back_rule k s r id h x at e.leader e.list e.listing e.empty), (refl, refl))

pub close_may : (k : Config) (x : DomainView) (new : ℕ) → CloseMay k x new → MayStore k x 6 new ListedAsTold
close_may k x new may fits slots id h s r _ at _ =
    let e = may.empties in
    let y : DomainView = noted (relisted x (listed_as new)) (Listed new) in (
      one k h y,
      keeps,
      tt,
      subst (λ (z : ℕ × DomainView). Rule k record { words = set s.words 6 z.0; homes = s.homes; views = set s.views id (one k h z.1) }) (λ i. (sym may.count i, (ap (λ (n : ℕ). noted (with_listing x (Some (listed_as n e.list))) (Listed n)) (sym may.count) ∙ ap (λ (v : DomainView). noted v (Listed new)) (on_list x e.list (listed_as new) e.listing)) i))
          (closes_rule k s r id h x at e.leader e.list e.listing e.empty may.all may.free may.back),
      (refl, refl),
    )

pub count_may : (k : Config) (x : DomainView) → IsLooker x → MayStep k x 6 (λ n. n) (CountedTold k)
count_may k x looker fits slots id h s r _ at _ =
    let y : DomainView = with_listing x (Some (listed_as (listed s.words) no_listing)) in
    (one k h y, keeps, tt, unmoved k s 6 (set s.views id (one k h y)) (counts_rule k s r id h x at looker.kind looker.leads), (record { few = r.whole.pools.few; view = refl }, refl))

-- a look at the cursor, whatever the domain notes of it
module _ (k : Config) (x : DomainView) (kind : Kind) (count : ℕ) (may : HasCounted kind x count) (s : Words) (r : Rule k s) (id : ℕ) (h : List Entry) (at : get_elem? s.views id ≡ some (one k h x)) where
  abbrev seen_now : DomainView
  seen_now = with_cursor x (cursor s.words)

  known_as : with_listing x (Some (cursor_at (cursor s.words) may.list)) ≡ seen_now
  known_as = on_list x may.list (cursor_at (cursor s.words)) may.listing

  pub look_leaves : Rule k record { words = s.words; homes = s.homes; views = set s.views id (one k h seen_now) }
  look_leaves = subst (λ (y : DomainView). Rule k record { words = s.words; homes = s.homes; views = set s.views id (one k h y) }) known_as (sees_rule k s r id h x at kind may.leads may.list may.listing)

  pub look_notes : (n : Note) → (◌≡◌ {A = Option Note} (Some n) (Some Cleared) → ⊥) → (◌≡◌ {A = Option Note} (Some n) (Some SetBack) → cursor s.words ≤ limit_of k count) → Rule k record { words = s.words; homes = s.homes; views = set s.views id (one k h (noted seen_now n)) }
  look_notes n not_cleared low = subst (λ (y : DomainView). Rule k record { words = s.words; homes = s.homes; views = set s.views id (one k h (noted y n)) }) known_as
      (notes_list_rule k s r id h x at kind may.leads may.list may.listing n not_cleared (λ e. subst (λ (m : ℕ). cursor s.words ≤ limit_of k m) (sym may.count_is) (low e)))

pub cursor_look_may : (k : Config) (x : DomainView) (count : ℕ) → HasCounted Run x count → MayStep k x 7 (λ n. n) (CursorLookTold k count)
cursor_look_may k x count may fits slots id h s r _ at _ = dite (dec_le (cursor s.words) (limit_of k count))
    (λ low. let y : DomainView = noted_set_back (with_cursor x (cursor s.words)) in
    (one k h y, keeps, tt, unmoved k s 7 (set s.views id (one k h y)) (look_notes k x Run count may s r id h at SetBack (λ e. cc) (λ _. low)), (record { low = λ l. refl; high = λ b. absurd (not-le_of_lt b low) }, refl)))
    (λ high. let y : DomainView = with_cursor x (cursor s.words) in
    (one k h y, keeps, tt, unmoved k s 7 (set s.views id (one k h y)) (look_leaves k x Run count may s r id h at), (record { low = λ l. absurd (high l); high = λ b. refl }, refl)))

pub keep_look_may : (k : Config) (x : DomainView) (count : ℕ) → IsCounted x count → MayStep k x 7 (λ n. n) (KeepLookTold k count)
keep_look_may k x count may fits slots id h s r _ at _ = dite (dec_le (cursor s.words) (limit_of k count))
    (λ low. let y : DomainView = noted_left count (cursor s.words) x in
    (one k h y, keeps, tt, unmoved k s 7 (set s.views id (one k h y)) (look_notes k x may.0 count may.1 s r id h at (Listed (count - cursor s.words)) (λ e. cc) (λ e. cc)), (record { low = λ l. refl; high = λ b. absurd (not-le_of_lt b low) }, refl)))
    (λ high. let y : DomainView = with_cursor x (cursor s.words) in
    (one k h y, keeps, tt, unmoved k s 7 (set s.views id (one k h y)) (look_leaves k x may.0 count may.1 s r id h at), (record { low = λ l. absurd (high l); high = λ b. refl }, refl)))

pub cut_may : (k : Config) (x : DomainView) (n new : ℕ) → IsAbove k x n → new ≡ limit_of k n → MayStore k x 7 new CursorCutTold
cut_may k x n new may is fits slots id h s r _ at _ =
    let y : DomainView = noted_set_back (with_cursor x new) in
    let c = may.counted in
    let new_is : limit_of k c.list.listed ≡ new = ap (limit_of k) c.count_is ∙ sym is in (
      one k h y,
      keeps,
      tt,
      subst (λ (z : ℕ × DomainView). Rule k record { words = set s.words 7 z.0; homes = s.homes; views = set s.views id (one k h (noted_set_back z.1)) }) (λ i. (new_is i, (ap (λ (m : ℕ). with_listing x (Some (cursor_at m c.list))) new_is ∙ on_list x c.list (cursor_at new) c.listing) i))
          (cuts_rule k s r id h x at c.leads c.list c.listing may.at may.cursor_is (subst (λ (m : ℕ). limit_of k m < may.at) (sym c.count_is) may.above)),
      (refl, refl),
    )
