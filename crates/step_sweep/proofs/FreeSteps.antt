-- The free of garbage at an own place keeps the rule.
use Rattle.std.proofs.Common.{◌≡◌, ◌≢◌, ℕ, ◌+◌, ◌*◌, ◌<◌, ◌≤◌, ◌⊎◌, Bool, false, true≢false, IsTrue, List, length, get_or, set, Some, None, sym, refl, ap, ◌∙◌, subst, inl, inr, ⊎_elim, arith, length-set, get_or-set_same, get_or-set_other}
use mathlib.Core.Logic.{dite}
use native.Mathlib.Decide.{ℕ_discrete}
use mathlib.Core.Option.{some}
use lib.ListN.{get_elem?}
use Rattle.atomic_table.specs.Table.{keeps}
use Rattle.model_core.specs.declared.entry.Entry.{Entry}
use Rattle.model_core.specs.declared.state.State as model
use Rattle.model_core.specs.Domains.{class_count}
use Rattle.model_cycle.specs.Shares.{at_domain}
use Rattle.heap_rule.specs.declared.config.Config.{Config}
use Rattle.heap_rule.specs.declared.phase.Kind.{Kind}
use Rattle.heap_rule.specs.declared.phase.Kind.TheVariants.{Run, Promote, Reset, Roots, Mark, Rounds, Decide, Queued, Clean, Lasts, Sweep, Answer}
use Rattle.heap_rule.specs.declared.view.DomainView.{DomainView}
use Rattle.heap_rule.specs.declared.view.Reaping.{Reaping}
use Rattle.heap_rule.specs.declared.view.Reaping.TheVariants.{Outside, Inside, AtGarbage}
use Rattle.heap_rule.specs.declared.view.Share.{Share}
use Rattle.heap_rule.specs.declared.view.Search.{Search}
use Rattle.heap_rule.specs.declared.view.Spot.{Spot}
use Rattle.heap_rule.specs.Copies.{Promoting}
use Rattle.heap_rule.specs.Beside.{RunsBeside}
use Rattle.heap_rule.specs.Cycles.{Cycled, Facts, IsCollecting, IsIdle, Knowing, KnowsBlocks, seen_by}
use Rattle.heap_rule.specs.Ephemerons.{IsEpheAt, Listed}
use Rattle.heap_rule.specs.Layout.{at_address, before_heap, heap_words}
use Rattle.heap_rule.specs.Places.{Place, extent}
use Rattle.heap_rule.specs.Pools.{Grid, Hunter, Hunts, IsBefore, IsPassed, OwnPlace, Stock, Tenancy, blocks_of, limit_of, owned, place_in, size_of, first_search, freed_at, search_at}
use Rattle.heap_rule.specs.Raw.{MayStore}
use Rattle.heap_rule.specs.Rule.{AllFound, Good, Making, Rule, Sharing, state_of}
use Rattle.heap_rule.specs.Sweeping.{Reaps, SweepsIn}
use Rattle.heap_rule.specs.Views.{one}
use Rattle.heap_rule.proofs.Beside.{found_beside, making_beside}
use Rattle.heap_rule.proofs.BesideLemmas.{runs_on}
use Rattle.heap_rule.proofs.Classes.{size_least, slot_inside}
use Rattle.heap_rule.proofs.Holders.{SameFor, agrees_same, drawn_owned, hunter_agree, stock_self}
use Rattle.heap_rule.proofs.Keeps.{Words, control_set, more_same, my_good}
use Rattle.heap_rule.proofs.Lots.{head_full, hunter_beside, live_beside, place_low, pool_beside}
use Rattle.heap_rule.proofs.OwnPlaces.{owned_same}
use Rattle.heap_rule.proofs.Sharings.{SameCycle, facts_words, leading_words}
use Rattle.step_marks.proofs.OfMarking.Learning.{at_other, at_same, kind_here}
use Rattle.step_marks.proofs.OfMarking.WalkSteps.{before_behind}
use Rattle.step_sweep.specs.Freeing.{FreeMay, FreeTold, freed}
use Rattle.step_sweep.proofs.CountSteps.{one_place}
use Rattle.heap_rule.proofs.Searches.{passed_freed}
use Rattle.step_sweep.proofs.Finding.{calm as not_copying, waits}
use Rattle.step_sweep.proofs.Reaping.{reaped_to, reaps}
use Rattle.step_sweep.proofs.Removals.{seen_at}
use Rattle.step_sweep.proofs.Owning.{one_owner}
use Rattle.step_sweep.proofs.SweepSteps.{sweeping_on}
use Rattle.std.proofs.lemmas.Option.{none-some, slice_get_within}

module _ (k : Config) (s : Words) (r : Rule k s) (id : ℕ) (hist : List Entry) (x : DomainView) (at : get_elem? s.views id ≡ some (one k hist x)) (a pool class slot : ℕ) (may : FreeMay x a pool class slot) (wide : length x.own.looked ≡ class_count) where
  open r.account use {tenancy as t, cycling as c}
  open x use {own.{number as d}}

  abbrev now : model.State
  now = state_of k r.account.log

  abbrev garbage' : ℕ → Bool
  garbage' = at_domain t.garbage a false

  abbrev t' : Tenancy
  t' = record t { garbage = garbage' }

  abbrev words' : List ℕ
  words' = set s.words (before_heap k + a) 0

  abbrev y : DomainView
  y = freed pool class slot x

  good : Good k r.account s.words x
  good = my_good k s r id hist x at

  calm : Promoting r.account.pause → ⊥
  calm = not_copying k s r id hist x at may.stage

  -- garbage lies at the place, in an own pool
  found : Reaps t.holder t.garbage d (AtGarbage pool class slot)
  found = subst (Reaps t.holder t.garbage d) may.found good.sweeps.reaps

  own : t.holder pool ≡ owned d class
  own = found.0

  inside : slot < blocks_of class
  inside = found.1

  is_garbage : IsTrue (t.garbage a)
  is_garbage = ap t.garbage may.word ∙ found.2

  own_by : (pool < k.pools) × (d < k.domains) × (class < class_count)
  own_by = r.whole.pools.owned_by pool d class own

  dead : r.account.live a ≡ None
  dead = r.whole.cycle.leaves.dead a is_garbage

  place : OwnPlace t.holder a d
  place = record { pool = pool; class = class; slot = slot; owned_is = own; inside = inside; begins = may.word }

  low : 1 ≤ a
  low = let e : a ≡ place_in pool class slot = may.word in omega arith

  old : a ≤ k.pools * 4096
  old = place_low k t s.words a d r.whole.pools place

  stays : (b : ℕ) → b ≢ a → at_address k words' b ≡ at_address k s.words b
  stays b differ = get_or-set_other s.words (before_heap k + a) (before_heap k + b) 0 0 (λ e. differ (omega arith))

  here_is : at_address k words' a ≡ 0
  here_is = get_or-set_same s.words (before_heap k + a) 0 0 (let w : ℕ = heap_words k in let b : ℕ = before_heap k in let n : ℕ = k.pools * 4096 in let m : ℕ = k.domains * k.minor_words in let h : a ≤ n = old in let e : w ≡ n + m = refl in let g : length s.words ≡ 1 + b + w = r.whole.wide in omega arith)

  control : (i : ℕ) → i ≤ before_heap k → get_or words' i 0 ≡ get_or s.words i 0
  control = control_set k s.words a 0 low

  -- the place is the first word of no block, and lies in none
  far : (b : ℕ) (q : Place) → r.account.live b ≡ Some q → (z : ℕ) → z < extent q.shape → b + z ≢ a
  far b q lives z within same = dite (ℕ_discrete z 0)
      (λ zero. none-some q (sym dead ∙ (ap r.account.live (let e : b + z ≡ a = same in let g : z ≡ 0 = zero in let h : a ≡ b = omega arith in h) ∙ lives)))
      (λ behind.
      let first : 1 ≤ z = (let n : z ≢ 0 = behind in omega arith) in
      let beside = live_beside k t r.account.live s.words b z q r.whole.pools r.whole.grid (r.whole.placed.fits b q lives).low lives first within (head_full k c.paint r.account.live now.graph s.words b q (r.whole.found b q lives)) d in
      let m : ℕ = place_in pool class slot in
      let n : ℕ = size_of class in
      let large : 4 ≤ n = size_least class own_by.2 in
      let e : b + z ≡ m = same ∙ may.word in
      ⊎_elim
      (λ (o : (b + z < m) ⊎ (m + n ≤ b + z)). ⊎_elim (λ (h : b + z < m). omega arith) (λ (h : m + n ≤ b + z). omega arith) o)
      (λ (o : (m < b + z) × (at_address k s.words m ≢ 0) × (t.prepared m ≡ None)). let h = o.0 in omega arith)
      (beside.not_place pool class slot own inside))

  found' : AllFound k c.paint r.account.live now.graph words'
  found' b q lives = let g = r.whole.found b q lives in found_beside k c.paint r.account.live r.account.live now.graph now.graph s.words a 0 b q (more_same r.account.live) g g.there (far b q lives)

  no_prepared : (b e : ℕ) → t.prepared b ≡ Some e → ⊥
  no_prepared b e is = calm (r.whole.drawers.prepared b e is).1

  grid' : Grid k t' r.account.live words'
  grid' = record {
    lots = r.whole.grid.lots;
    places = λ q e cl i is inside. dite (ℕ_discrete (place_in q cl i) a)
        (λ same. inl (ap (at_address k words') same ∙ here_is))
        (λ other. ⊎_elim
        (λ (z : at_address k s.words (place_in q cl i) ≡ 0). inl (stays (place_in q cl i) other ∙ z))
        (λ z. inr (⊎_elim
        (λ (u : (p : Place) × (r.account.live (place_in q cl i) ≡ Some p)). inl u)
        (λ u. inr (⊎_elim (λ (v : t.prepared (place_in q cl i) ≡ Some e). inl v) (λ (v : IsTrue (t.garbage (place_in q cl i))). inr (at_other t.garbage a false (place_in q cl i) other ∙ v)) u))
        z))
        (r.whole.grid.places q e cl i is inside));
    spares = λ b e is. absurd (no_prepared b e is);
  }

  -- nothing else that was garbage is none
  still_dead : (b : ℕ) → b ≢ a → IsTrue (t.garbage b) → IsTrue (garbage' b)
  still_dead b other is = at_other t.garbage a false b other ∙ is

  still_clean : (b : ℕ) → t.garbage b ≡ false → garbage' b ≡ false
  still_clean b clean = dite (ℕ_discrete b a) (λ same. ap garbage' same ∙ at_same t.garbage a false) (λ other. at_other t.garbage a false b other ∙ clean)

  -- and no ephemeron that is listed was there
  listed_else : (e : ℕ) (items : List ℕ) → (IsTrue (seen_by items a) → IsTrue (t.garbage a) → ⊥) → Listed r.account.live t.holder t.garbage e items → Listed r.account.live t.holder garbage' e items
  listed_else e items apart l = record {
    all = l.all;
    own = l.own;
    lives = λ b is. ⊎_elim
        (λ (h : IsEpheAt r.account.live b). inl h)
        (λ (h : IsTrue (t.garbage b)). inr (still_dead b (λ same. apart (subst (λ (n : ℕ). IsTrue (seen_by items n)) same is) (subst (λ (n : ℕ). IsTrue (t.garbage n)) same h)) h))
        (l.lives b is);
  }

  listed_own : Listed r.account.live t.holder garbage' d x.own.ephemerons.items
  listed_own = listed_else d x.own.ephemerons.items
      (λ is bad.
      let p = seen_at x.own.ephemerons.items a is in
      let i : ℕ = p.0 in
      let n : ℕ = length x.own.ephemerons.items in
      let m : ℕ = x.own.swept.listed in
      let low : i < n = slice_get_within x.own.ephemerons.items p.0 a p.1 in
      let far : n ≤ m = may.pruned in
      true≢false (sym bad ∙ good.sweeps.listed i a (let g : i < m = omega arith in g) p.1))
      good.listed

  listeds : (z : DomainView) → z.own.number ≢ d → Good k r.account s.words z → Listed r.account.live t.holder garbage' z.own.number z.own.ephemerons.items
  listeds z other g = listed_else z.own.number z.own.ephemerons.items (λ is bad. other (one_owner k t s.words r.whole.pools a z.own.number d (g.listed.own a is) place)) g.listed

  makings : (z : DomainView) → Good k r.account s.words z → Making k words' z
  makings z g = making_beside k s.words a 0 z (λ j fits same. let m : ℕ = z.own.number * k.minor_words in let n : ℕ = k.pools * 4096 in let h : a ≤ n = old in let e : n + m + 1 + z.own.used + 1 + j ≡ a = same in omega arith) g.making

  same_for : (e : ℕ) → SameFor t t' e
  same_for e = record { drawn_to = λ q h. h; drawn_from = λ q h. h; owned_to = λ q b h. h; owned_from = λ q b h. h; asking_same = refl; prepared_to = λ b h. h; prepared_from = λ b h. h; fresh_same = λ b. refl; stock_same = stock_self t.stock e }

  in_pool : (pool * 4096 < a) × (a ≤ pool * 4096 + 4096)
  in_pool =
      let u : ℕ = slot * size_of class in
      let v : ℕ = size_of class in
      let top : u + v ≤ 4096 = slot_inside class slot own_by.2 inside in
      let large : 4 ≤ v = size_least class own_by.2 in
      let e : a ≡ pool * 4096 + u + 1 = may.word in
      (omega arith, omega arith)

  hunters : (z : DomainView) → z.own.number ≢ d → Good k r.account s.words z → Hunter k t' words' z
  hunters z other g = hunter_agree k t t' words' words' (agrees_same k words') z (omega arith) (same_for z.own.number)
      (hunter_beside k t s.words a 0 r.whole.pools z (pool_beside k t s.words pool a z.own.number r.whole.pools in_pool.0 in_pool.1
      (λ e. drawn_owned z.own.number d class (sym e ∙ own))
      (λ b e. other (sym (owned_same d z.own.number class b (sym own ∙ e)).0))) g.hunter)

  abbrev here : Spot
  here = record { pool = pool; slot = slot }

  abbrev looked' : List Search
  looked' = set x.own.looked class (freed_at pool slot (search_at x.own.looked class))

  -- what is passed once the place is free again was passed before, and isn't the place
  passed_looked : (q cl i : ℕ) → IsPassed q i (search_at looked' cl) → IsPassed q i (search_at x.own.looked cl) × (cl ≡ class → (q ≡ pool) × (i ≡ slot) → ⊥)
  passed_looked q cl i passed = dite (ℕ_discrete cl class)
      (λ same.
      let b = passed_freed q i pool slot (search_at x.own.looked class) (subst (IsPassed q i) (ap (search_at looked') same ∙ get_or-set_same x.own.looked class (freed_at pool slot (search_at x.own.looked class)) first_search (let few = own_by.2 in omega arith)) passed) in
      (subst (λ (n : ℕ). IsPassed q i (search_at x.own.looked n)) (sym same) b.0, λ _. b.1))
      (λ other. (subst (IsPassed q i) (get_or-set_other x.own.looked class cl (freed_at pool slot (search_at x.own.looked class)) first_search other) passed, λ same. absurd (other same)))

  -- the places at which the domain has looked aren't this one
  taken' : (q cl i : ℕ) → t.holder q ≡ owned d cl → i < blocks_of cl → IsPassed q i (search_at looked' cl) → at_address k words' (place_in q cl i) ≢ 0
  taken' q cl i is below passed =
      let was = passed_looked q cl i passed in
      let differ : place_in q cl i ≢ a = (λ e.
      let few : cl < class_count = (r.whole.pools.owned_by q d cl is).2 in
      let class_in : q ≡ pool → cl ≡ class = (λ same. (owned_same d d cl class (sym is ∙ (ap t.holder same ∙ own))).1) in
      let one = one_place q cl i slot pool class few own_by.2 below inside class_in (e ∙ may.word) in
      was.1 (class_in one.0) one) in
      λ e. good.hunter.taken q cl i is below was.0 (sym (stays (place_in q cl i) differ) ∙ e)

  -- what was free is free
  free_still : (b : ℕ) → at_address k s.words b ≡ 0 → at_address k words' b ≡ 0
  free_still b free = dite (ℕ_discrete b a) (λ same. ap (at_address k words') same ∙ here_is) (λ other. stays b other ∙ free)

  hunter' : Hunter k t' words' y
  hunter' = let h = good.hunter in record {
    hunt = subst (Hunts k t' words' d) (sym may.at_rest) tt;
    drawn_alone = h.drawn_alone;
    taken = taken';
    spare = λ u e. let f = h.spare u e in record { own_is = f.own_is; inside = f.inside; free = free_still (place_in u.pool u.class u.slot) f.free };
    free = λ m e. subst (λ (n : ℕ × ℕ). (n.0 ≤ m + n.1) × (n.0 ≤ m + limit_of k n.0) × (m ≤ n.0)) (λ i. (sym (control 6 (omega arith)) i, sym (control 7 (omega arith)) i)) (h.free m e);
    holds = h.holds;
    prepared = h.prepared;
    claims = h.claims;
    supply = λ b few some. absurd (let none : t.stock.drawn d b ≡ 0 = ap (λ (z : Stock). z.drawn d b) (r.whole.unused calm) in let n : ℕ = t.stock.drawn d b in let e : n ≡ 0 = none in let p : 0 < n = some in omega arith);
  }

  -- the control words stay
  same : SameCycle s.words words'
  same = record { armed_same = control 4 (omega arith); colours_same = control 5 (omega arith); changed_same = control 3 (omega arith); blocks_same = control 9 (omega arith); words_same = control 10 (omega arith) }

  -- less garbage is left
  facts_of : (kind : Kind) → (kind ≡ Sweep) ⊎ (kind ≡ Run) → Facts kind k now r.account.live t c words' → Facts kind k now r.account.live t' c words'
  facts_of Sweep is f = record { since = f.since; swept = f.swept; clear = λ e b gone own. still_clean b (f.clear e b gone own); all_counted = f.all_counted }
  facts_of Run is f = f
  facts_of Promote is f = f
  facts_of Reset is f = f
  facts_of Roots is f = f
  facts_of Mark is f = f
  facts_of Rounds is f = f
  facts_of Decide is f = f
  facts_of Queued is f = f
  facts_of Clean is f = f
  facts_of Lasts is f = record { facts = f.facts; unchanged = f.unchanged; stays = f.stays; turned = f.turned }
  facts_of Answer is f = absurd (⊎_elim (λ (e : Answer ≡ Sweep). let h : Answer ≡ Sweep = e in cc) (λ (e : Answer ≡ Run). let h : Answer ≡ Run = e in cc) is)

  kind_is : (c.kind ≡ Sweep) ⊎ (c.kind ≡ Run)
  kind_is = ⊎_elim (λ here. inl (kind_here k s r id hist x at Sweep here)) (λ here. inr (kind_here k s r id hist x at Run here)) may.stage

  -- what is garbage still was, and is another place
  was : (b : ℕ) → IsTrue (garbage' b) → (b ≢ a) × IsTrue (t.garbage b)
  was b is = dite (ℕ_discrete b a)
      (λ same. absurd (true≢false (sym is ∙ (ap garbage' same ∙ at_same t.garbage a false))))
      (λ other. (other, sym (at_other t.garbage a false b other) ∙ is))

  cycle' : Cycled k now r.account.live r.account.pause t' c words'
  cycle' = let z = r.whole.cycle in record {
    armed_is = same.armed_same ∙ z.armed_is;
    meanings = z.meanings;
    colours_are = same.colours_same ∙ z.colours_are;
    changed_is = same.changed_same ∙ z.changed_is;
    facts = facts_of c.kind kind_is (facts_words c.kind k now r.account.live t c s.words words' same z.facts);
    told = z.told;
    leaves = record {
      none = λ e u b. still_clean b (z.leaves.none e u b);
      dead = λ b is. z.leaves.dead b (was b is).1;
      head = λ b is. let w = was b is in let h = z.leaves.head b w.1 in (h.0, h.1, stays b w.0 ∙ h.2);
      unprepared = λ b is. z.leaves.unprepared b (was b is).1;
      owned = λ b is. z.leaves.owned b (was b is).1;
    };
    unswept = z.unswept;
    whole = z.whole;
    grows = z.grows;
  }

  still_free : (b : ℕ) → at_address k s.words b ≡ 0 → at_address k words' b ≡ 0
  still_free b free = dite (ℕ_discrete b a) (λ same. ap (at_address k words') same ∙ here_is) (λ other. stays b other ∙ free)

  heads : (b : ℕ) (p : Place) → r.account.live b ≡ Some p → at_address k words' b ≡ at_address k s.words b
  heads b p lives = stays b (λ same. none-some p (sym dead ∙ (ap r.account.live (sym same) ∙ lives)))

  abbrev share' : Share
  share' = y.seen.share

  -- what is known of blocks that live stays
  running' : (z : DomainView) → Good k r.account s.words z → RunsBeside k r.account.live t.holder c.armed c.past c.paint.marks.marked words' z.own.number z.seen.stage z.seen.share
  running' z h = runs_on k r.account.live r.account.live t.holder t.holder c.armed c.past c.past c.paint.marks.marked c.paint.marks.marked s.words words' z.own.number z.seen.stage z.seen.share
      (λ _. record { more = more_same r.account.live; held = λ q e b is. is; stays = λ l is. is; heads = λ b p lives. inl (heads b p lives) }) refl (λ q. refl) h.sharing.running

  knows' : (z : DomainView) → Good k r.account s.words z → KnowsBlocks k r.account.live t.holder now.graph c.paint.marks words' z.own.number z.own.registers z.seen.stage z.seen.share
  knows' z h = ⊎_elim
      (λ (q : IsIdle z.seen.share). inl q)
      (λ (n : IsCollecting z.seen.stage × Knowing k r.account.live t.holder now.graph c.paint.marks s.words z.own.number z.own.registers z.seen.share). let kn = n.1 in inr (
        n.0,
        record {
          found_head = λ g p e lives. ⊎_elim (λ (there : at_address k s.words g.address ≡ g.word). inl (heads g.address p lives ∙ there)) (λ is. inr is) (kn.found_head g p e lives);
          scan = kn.scan;
          walked = kn.walked;
          own_pool = kn.own_pool;
          rooted = kn.rooted;
          marked = kn.marked;
          counted = kn.counted;
          held = kn.held;
          vacant = λ cl i is low_slot low. still_free (place_in z.seen.share.held cl i) (kn.vacant cl i is low_slot low);
        },
      ))
      h.sharing.knows

  sharing' : Sharing k (reaped_to k s r id hist x at r.account.live garbage' c) words' d x.own.registers x.own.finalisers x.own.ephemerons.items x.seen.stage share'
  sharing' =
      let g = good.sharing in
      let l = leading_words c s.words words' d x.seen.stage x.seen.share same g.leading in
      let run = running' x good in record {
        telling = record { owes = g.telling.owes; seen = g.telling.seen; fresh = λ up. ap (λ (z : Share). sweeping_on z share'.reaping share'.swept) (g.telling.fresh up); forgotten = g.telling.forgotten; colours = g.telling.colours };
        leading = record { changed = l.changed; found_blocks = l.found_blocks; found_words = l.found_words; rotated = l.rotated; turned = l.turned; pass = l.pass; whole = l.whole; armed = l.armed; unswept = l.unswept; under_way = l.under_way; unmarked = l.unmarked };
        knows = ⊎_elim
            (λ (idle : IsIdle x.seen.share). inl (ap (λ (z : Share). sweeping_on z share'.reaping share'.swept) idle))
            (λ (n : IsCollecting x.seen.stage × Knowing k r.account.live t.holder now.graph c.paint.marks words' d x.own.registers x.seen.share). let kn = n.1 in let m = kn.counted in inr (
              n.0,
              record { found_head = kn.found_head; scan = kn.scan; walked = kn.walked; own_pool = kn.own_pool; rooted = kn.rooted; marked = kn.marked; counted = record { once = m.once; own = m.own; lives = m.lives; all = m.all; words = m.words }; held = kn.held; vacant = kn.vacant },
            ))
            (knows' x good);
        adds = record { blocks = g.adds.blocks; words = g.adds.words; own = g.adds.own };
        looks = record { at_own = g.looks.at_own; cleans = g.looks.cleans; emptied_is = g.looks.emptied_is };
        running = record { knows = run.knows; owes = run.owes };
        deciding = g.deciding;
      }

  sharings' : (z : DomainView) → z.own.number < k.domains → z.own.number ≢ d → Good k r.account s.words z → Sharing k (reaped_to k s r id hist x at r.account.live garbage' c) words' z.own.number z.own.registers z.own.finalisers z.own.ephemerons.items z.seen.stage z.seen.share
  sharings' z below other h = let g = h.sharing in record {
    telling = g.telling;
    leading = leading_words c s.words words' z.own.number z.seen.stage z.seen.share same g.leading;
    knows = knows' z h;
    adds = g.adds;
    looks = g.looks;
    running = running' z h;
    deciding = g.deciding;
  }

  -- the sweep goes on behind the place, where no garbage is any more
  sweeps' : SweepsIn t' c y
  sweeps' = let w = good.sweeps in record {
    listed = λ i b few got. still_clean b (w.listed i b few got);
    places = λ q cl i is below before.
        let class_is : q ≡ pool → cl ≡ class = (λ same. (owned_same d d cl class (sym is ∙ (ap t.holder same ∙ own))).1) in ⊎_elim
        (λ (h : (q ≡ pool) × (i ≡ slot)). ap (λ (z : ℕ × ℕ × ℕ). garbage' (place_in z.0 z.1 z.2)) (λ j. (h.0 j, class_is h.0 j, h.1 j)) ∙ (ap garbage' (sym may.word) ∙ at_same t.garbage a false))
        (λ (h : IsBefore q i here). still_clean (place_in q cl i) (w.places q cl i is below (subst (IsBefore q i) (sym may.next) h)))
        (before_behind pool class slot q i (λ same. subst (λ (z : ℕ). i < blocks_of z) (class_is same) below) before);
    anew = λ _ up. absurd (true≢false (sym up ∙ waits k s r id hist x at may.stage));
    reaps = own;
    below = w.below;
  }

  -- another domain is at another place
  reaps_else : (z : DomainView) → z.own.number ≢ d → (reaping : Reaping) → Reaps t.holder t.garbage z.own.number reaping → Reaps t.holder garbage' z.own.number reaping
  reaps_else z other Outside w = tt
  reaps_else z other (Inside q cl) w = w
  reaps_else z other (AtGarbage q cl i) w = (w.0, w.1, still_dead (place_in q cl i) (λ e. other (one_owner k t s.words r.whole.pools a z.own.number d (record { pool = q; class = cl; slot = i; owned_is = w.0; inside = w.1; begins = sym e }) place)) w.2)

  others_sweep : (z : DomainView) → z.own.number ≢ d → Good k r.account s.words z → SweepsIn t' c z
  others_sweep z other h = let w = h.sweeps in record {
    listed = λ i b few got. still_clean b (w.listed i b few got);
    places = λ q cl i is below before. still_clean (place_in q cl i) (w.places q cl i is below before);
    anew = w.anew;
    reaps = reaps_else z other z.seen.share.reaping w.reaps;
    below = w.below;
  }

  pub free_rule : Rule k record { words = words'; homes = s.homes; views = set s.views id (one k hist y) }
  free_rule = reaps k s r id hist x at looked' x.own.ephemerons y.own.swept share' r.account.live garbage' c words' record {
    wide = length-set s.words (before_heap k + a) 0;
    control = λ i below _ _ _. control i below;
    calm = calm;
    kind = refl;
    subset = λ b p e. e;
    stood = λ z st. st;
    fields = λ z _ g. g.owes.fields;
    found = found';
    grid = grid';
    makings = makings;
    hunter = hunter';
    hunters = hunters;
    cycle = cycle';
    sharing = sharing';
    sharings = sharings';
    listed_own = listed_own;
    listeds = listeds;
    left = λ q e cl i is below dead. r.whole.full.left q e cl i is below (was (place_in q cl i) dead).1;
    sweeps = sweeps';
    others_sweep = λ z _ other h. others_sweep z other h;
  }

pub free_may : (k : Config) (x : DomainView) (word a pool class slot : ℕ) → word ≡ before_heap k + a → FreeMay x a pool class slot → MayStore k x word 0 (FreeTold pool class slot)
free_may k x word a pool class slot place may fits slots id hist s r _ at _ =
    let y : DomainView = freed pool class slot x in
    (one k hist y, keeps, tt, subst (λ (n : ℕ). Rule k record { words = set s.words n 0; homes = s.homes; views = set s.views id (one k hist y) }) (sym place) (free_rule k s r id hist x at a pool class slot may fits.looked.wide), (refl, refl))
