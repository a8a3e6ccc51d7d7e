-- The count of what lives in own pools keeps the rule.
use Rattle.std.proofs.Common.{◌≡◌, ◌≢◌, ℕ, zero, suc, ◌+◌, ◌*◌, ◌<◌, ◌≤◌, ◌⊎◌, ◌==◌, false, true, true≢false, IsTrue, eq-eqb, eqb-true, List, ◌∷◌, get_or, set, slice_get, sum_by, Some, None, Option, sym, refl, ap, ◌∙◌, subst, inl, inr, ⊎_elim, arith, lt_of_not-le}
use mathlib.Core.Logic.{dite}
use native.Mathlib.Decide.{ℕ_discrete, dec_le}
use mathlib.Core.Option.{some}
use lib.ListN.{get_elem?}
use Rattle.atomic_table.specs.Table.{keeps}
use Rattle.model_core.specs.declared.entry.Entry.{Entry}
use Rattle.model_core.specs.declared.state.State as model
use Rattle.model_core.specs.Domains.{class_count}
use Rattle.model_core.proofs.Reach.ReachLemmas.{or_cases, or_left, or_right}
use Rattle.heap_rule.specs.declared.config.Config.{Config}
use Rattle.heap_rule.specs.declared.phase.Kind.TheVariants.{Sweep}
use Rattle.heap_rule.specs.declared.phase.Stage.TheVariants.{In}
use Rattle.heap_rule.specs.declared.view.DomainView.{DomainView}
use Rattle.heap_rule.specs.declared.view.Share.{Share}
use Rattle.heap_rule.specs.declared.view.Spot.{Spot}
use Rattle.heap_rule.specs.declared.view.OwnPool.{OwnPool}
use Rattle.heap_rule.specs.Cycles.{HasCounted, HoldsBlock, IsCollecting, Knowing, extent_in, labels_in, seen_by}
use Rattle.heap_rule.specs.Layout.{at_address, before_heap, owner_of}
use Rattle.heap_rule.specs.Places.{Place, extent}
use Rattle.heap_rule.specs.Pools.{IsBefore, blocks_of, owned, owner_word, place_in, size_of}
use Rattle.heap_rule.specs.Raw.{CanLeave, Closes, Leaves, MayStep}
use Rattle.heap_rule.specs.Rule.{Rule, state_of}
use Rattle.heap_rule.specs.Views.{one}
use Rattle.heap_rule.proofs.Classes.{size_least, slot_below, slot_inside}
use Rattle.heap_rule.proofs.Keeps.{Words, my_good, unmoved}
use Rattle.heap_rule.proofs.OwnPlaces.{owned_same}
use Rattle.heap_rule.proofs.Lots.{place_cases}
use Rattle.step_marks.specs.Marking.Looks.{with_share}
use Rattle.step_marks.specs.Marking.Marking.{behind}
use Rattle.step_marks.proofs.OfMarking.Colouring.{bare_head}
use Rattle.step_marks.proofs.OfMarking.Layouts.{whose}
use Rattle.step_marks.proofs.OfMarking.Learning.{load_may, bare, known, learns, waits}
use Rattle.step_marks.proofs.OfMarking.Plain.{share_closes}
use Rattle.step_marks.proofs.OfMarking.WalkSteps.{before_behind, last_behind, next_behind}
use Rattle.step_sweep.specs.Counting.{CountMay, CountOwnMay, CountOwnTold, CountTold}
use Rattle.step_sweep.proofs.Removals.{among}
use Rattle.step_sweep.proofs.Swept.{empty_free, sweeping}
use Rattle.std.proofs.lemmas.List.Sums.{sum_by-cons}
use Rattle.std.proofs.lemmas.Option.{same_Some}

-- what was before a place is before the one behind it, and so is the place
later_behind : (pool class slot q i : ℕ) → IsBefore q i (record { pool = pool; slot = slot }) → IsBefore q i (behind pool class slot)
later_behind pool class slot q i before = dite (dec_le (blocks_of class) (slot + 1))
    (λ last. subst (IsBefore q i) (sym (last_behind pool class slot last)) (inl (⊎_elim (λ (h : q < pool). omega arith) (λ (h : (q ≡ pool) × (i < slot)). let e = h.0 in omega arith) before)))
    (λ more. subst (IsBefore q i) (sym (next_behind pool class slot (lt_of_not-le more))) (⊎_elim (λ (h : q < pool). inl h) (λ (h : (q ≡ pool) × (i < slot)). inr (h.0, let l = h.1 in omega arith)) before))

pub here_behind : (pool class slot : ℕ) → IsBefore pool slot (behind pool class slot)
here_behind pool class slot = dite (dec_le (blocks_of class) (slot + 1))
    (λ last. subst (IsBefore pool slot) (sym (last_behind pool class slot last)) (inl (omega arith)))
    (λ more. subst (IsBefore pool slot) (sym (next_behind pool class slot (lt_of_not-le more))) (inr (refl, omega arith)))

-- a place of the pools is no other one
pub one_place : (q class i j : ℕ) (p e : ℕ) → class < class_count → e < class_count → i < blocks_of class → j < blocks_of e → (q ≡ p → class ≡ e) → place_in q class i ≡ place_in p e j → (q ≡ p) × (i ≡ j)
one_place q class i j p e few few' inside inside' same_class same =
    let u : ℕ = i * size_of class in
    let v : ℕ = j * size_of e in
    let m : ℕ = size_of class in
    let n : ℕ = size_of e in
    let top : u + m ≤ 4096 = slot_inside class i few inside in
    let top' : v + n ≤ 4096 = slot_inside e j few' inside' in
    let large : 4 ≤ m = size_least class few in
    let large' : 4 ≤ n = size_least e few' in
    let at : q * 4096 + u + 1 ≡ p * 4096 + v + 1 = same in
    let pool : q ≡ p = omega arith in
    let w : ℕ = j * size_of class in
    let is : v ≡ w = ap (λ (z : ℕ). j * size_of z) (sym (same_class pool)) in
    let begins : u ≡ w = omega arith in (
      pool,
      dite (ℕ_discrete i j)
          (λ h. h)
          (λ other. let differ : i ≢ j = other in absurd (dite (dec_le i j)
          (λ low. let l : i ≤ j = low in let g : u + m ≤ w = slot_below class i j (omega arith) in omega arith)
          (λ high. let g : w + m ≤ u = slot_below class j i (lt_of_not-le high) in omega arith))),
    )

-- a step that changes what a domain knows of its own pools, and what it has counted in them, alone
module _ (k : Config) (s : Words) (r : Rule k s) (id : ℕ) (hist : List Entry) (x : DomainView) (at : get_elem? s.views id ≡ some (one k hist x)) (collecting : IsCollecting x.seen.stage)
    (own_pool : Option OwnPool) (counted : List ℕ) (counted_to : Spot) (many held vacant : ℕ) where
  open r.account use {live, tenancy.{holder}, cycling as c}
  open x use {own.{number as d}, seen.{share as sh}}

  abbrev counting : Share
  counting = record sh { own_pool = own_pool; counted = counted; counted_to = counted_to; counted_words = many; held = held; vacant = vacant }

  pub counts_pools : ((u : OwnPool) → own_pool ≡ Some u → holder u.pool ≡ owned d u.class) → HasCounted k live holder d counting → (c.kind ≡ Sweep → c.shares.arrived d ≡ false → sh.added_blocks ≡ true → c.counts.own d ≡ labels_in live counted)
      → ((q class : ℕ) → holder q ≡ owned d class → q < held → HoldsBlock live q class) → ((class slot : ℕ) → holder held ≡ owned d class → slot < blocks_of class → slot < vacant → at_address k s.words (place_in held class slot) ≡ 0)
      → Rule k record { words = s.words; homes = s.homes; views = set s.views id (one k hist (with_share x counting)) }
  counts_pools own has_counted added holds free =
      let g = (my_good k s r id hist x at).sharing in
      let l = g.leading in
      let kn = known k s r id hist x at in
      let here : c.shares.arrived d ≡ false = waits k s r id hist x at collecting in learns k s r id hist x at counting record {
        telling = record { owes = g.telling.owes; seen = g.telling.seen; fresh = λ up. absurd (true≢false (sym up ∙ here)); forgotten = λ up. absurd (true≢false (sym up ∙ here)); colours = g.telling.colours };
        leading = record { changed = l.changed; found_blocks = l.found_blocks; found_words = l.found_words; rotated = l.rotated; turned = l.turned; pass = l.pass; whole = l.whole; armed = l.armed; unswept = l.unswept; under_way = l.under_way; unmarked = l.unmarked };
        knows = inr (collecting, record { found_head = kn.found_head; scan = kn.scan; walked = kn.walked; own_pool = own; rooted = kn.rooted; marked = kn.marked; counted = has_counted; held = holds; vacant = free });
        adds = record { blocks = g.adds.blocks; words = g.adds.words; own = added };
        looks = record { at_own = g.looks.at_own; cleans = g.looks.cleans; emptied_is = g.looks.emptied_is };
        running = record { knows = g.running.knows; owes = g.running.owes };
        deciding = g.deciding;
      }
      (my_good k s r id hist x at).sweeps

module _ (k : Config) (s : Words) (r : Rule k s) (id : ℕ) (hist : List Entry) (x : DomainView) (at : get_elem? s.views id ≡ some (one k hist x)) (stage : x.seen.stage ≡ In Sweep) (counts : x.seen.share.added_blocks ≡ false) where
  open r.account use {live, tenancy.{holder}, cycling as c}
  open x use {own.{number as d}, seen.{share as sh}}

  abbrev now : model.State
  now = state_of k r.account.log

  abbrev After : DomainView → Type 0
  After y = Rule k record { words = s.words; homes = s.homes; views = set s.views id (one k hist y) }

  kn : Knowing k live holder now.graph c.paint.marks s.words d x.own.registers sh
  kn = known k s r id hist x at

  -- a step that changes what the domain has counted alone
  module _ (own_pool : Option OwnPool) (counted : List ℕ) (counted_to : Spot) (many : ℕ) where
    abbrev share' : Share
    share' = record sh { own_pool = own_pool; counted = counted; counted_to = counted_to; counted_words = many }

    counts_on : ((u : OwnPool) → own_pool ≡ Some u → holder u.pool ≡ owned d u.class) → HasCounted k live holder d share' → After (with_share x share')
    counts_on own counted = counts_pools k s r id hist x at (sweeping k s r id hist x at stage) own_pool share'.counted counted_to many sh.held sh.vacant own counted (λ _ _ done. absurd (true≢false (sym done ∙ counts))) kn.held kn.vacant

  -- the owner of the next pool
  module _ (word pool : ℕ) (may : CountOwnMay k x word pool) where
    abbrev owner : ℕ
    owner = owner_of k s.words pool

    is_owner : owner ≡ owner_word (holder pool)
    is_owner = r.whole.pools.owners pool may.inside

    passes : ((class : ℕ) → holder pool ≢ owned d class) → ((class : ℕ) → class < class_count → owner ≢ owner_word (owned d class)) → (y : DomainView) × After y × CountOwnTold pool x owner y
    passes none differs = let n = kn.counted in (
      with_share x (record sh { counted_to = record { pool = pool + 1; slot = 0 } }),
      counts_on sh.own_pool sh.counted (record { pool = pool + 1; slot = 0 }) sh.counted_words kn.own_pool record {
        once = n.once;
        own = λ a is. let o = n.own a is in (o.0, o.1, o.2, o.3, o.4, ⊎_elim (λ (h : o.0 < pool). inl (let q : ℕ = o.0 in let l : q < pool = h in let g : q < pool + 1 = omega arith in g)) (λ (h : (o.0 ≡ pool) × (o.2 < 0)). absurd (let l = h.1 in omega arith)) (subst (IsBefore o.0 o.2) may.next o.5), o.6);
        lives = n.lives;
        all = λ q e i p is inside before lives. dite (ℕ_discrete q pool)
            (λ same. absurd (none e (ap holder (sym same) ∙ is)))
            (λ other. n.all q e i p is inside (subst (IsBefore q i) (sym may.next) (⊎_elim (λ (h : q < pool + 1). inl (let m : q ≢ pool = other in let g : q < pool = omega arith in g)) (λ (h : (q ≡ pool + 1) × (i < 0)). absurd (let l = h.1 in omega arith)) before)) lives);
        words = n.words;
      },
      record { told = inr (differs, refl) },
    )

    owns : (class : ℕ) → holder pool ≡ owned d class → (y : DomainView) × After y × CountOwnTold pool x owner y
    owns class is = let n = kn.counted in (
      with_share x (record sh { own_pool = Some (record { pool = pool; class = class }) }),
      counts_on (Some (record { pool = pool; class = class })) sh.counted sh.counted_to sh.counted_words (λ u e. subst (λ (z : OwnPool). holder z.pool ≡ owned d z.class) (same_Some (record { pool = pool; class = class }) u e) is)
          record { once = n.once; own = n.own; lives = n.lives; all = n.all; words = n.words },
      record { told = inl (class, (r.whole.pools.owned_by pool d class is).2, is_owner ∙ ap owner_word is, refl) },
    )

    pub count_owner : (y : DomainView) × After y × CountOwnTold pool x owner y
    count_owner = ⊎_elim (λ u. owns u.0 u.1) (λ u. passes u.0 u.1) (whose k s r d pool may.inside (holder pool) refl)

  -- the head at the next place
  module _ (a pool class slot : ℕ) (may : CountMay x a pool class slot) where
    abbrev found : ℕ
    found = at_address k s.words a

    own : holder pool ≡ owned d class
    own = kn.own_pool (record { pool = pool; class = class }) may.own

    few : class < class_count
    few = (r.whole.pools.owned_by pool d class own).2

    -- no garbage is left there
    clean : r.account.tenancy.garbage a ≡ false
    clean = ap r.account.tenancy.garbage may.word ∙ (my_good k s r id hist x at).sweeps.places pool class slot own may.inside may.swept

    same_class : (q e : ℕ) → holder q ≡ owned d e → q ≡ pool → e ≡ class
    same_class q e is same = (owned_same d d e class (sym is ∙ (ap holder same ∙ own))).1

    -- a place that was counted is another one
    not_counted : IsTrue (seen_by sh.counted a) → ⊥
    not_counted is =
        let o = kn.counted.own a is in
        let here = one_place o.0 o.1 o.2 slot pool class (r.whole.pools.owned_by o.0 d o.1 o.3).2 few o.4 may.inside (same_class o.0 o.1 o.3) (sym o.6 ∙ may.word) in
        ⊎_elim (λ (h : o.0 < pool). let q : ℕ = o.0 in let e : q ≡ pool = here.0 in let l : q < pool = h in omega arith) (λ (h : (o.0 ≡ pool) × (o.2 < slot)). let q : ℕ = o.2 in let e : q ≡ slot = here.1 in let l : q < slot = h.1 in omega arith) (subst (IsBefore o.0 o.2) may.next o.5)

    before_same : (q e i : ℕ) → holder q ≡ owned d e → i < blocks_of e → IsBefore q i (behind pool class slot) → ((q ≡ pool) × (i ≡ slot)) ⊎ IsBefore q i sh.counted_to
    before_same q e i is inside before = ⊎_elim (λ h. inl h) (λ (h : IsBefore q i (record { pool = pool; slot = slot })). inr (subst (IsBefore q i) (sym may.next) h)) (before_behind pool class slot q i (λ same. subst (λ (z : ℕ). i < blocks_of z) (same_class q e is same) inside) before)

    at_here : (q e i : ℕ) → holder q ≡ owned d e → (q ≡ pool) × (i ≡ slot) → place_in q e i ≡ a
    at_here q e i is h = ap (λ (z : ℕ × ℕ × ℕ). place_in z.0 z.1 z.2) (λ j. (h.0 j, same_class q e is h.0 j, h.1 j)) ∙ sym may.word

    abbrev Told : DomainView → Type 0
    Told y = CountTold a pool class slot x found y

    later : (q i : ℕ) → IsBefore q i sh.counted_to → IsBefore q i (behind pool class slot)
    later q i before = later_behind pool class slot q i (subst (IsBefore q i) may.next before)

    empty : live a ≡ None → (y : DomainView) × After y × Told y
    empty none = let n = kn.counted in (
      with_share x (record sh { counted_to = behind pool class slot }),
      counts_on sh.own_pool sh.counted (behind pool class slot) sh.counted_words kn.own_pool record {
        once = n.once;
        own = λ b is. let o = n.own b is in (o.0, o.1, o.2, o.3, o.4, later o.0 o.2 o.5, o.6);
        lives = n.lives;
        all = λ q e i p is inside before lives. ⊎_elim
            (λ h. absurd (let clash : ◌≡◌ {A = Option Place} None (Some p) = sym none ∙ (ap live (sym (at_here q e i is h)) ∙ lives) in cc))
            (λ h. n.all q e i p is inside h lives)
            (before_same q e i is inside before);
        words = n.words;
      },
      record { told = inl (empty_free k s r id hist x at stage a pool class slot own may.inside may.word none clean, refl) },
    )

    once' : (i j b : ℕ) → slice_get (a ∷ sh.counted) i ≡ Some b → slice_get (a ∷ sh.counted) j ≡ Some b → i ≡ j
    once' zero zero b e f = refl
    once' zero (suc j) b e f = absurd (not_counted (among sh.counted j a (f ∙ sym e)))
    once' (suc i) zero b e f = absurd (not_counted (among sh.counted i a (e ∙ sym f)))
    once' (suc i) (suc j) b e f = ap suc (kn.counted.once i j b e f)

    block : (p : Place) → live a ≡ Some p → (y : DomainView) × After y × Told y
    block p lives =
        let n = kn.counted in
        let collecting = sweeping k s r id hist x at stage in
        let head = bare_head c.paint p found (bare k s r id hist x at collecting a p lives) r.whole.cycle.meanings (r.whole.placed.fits a p lives).head (r.whole.found a p lives).head in
        let many : ℕ = sh.counted_words + extent p.shape in (
          with_share x (record sh { counted = a ∷ sh.counted; counted_to = behind pool class slot; counted_words = many }),
          counts_on sh.own_pool (a ∷ sh.counted) (behind pool class slot) many kn.own_pool record {
            once = once';
            own = λ b is. ⊎_elim
                (λ (here : IsTrue (b == a)). let e : b ≡ a = eqb-true b a here in (pool, class, slot, own, may.inside, here_behind pool class slot, e ∙ may.word))
                (λ (old : IsTrue (seen_by sh.counted b)). let o = n.own b old in (o.0, o.1, o.2, o.3, o.4, later o.0 o.2 o.5, o.6))
                (or_cases (b == a) (seen_by sh.counted b) is);
            lives = λ b is. ⊎_elim
                (λ (here : IsTrue (b == a)). (p, ap live (eqb-true b a here) ∙ lives))
                (λ (old : IsTrue (seen_by sh.counted b)). n.lives b old)
                (or_cases (b == a) (seen_by sh.counted b) is);
            all = λ q e i z is inside before there. ⊎_elim
                (λ h. or_left (place_in q e i == a) (seen_by sh.counted (place_in q e i)) (eq-eqb (place_in q e i) a (at_here q e i is h)))
                (λ h. or_right (place_in q e i == a) (seen_by sh.counted (place_in q e i)) (n.all q e i z is inside h there))
                (before_same q e i is inside before);
            words =
                let w : ℕ = sh.counted_words in
                let m : ℕ = sum_by (λ b. extent_in (live b)) sh.counted in
                let v : ℕ = extent_in (live a) in
                let u : ℕ = extent p.shape in
                let e : w ≡ m = n.words in
                let f : v ≡ u = ap extent_in lives in
                let g : w + u ≡ v + m = omega arith in
                g ∙ sym (sum_by-cons (λ b. extent_in (live b)) a sh.counted);
          },
          record { told = inr (p.shape, head.head, refl) },
        )

    pub counts_at : (y : DomainView) × After y × Told y
    counts_at = ⊎_elim (λ (none : live a ≡ None). empty none) (λ (q : (p : Place) × (live a ≡ Some p)). block q.0 q.1) (place_cases (live a))

pub count_own_may : (k : Config) (x : DomainView) (word pool : ℕ) → CountOwnMay k x word pool → MayStep k x word (λ n. n) (CountOwnTold pool)
count_own_may k x word pool may fits slots id hist s r _ at _ =
    let o = count_owner k s r id hist x at may.stage may.counts word pool may in
    (one k hist o.0, keeps, tt, unmoved k s word (set s.views id (one k hist o.0)) o.1, (subst (λ (n : ℕ). CountOwnTold pool x (get_or s.words n 0) o.0) (sym may.word) o.2, refl))

pub count_own_closes : (k : Config) (x : DomainView) (found pool : ℕ) → Closes k x found (CountOwnTold pool) CanLeave Leaves
count_own_closes k x found pool = share_closes k x found (CountOwnTold pool) (λ y t. ⊎_elim (λ u. (record x.seen.share { own_pool = Some (record { pool = pool; class = u.0 }) }, u.3)) (λ u. (record x.seen.share { counted_to = record { pool = pool + 1; slot = 0 } }, u.1)) t.told)

pub count_may : (k : Config) (x : DomainView) (word a pool class slot : ℕ) → word ≡ before_heap k + a → CountMay x a pool class slot → MayStep k x word (λ n. n) (CountTold a pool class slot)
count_may k x word a pool class slot place may = load_may k x word a (CountTold a pool class slot) place (λ s r id hist at. counts_at k s r id hist x at may.stage may.counts a pool class slot may)

pub count_closes : (k : Config) (x : DomainView) (found a pool class slot : ℕ) → Closes k x found (CountTold a pool class slot) CanLeave Leaves
count_closes k x found a pool class slot = share_closes k x found (CountTold a pool class slot)
    (λ y t. ⊎_elim (λ u. (record x.seen.share { counted_to = behind pool class slot }, u.1)) (λ u. (record x.seen.share { counted = a ∷ x.seen.share.counted; counted_to = behind pool class slot; counted_words = x.seen.share.counted_words + extent u.0 }, u.2)) t.told)
