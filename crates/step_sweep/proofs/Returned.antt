-- A pool in which nothing is left is nobody's: who has the others, and what lies where, stays.
use Rattle.std.proofs.Common.{◌≡◌, ◌≢◌, ℕ, zero, suc, ◌+◌, ◌*◌, ◌/◌, ◌%◌, ◌<◌, ◌≤◌, ◌⊎◌, List, get_or, set, Some, None, sym, ap, ◌∙◌, subst, inl, inr, ⊎_elim, arith, get_or-set_same, get_or-set_other, IsTrue, length, false, true≢false}
use mathlib.Core.Logic.{dite}
use native.Mathlib.Decide.{ℕ_discrete}
use mathlib.Core.Option.{some}
use lib.ListN.{get_elem?}
use Rattle.model_core.specs.declared.entry.Entry.{Entry}
use Rattle.model_core.specs.declared.state.Mode.TheVariants.{Open, Sealed}
use Rattle.model_core.specs.declared.state.State as model
use Rattle.heap_rule.specs.declared.view.Reaping.TheVariants.{Outside, Inside, AtGarbage}
use Rattle.heap_rule.specs.declared.view.Reaping.{Reaping}
use Rattle.heap_rule.specs.Sweeping.{Reaps, Sweeps, SweepsIn}
use Rattle.heap_rule.specs.declared.config.Config.{Config}
use Rattle.heap_rule.specs.declared.phase.Kind.{Kind}
use Rattle.heap_rule.specs.declared.phase.Kind.TheVariants.{Sweep, Answer, Clean}
use Rattle.heap_rule.specs.declared.phase.Stage.TheVariants.{In}
use Rattle.heap_rule.specs.declared.view.DomainView.{DomainView}
use Rattle.heap_rule.specs.declared.view.Share.{Share}
use Rattle.heap_rule.specs.Copies.{Promoting}
use Rattle.heap_rule.specs.Cycles.{Answering, Cycled, EndsCycle, Facts, IsSwept, Sweeping, IsCollecting, Knowing, HasCounted, owner_at, starts_in}
use Rattle.heap_rule.specs.Fullness.{Fullness}
use Rattle.heap_rule.specs.Layout.{at_address, heap_words, listed, cursor, listed_pool, owner_of, table_words}
use Rattle.heap_rule.specs.Phases.{sum_of}
use Rattle.heap_rule.specs.Places.{Place}
use Rattle.heap_rule.specs.Pools.{Drawers, Grid, Holder, OwnPlace, Pools, Reserved, Tenancy, blocks_of, drawn, limit_of, nobody, owned, owner_word, place_in, size_of}
use Rattle.heap_rule.specs.Rule.{Rule, state_of}
use Rattle.heap_rule.specs.Views.{one}
use Rattle.heap_rule.proofs.Classes.{size_least, slot_inside}
use Rattle.heap_rule.proofs.Holders.{Agrees, agrees_set, nobody_not}
use Rattle.heap_rule.proofs.Keeps.{Words}
use Rattle.heap_rule.proofs.OwnPlaces.{owned_same}
use Rattle.heap_rule.proofs.Lots.{head_full}
use Rattle.heap_rule.proofs.Update.{over, over_else, over_here}
use Rattle.heap_rule.proofs.Sharings.{SameCycle}
use Rattle.step_marks.proofs.OfMarking.Layouts.{labelled}
use Rattle.heap_rule.specs.Ephemerons.{IsEpheAt, Listed}
use Rattle.step_marks.proofs.OfMarking.Learning.{kind_here, known, lies_old, not_promoting, whole_in}
use Rattle.step_sweep.specs.Returning.{ReturnMay}
use Rattle.step_sweep.proofs.Swept.{returning, returns_clean}
use Rattle.std.proofs.lemmas.Option.{none-some}

module _ (k : Config) (s : Words) (r : Rule k s) (id : ℕ) (hist : List Entry) (x : DomainView) (at : get_elem? s.views id ≡ some (one k hist x)) (word pool class : ℕ) (may : ReturnMay k x word pool class) where
  open r.account use {live, tenancy as T, cycling as c}
  open x use {own.{number as d}, seen.{share as sh}}

  abbrev now : model.State
  now = state_of k r.account.log

  pub collecting : IsCollecting x.seen.stage
  collecting = returning k s r id hist x at may.returns

  kn : Knowing k live T.holder now.graph c.paint.marks s.words d x.own.registers sh
  kn = known k s r id hist x at

  pub kind_is : (c.kind ≡ Sweep) ⊎ (c.kind ≡ Answer)
  kind_is = ⊎_elim (λ (h : (x.seen.stage ≡ In Sweep) × (k.pools ≤ x.own.swept.spot.pool)). inl (kind_here k s r id hist x at Sweep h.0)) (λ (h : x.seen.stage ≡ In Answer). inr (kind_here k s r id hist x at Answer h)) may.returns

  facts : (kind : Kind) → c.kind ≡ kind → Facts kind k now live T c s.words
  facts kind is = subst (λ (other : Kind). Facts other k now live T c s.words) is r.whole.cycle.facts

  pub is_own : T.holder pool ≡ owned d class
  is_own = kn.own_pool (record { pool = pool; class = class }) may.own

  free : (slot : ℕ) → slot < blocks_of class → at_address k s.words (place_in pool class slot) ≡ 0
  free slot inside = subst (λ (q : ℕ). at_address k s.words (place_in q class slot) ≡ 0) may.next
      (kn.vacant class slot (subst (λ (q : ℕ). T.holder q ≡ owned d class) (sym may.next) is_own) inside (let b : ℕ = blocks_of class in let v : ℕ = sh.vacant in let a : b ≤ v = may.all in let i : slot < b = inside in let g : slot < v = omega arith in g))

  -- so no block lives there
  no_block : (q e cl slot : ℕ) (p : Place) → T.holder q ≡ owned e cl → slot < blocks_of cl → live (place_in q cl slot) ≡ Some p → q ≢ pool
  no_block q e cl slot p is inside lives same =
      let class_is : class ≡ cl = (owned_same d e class cl (sym is_own ∙ (ap T.holder (sym same) ∙ is))).1 in
      head_full k c.paint live now.graph s.words (place_in q cl slot) p (r.whole.found (place_in q cl slot) p lives)
      (subst (λ (m : ℕ × ℕ). at_address k s.words (place_in m.0 m.1 slot) ≡ 0) (λ i. (sym same i, class_is i)) (free slot (subst (λ (m : ℕ). slot < blocks_of m) (sym class_is) inside)))

  -- nor garbage
  no_garbage : (q e cl slot : ℕ) → T.holder q ≡ owned e cl → slot < blocks_of cl → IsTrue (T.garbage (place_in q cl slot)) → q ≢ pool
  no_garbage q e cl slot is inside lies same =
      let class_is : class ≡ cl = (owned_same d e class cl (sym is_own ∙ (ap T.holder (sym same) ∙ is))).1 in
      true≢false (sym lies ∙ subst (λ (m : ℕ × ℕ). T.garbage (place_in m.0 m.1 slot) ≡ false) (λ i. (sym same i, class_is i)) (returns_clean k s r id hist x at may.returns pool class slot is_own (subst (λ (m : ℕ). slot < blocks_of m) (sym class_is) inside)))

  abbrev spot : ℕ
  spot = 11 + k.pools + pool

  abbrev pub words' : List ℕ
  words' = set s.words spot 0

  abbrev pub t' : Tenancy
  t' = record { holder = over pool nobody T.holder; asking = T.asking; prepared = T.prepared; garbage = T.garbage; fresh = T.fresh; stock = T.stock }

  here' : t'.holder pool ≡ nobody
  here' = over_here pool nobody T.holder

  else' : (q : ℕ) → q ≢ pool → t'.holder q ≡ T.holder q
  else' q other = over_else pool nobody T.holder q other

  pub agrees : Agrees k s.words words'
  agrees = agrees_set k s.words spot 0 (λ e. omega arith) (inr (omega arith)) (let i = may.inside in omega arith)

  pub other_word : (j : ℕ) → j ≢ spot → get_or words' j 0 ≡ get_or s.words j 0
  other_word j differ = get_or-set_other s.words spot j 0 0 differ

  pub same_cursor : cursor words' ≡ cursor s.words
  same_cursor = other_word 7 (λ e. omega arith)

  pub same_cycle : SameCycle s.words words'
  same_cycle = record { armed_same = other_word 4 (λ e. omega arith); colours_same = other_word 5 (λ e. omega arith); changed_same = other_word 3 (λ e. omega arith); blocks_same = other_word 9 (λ e. omega arith); words_same = other_word 10 (λ e. omega arith) }

  -- whose a pool is now, his it was before
  pub owned_was : (q e cl : ℕ) → t'.holder q ≡ owned e cl → (q ≢ pool) × (T.holder q ≡ owned e cl)
  owned_was q e cl is = dite (ℕ_discrete q pool)
      (λ same. absurd ((nobody_not e).not_owned cl (sym here' ∙ (ap t'.holder (sym same) ∙ is))))
      (λ other. (other, sym (else' q other) ∙ is))

  pub drawn_was : (q e : ℕ) → t'.holder q ≡ drawn e → T.holder q ≡ drawn e
  drawn_was q e is = dite (ℕ_discrete q pool)
      (λ same. absurd ((nobody_not e).not_drawn (sym here' ∙ (ap t'.holder (sym same) ∙ is))))
      (λ other. sym (else' q other) ∙ is)

  -- and another domain's pool stays its own
  pub owned_still : (q e cl : ℕ) → e ≢ d → T.holder q ≡ owned e cl → t'.holder q ≡ owned e cl
  owned_still q e cl other is = else' q (λ same. other (owned_same e d cl class (sym is ∙ (ap T.holder same ∙ is_own))).0) ∙ is

  nobody_still : (q : ℕ) → T.holder q ≡ nobody → t'.holder q ≡ nobody
  nobody_still q free = dite (ℕ_discrete q pool) (λ same. ap t'.holder same ∙ here') (λ other. else' q other ∙ free)

  lower : (i : ℕ) → i < listed words' → i < listed s.words
  lower i h = subst (λ (m : ℕ). i < m) agrees.count h

  names : (i : ℕ) → i < listed words' → listed_pool words' i ≡ listed_pool s.words i
  names i h = let l = lower i h in let m : ℕ = listed s.words in let f : m ≤ k.pools = r.whole.pools.few in let g : i < m = l in agrees.list i (omega arith)

  listed_still : (i : ℕ) → i < listed words' → T.holder (listed_pool s.words i) ≡ nobody → t'.holder (listed_pool words' i) ≡ nobody
  listed_still i h free = ap t'.holder (names i h) ∙ nobody_still (listed_pool s.words i) free

  pub reserved' : Reserved k r.account.pause t' words'
  reserved' keeps i h above = listed_still i h (r.whole.reserved keeps i (lower i h) (subst (λ (m : ℕ). limit_of k m ≤ i) agrees.count above))

  pub pools' : Pools k t' words'
  pools' = let P = r.whole.pools in record {
    few = subst (λ (m : ℕ). m ≤ k.pools) (sym agrees.count) P.few;
    inside = λ i h. subst (λ (q : ℕ). q < k.pools) (sym (names i h)) (P.inside i (lower i h));
    once = λ i j h g e. P.once i j (lower i h) (lower j g) (sym (names i h) ∙ (e ∙ names j g));
    untaken = λ i h g. listed_still i h (P.untaken i (lower i h) (subst (λ (m : ℕ). m ≤ i) same_cursor g));
    owners = λ q h. dite (ℕ_discrete q pool)
        (λ same. ap (owner_of k words') same ∙ (get_or-set_same s.words spot 0 0 long ∙ (sym (ap owner_word here') ∙ ap (λ (m : ℕ). owner_word (t'.holder m)) (sym same))))
        (λ other. other_word (11 + k.pools + q) (λ e. let n : q ≢ pool = other in omega arith) ∙ (P.owners q h ∙ sym (ap owner_word (else' q other))));
    owned_by = λ q e cl h. P.owned_by q e cl (owned_was q e cl h).1;
    drawn_by = λ q e h. P.drawn_by q e (drawn_was q e h);
    one_each = P.one_each;
    asked = subst (λ (m : ℕ). m + sum_of T.asking k.domains ≤ k.pools + k.domains) (sym same_cursor) P.asked;
  } where
    long : spot < length s.words
    long = let w : length s.words ≡ table_words k = r.whole.wide in let h : ℕ = heap_words k in let i = may.inside in omega arith

  pub calm : Promoting r.account.pause → ⊥
  calm = not_promoting k s r id hist x at collecting

  pub no_prepared : (b e : ℕ) → T.prepared b ≡ Some e → ⊥
  no_prepared b e is = calm (r.whole.drawers.prepared b e is).1

  pub grid' : Grid k t' live words'
  grid' = record {
    lots = λ a p lives low. let l = r.whole.grid.lots a p lives low in record {
      pool = l.pool;
      domain = l.domain;
      class = l.class;
      slot = l.slot;
      owned_is = else' l.pool (no_block l.pool l.domain l.class l.slot p l.owned_is l.inside (ap live (sym l.begins) ∙ lives)) ∙ l.owned_is;
      inside = l.inside;
      begins = l.begins;
      fits = l.fits;
    };
    places = λ q e cl slot is inside. ⊎_elim (λ (z : at_address k s.words (place_in q cl slot) ≡ 0). inl (agrees.heap (place_in q cl slot) (omega arith) ∙ z)) (λ z. inr z) (r.whole.grid.places q e cl slot (owned_was q e cl is).1 inside);
    spares = λ b e is. absurd (no_prepared b e is);
  }

  -- the places of listed ephemerons are their domains' still
  pub own_was : (b e : ℕ) → OwnPlace t'.holder b e → OwnPlace T.holder b e
  own_was b e o = record { pool = o.pool; class = o.class; slot = o.slot; owned_is = (owned_was o.pool e o.class o.owned_is).1; inside = o.inside; begins = o.begins }

  pub listed' : (e : ℕ) (items : List ℕ) → Listed live T.holder T.garbage e items → Listed live t'.holder T.garbage e items
  listed' e items l = record {
    all = λ q cl slot is inside here. l.all q cl slot (owned_was q e cl is).1 inside here;
    own = λ b is. let o = l.own b is in ⊎_elim
        (λ (h : IsEpheAt live b). record { pool = o.pool; class = o.class; slot = o.slot; owned_is = else' o.pool (no_block o.pool e o.class o.slot h.place o.owned_is o.inside (ap live (sym o.begins) ∙ h.lives)) ∙ o.owned_is; inside = o.inside; begins = o.begins })
        (λ (h : IsTrue (T.garbage b)). record { pool = o.pool; class = o.class; slot = o.slot; owned_is = else' o.pool (no_garbage o.pool e o.class o.slot o.owned_is o.inside (subst (λ (a : ℕ). IsTrue (T.garbage a)) o.begins h)) ∙ o.owned_is; inside = o.inside; begins = o.begins })
        (l.lives b is);
    lives = l.lives;
  }

  pub drawers' : Drawers r.account.pause t'
  drawers' = let w = r.whole.drawers in record { drawn = λ q e is. w.drawn q e (drawn_was q e is); prepared = w.prepared; claims = w.claims }

  pub full' : Fullness k r.account.log live t'.holder t'.fresh t'.garbage r.account.homes c.kind
  full' = let f = r.whole.full in record {
    kept = f.kept;
    low = λ q e cl slot p is inside lives. f.low q e cl slot p (owned_was q e cl is).1 inside lives;
    young = f.young;
    made = f.made;
    left = λ q e cl slot is. f.left q e cl slot (owned_was q e cl is).1;
    owned = λ goes q e cl is. f.owned goes q e cl (owned_was q e cl is).1;
    drawn = λ q e is. f.drawn q e (drawn_was q e is);
  }

  -- what a domain knows of garbage stays
  pub sweeps' : (z : DomainView) (reaping : Reaping) → Reaps t'.holder t'.garbage z.own.number reaping → SweepsIn T c z → Sweeps t'.holder t'.garbage c.kind c.shares.arrived z.own.number z.own.ephemerons.items z.own.swept reaping
  sweeps' z reaping is w = record { listed = w.listed; places = λ q cl slot own. w.places q cl slot (owned_was q z.own.number cl own).1; anew = w.anew; reaps = is; below = λ q cl own. w.below q cl (owned_was q z.own.number cl own).1 }

  pub reaps_else : (e : ℕ) → e ≢ d → (reaping : Reaping) → Reaps T.holder T.garbage e reaping → Reaps t'.holder t'.garbage e reaping
  reaps_else e other Outside w = tt
  reaps_else e other (Inside q cl) w = owned_still q e cl other w
  reaps_else e other (AtGarbage q cl slot) w = (owned_still q e cl other w.0, w.1, w.2)

  -- the places at which blocks live belong to whom they belonged
  owner_was : (b e : ℕ) → owner_at t'.holder b ≡ Some e → owner_at T.holder b ≡ Some e
  owner_was zero e is = absurd (none-some e is)
  owner_was (suc b) e is = dite (ℕ_discrete (b / 4096) pool)
      (λ same. absurd (none-some e (sym (ap (λ (h : Holder). starts_in h (b % 4096)) (ap t'.holder same ∙ here')) ∙ is)))
      (λ other. ap (λ (h : Holder). starts_in h (b % 4096)) (sym (else' (b / 4096) other)) ∙ is)

  owner_still : (b e : ℕ) (p : Place) → live b ≡ Some p → owner_at T.holder b ≡ Some e → owner_at t'.holder b ≡ Some e
  owner_still zero e p lives is = absurd (none-some e is)
  owner_still (suc b) e p lives is = ap (λ (h : Holder). starts_in h (b % 4096)) (else' (b / 4096) other) ∙ is
    where
      other : b / 4096 ≢ pool
      other same =
          let l = r.whole.grid.lots (suc b) p lives (lies_old k s r id hist x at collecting (suc b) p lives) in
          let by = r.whole.pools.owned_by l.pool l.domain l.class l.owned_is in
          let u : ℕ = l.slot * size_of l.class in
          let v : ℕ = size_of l.class in
          let top : u + v ≤ 4096 = slot_inside l.class l.slot by.2 l.inside in
          let large : 4 ≤ v = size_least l.class by.2 in
          let e : suc b ≡ l.pool * 4096 + u + 1 = l.begins in
          let q : ℕ = l.pool in
          let h : b / 4096 ≡ q = omega arith in
          no_block l.pool l.domain l.class l.slot p l.owned_is l.inside (ap live (sym l.begins) ∙ lives) (sym h ∙ same)

  ends' : EndsCycle k now live T.holder c → EndsCycle k now live t'.holder c
  ends' f = record {
    facts = let g = f.facts in record { sealed = g.sealed; owned = λ l is. let o = g.owned l is in let p = labelled k live o.1 l o.3 in (o.0, o.1, o.2, o.3, owner_still o.1 o.0 p.place p.lives o.4); whole = g.whole; waiting = g.waiting; kept = g.kept };
    rotated = f.rotated;
  }

  swept' : IsSwept k now live T.holder c s.words → IsSwept k now live t'.holder c words'
  swept' f = record {
    all_marked = f.all_marked;
    unmarked = f.unmarked;
    unchanged = f.unchanged;
    counted = let n = f.counted in record {
      first = n.first;
      once = n.once;
      owned = λ e l is has. let o = n.owned e l is has in let p = labelled k live o.0 l o.1 in (o.0, o.1, owner_still o.0 e p.place p.lives o.2, o.3);
      all = λ e a l is there owner marked. n.all e a l is there (owner_was a e owner) marked;
      few = n.few;
      light = n.light;
      blocks_are = same_cycle.blocks_same ∙ n.blocks_are;
      words_are = same_cycle.words_same ∙ n.words_are;
    };
  }

  sweeping' : Sweeping k now live T c s.words → Sweeping k now live t' c words'
  sweeping' f = record {
    since = ⊎_elim
        (λ (h : (now.mode ≡ Sealed) × EndsCycle k now live T.holder c × (c.unswept ≡ false)). inl (h.0, ends' h.1, h.2))
        (λ (h : (now.mode ≡ Open) × (c.rotated ≡ false) × IsTrue c.unswept). inr h) f.since;
    swept = swept' f.swept;
    clear = λ e a up own. f.clear e a up (own_was a e own);
    all_counted = f.all_counted;
  }

  answering' : Answering k now live T c s.words → Answering k now live t' c words'
  answering' f = record {
    mode = f.mode;
    whole = f.whole;
    ends = ends' f.ends;
    swept = swept' f.swept;
    clean = f.clean;
    all_counted = f.all_counted;
    held = λ q e cl up is. f.held q e cl up (owned_was q e cl is).1;
  }

  facts' : Facts c.kind k now live t' c words'
  facts' = ⊎_elim
      (λ (is : c.kind ≡ Sweep). subst (λ (kind : Kind). Facts kind k now live t' c words') (sym is) (sweeping' (facts Sweep is)))
      (λ (is : c.kind ≡ Answer). subst (λ (kind : Kind). Facts kind k now live t' c words') (sym is) (answering' (facts Answer is))) kind_is

  not_clean : c.kind ≡ Clean → ⊥
  not_clean e = ⊎_elim (λ (is : c.kind ≡ Sweep). let same : Sweep ≡ Clean = sym is ∙ e in cc) (λ (is : c.kind ≡ Answer). let same : Answer ≡ Clean = sym is ∙ e in cc) kind_is

  -- garbage lies in other pools
  garbage_lies : (a : ℕ) → IsTrue (T.garbage a) → (e : ℕ) × OwnPlace t'.holder a e
  garbage_lies a lies = let w = r.whole.cycle.leaves.owned a lies in let o = w.1 in (
    w.0,
    record { pool = o.pool; class = o.class; slot = o.slot; owned_is = else' o.pool (no_garbage o.pool w.0 o.class o.slot o.owned_is o.inside (subst (λ (b : ℕ). IsTrue (T.garbage b)) o.begins lies)) ∙ o.owned_is; inside = o.inside; begins = o.begins },
  )

  garbage_low : (a : ℕ) → IsTrue (T.garbage a) → 1 ≤ a
  garbage_low a lies = let o = (r.whole.cycle.leaves.owned a lies).1 in let u : ℕ = o.pool * 4096 + o.slot * size_of o.class in let e : a ≡ u + 1 = o.begins in omega arith

  pub cycle' : Cycled k now live r.account.pause t' c words'
  cycle' = let y = r.whole.cycle in record {
    armed_is = same_cycle.armed_same ∙ y.armed_is;
    meanings = y.meanings;
    colours_are = same_cycle.colours_same ∙ y.colours_are;
    changed_is = same_cycle.changed_same ∙ y.changed_is;
    facts = facts';
    told = y.told;
    leaves = record { none = y.leaves.none; dead = y.leaves.dead; head = λ a is. let h = y.leaves.head a is in (h.0, h.1, agrees.heap a (garbage_low a is) ∙ h.2); unprepared = y.leaves.unprepared; owned = garbage_lies };
    unswept = y.unswept;
    whole = λ l. inl (whole_in k s r id hist x at not_clean l);
    grows = y.grows;
  }

  -- what domains have counted is theirs still
  pub counted_on : (e : ℕ) (share : Share) → HasCounted k live T.holder e share → HasCounted k live t'.holder e share
  counted_on e share u = record {
    once = u.once;
    own = λ a is. let o = u.own a is in let l = u.lives a is in (o.0, o.1, o.2, else' o.0 (no_block o.0 e o.1 o.2 l.0 o.3 o.4 (ap live (sym o.6) ∙ l.1)) ∙ o.3, o.4, o.5, o.6);
    lives = u.lives;
    all = λ q cl slot p is inside before lives. u.all q cl slot p (owned_was q e cl is).1 inside before lives;
    words = u.words;
  }

  head_stays : (a found : ℕ) (p : Place) → live a ≡ Some p → (at_address k s.words a ≡ found) ⊎ IsTrue (c.paint.marks.marked p.label) → (at_address k words' a ≡ found) ⊎ IsTrue (c.paint.marks.marked p.label)
  head_stays a found p lives u = ⊎_elim (λ (same : at_address k s.words a ≡ found). inl (agrees.heap a (r.whole.placed.fits a p lives).low ∙ same)) (λ (is : IsTrue (c.paint.marks.marked p.label)). inr is) u

  pub knowing_other : (z : DomainView) → z.own.number ≢ d → Knowing k live T.holder now.graph c.paint.marks s.words z.own.number z.own.registers z.seen.share
      → Knowing k live t'.holder now.graph c.paint.marks words' z.own.number z.own.registers z.seen.share
  knowing_other z other u = let e : ℕ = z.own.number in let share : Share = z.seen.share in record {
    found_head = λ g p is lives. head_stays g.address g.word p lives (u.found_head g p is lives);
    scan = u.scan;
    walked = λ q cl slot is inside before. u.walked q cl slot (owned_was q e cl is).1 inside before;
    own_pool = λ v is. owned_still v.pool e v.class other (u.own_pool v is);
    rooted = u.rooted;
    marked = u.marked;
    counted = counted_on e share u.counted;
    held = λ q cl is low. u.held q cl (owned_was q e cl is).1 low;
    vacant = λ cl slot is inside low. agrees.heap (place_in share.held cl slot) (omega arith) ∙ u.vacant cl slot (owned_was share.held e cl is).1 inside low;
  }

  abbrev pub share' : Share
  share' = record sh { own_pool = None; held = pool + 1; vacant = 0; reaping = Outside }

  pub knowing_own : Knowing k live t'.holder now.graph c.paint.marks words' d x.own.registers share'
  knowing_own = let y = counted_on d sh kn.counted in record {
    found_head = λ g p is lives. head_stays g.address g.word p lives (kn.found_head g p is lives);
    scan = kn.scan;
    walked = λ q cl slot is inside before. kn.walked q cl slot (owned_was q d cl is).1 inside before;
    own_pool = λ v e. cc;
    rooted = kn.rooted;
    marked = kn.marked;
    counted = record { once = y.once; own = y.own; lives = y.lives; all = y.all; words = y.words };
    held = λ q cl is low. let w = owned_was q d cl is in kn.held q cl w.1 (let m : ℕ = sh.held in let e : m ≡ pool = may.next in let l : q < pool + 1 = low in let n : q ≢ pool = w.0 in let g : q < m = omega arith in g);
    vacant = λ cl slot is inside low. absurd (let l : slot < 0 = low in omega arith);
  }
