-- While domains run the head of a block of the pools gets another colour, or the scanned mark: what stays.
use Rattle.std.proofs.Common.{◌≡◌, ◌≢◌, ℕ, ◌+◌, ◌*◌, ◌<◌, ◌≤◌, Bool, cond, IsTrue, List, length, get_or, set, Some, Option, None, unwrap_or, sym, ap, ◌∙◌, subst, inl, inr, ⊎_elim, arith, length-set, get_or-set_same, get_or-set_other, lt_of_not-le}
use mathlib.Core.Logic.{dite}
use native.Mathlib.Decide.{ℕ_discrete, dec_le}
use mathlib.Core.Option.{some}
use lib.ListN.{get_elem?}
use Rattle.model_core.specs.declared.entry.Entry.{Entry}
use Rattle.model_core.specs.declared.label.Label.{Label}
use Rattle.model_core.specs.Domains.{class_count}
use Rattle.heap_words.specs.Heads.{head_word}
use Rattle.heap_words.specs.declared.colours.Colours.{Colours}
use Rattle.model_cycle.specs.Marks.{Marks}
use Rattle.model_cycle.proofs.Tracing.{More}
use Rattle.heap_rule.specs.declared.config.Config.{Config}
use Rattle.heap_rule.specs.declared.phase.Kind.TheVariants.{Run}
use Rattle.heap_rule.specs.declared.phase.Stage.TheVariants.{In}
use Rattle.heap_rule.specs.declared.view.DomainView.{DomainView}
use Rattle.heap_rule.specs.declared.view.Hunt.{Hunt}
use Rattle.heap_rule.specs.declared.view.Hunt.TheVariants.{Rests, Counts, Asks, Draws, Walks, Fills, Labels, Heads}
use Rattle.heap_rule.specs.Layout.{before_heap, heap_words, at_address}
use Rattle.heap_rule.specs.Places.{Place, Paint, Live, IsBare, extent, head_of, Found, IsHead, IsOldWord, IsOldAt, colour_in}
use Rattle.heap_rule.specs.Pools.{Tenancy, Grid, Hunter, Hunts, DrawsFor, Latest, Lot, Pools, blocks_of, drawn, limit_of, owned, place_in, size_of}
use Rattle.heap_rule.specs.Rule.{AllFound, Area, Good, Making, Rule}
use Rattle.heap_rule.specs.Views.{one}
use Rattle.heap_rule.proofs.Beside.{found_beside, making_beside, live_word_far}
use Rattle.heap_rule.proofs.BesideLemmas.{Endures}
use Rattle.heap_rule.proofs.Classes.{size_least, slot_below, slot_inside}
use Rattle.heap_rule.proofs.HeadLemmas.{head_at}
use Rattle.heap_rule.proofs.Holders.{drawn_owned}
use Rattle.heap_rule.proofs.Keeps.{Words, now, Control, control_set, more_same, run_settled}
use Rattle.heap_rule.proofs.Lists.{got_below}
use Rattle.heap_rule.proofs.OwnPlaces.{owned_same}
use Rattle.heap_rule.proofs.Lots.{head_full, head_some, lived_unprepared}
use Rattle.heap_rule.proofs.Values.{extent_large}

-- the head of a block of the pools is no word that a domain has written of a block that it makes, and none that it has found Free
module _ (k : Config) (t : Tenancy) (live : Live) (words : List ℕ) (a new : ℕ) (p : Place) (pools : Pools k t words) (grid : Grid k t live words) (low : 1 ≤ a) (old_at : IsOldAt k a) (lives : live a ≡ Some p) (full : at_address k words a ≢ 0) (stays_full : new ≢ 0)
    (here : at_address k (set words (before_heap k + a) new) a ≡ new) where
  abbrev words1 : List ℕ
  words1 = set words (before_heap k + a) new

  stays : (b : ℕ) → b ≢ a → at_address k words1 b ≡ at_address k words b
  stays b differ = get_or-set_other words (before_heap k + a) (before_heap k + b) new 0 (λ e. differ (omega arith))

  pub free_stays : (b : ℕ) → at_address k words b ≡ 0 → at_address k words1 b ≡ 0
  free_stays b e = stays b (λ same. full (ap (at_address k words) (sym same) ∙ e)) ∙ e

  pub some_stays : (b : ℕ) → at_address k words b ≢ 0 → at_address k words1 b ≢ 0
  some_stays b full_there e = dite (ℕ_discrete b a) (λ same. stays_full (sym here ∙ (ap (at_address k words1) (sym same) ∙ e))) (λ other. full_there (sym (stays b other) ∙ e))

  lot : Lot t.holder a p
  lot = grid.lots a p lives old_at

  -- nor does it lie behind the head of a free place
  behind_free : (q d c slot j : ℕ) → t.holder q ≡ owned d c → slot < blocks_of c → at_address k words (place_in q c slot) ≡ 0 → j + 1 < size_of c → place_in q c slot + 1 + j ≢ a
  behind_free q d c slot j is inside free fits same =
      let l = lot in
      let s : ℕ = l.slot * size_of l.class in
      let z : ℕ = size_of l.class in
      let few : l.class < class_count = (pools.owned_by l.pool l.domain l.class l.owned_is).2 in
      let top : s + z ≤ 4096 = slot_inside l.class l.slot few l.inside in
      let large : 4 ≤ z = size_least l.class few in
      let begins : a ≡ l.pool * 4096 + s + 1 = l.begins in
      let s' : ℕ = slot * size_of c in
      let z' : ℕ = size_of c in
      let few' : c < class_count = (pools.owned_by q d c is).2 in
      let top' : s' + z' ≤ 4096 = slot_inside c slot few' inside in
      let e : q * 4096 + s' + 1 + 1 + j ≡ a = same in
      let f : j + 1 < z' = fits in
      dite (ℕ_discrete q l.pool)
      (λ (eq : q ≡ l.pool).
      let class_is : c ≡ l.class = (owned_same d l.domain c l.class (sym is ∙ (ap t.holder eq ∙ l.owned_is))).1 in
      let y : ℕ = l.slot * size_of c in
      let y_is : y ≡ s = ap (λ (b : ℕ). l.slot * size_of b) class_is in
      let z_is : z' ≡ z = ap size_of class_is in
      let pool_is : q ≡ l.pool = eq in
      dite (ℕ_discrete slot l.slot)
      (λ (one : slot ≡ l.slot).
      let s_is : s' ≡ y = ap (λ (b : ℕ). b * size_of c) one in omega arith)
      (λ (differ : slot ≢ l.slot). dite (dec_le slot l.slot)
      (λ below. let m : s' + z' ≤ y = slot_below c slot l.slot (let b : slot ≤ l.slot = below in let n : slot ≢ l.slot = differ in omega arith) in omega arith)
      (λ above. let m : y + z' ≤ s' = slot_below c l.slot slot (lt_of_not-le above) in omega arith)))
      (λ (other : q ≢ l.pool). let n : q ≢ l.pool = other in dite (dec_le q l.pool)
      (λ below. let b : q ≤ l.pool = below in omega arith)
      (λ above. let b : l.pool < q = lt_of_not-le above in omega arith))

  control : (i : ℕ) → i ≤ before_heap k → get_or words1 i 0 ≡ get_or words i 0
  control = control_set k words a new low

  unprepared : (b d : ℕ) → t.prepared b ≡ Some d → b ≢ a
  unprepared b d is same = let clash : ◌≡◌ {A = Option ℕ} None (Some d) = sym (lived_unprepared k t live words a p grid lives) ∙ (ap t.prepared (sym same) ∙ is) in cc

  -- nor the word behind the head of a prepared place
  not_behind : (b d : ℕ) → t.prepared b ≡ Some d → b + 1 ≢ a
  not_behind b d is same =
      let o = (grid.spares b d is).own in
      let free' : b ≡ place_in o.pool o.class o.slot = o.begins in
      let l = lot in
      let s : ℕ = l.slot * size_of l.class in
      let z : ℕ = size_of l.class in
      let few : l.class < class_count = (pools.owned_by l.pool l.domain l.class l.owned_is).2 in
      let top : s + z ≤ 4096 = slot_inside l.class l.slot few l.inside in
      let begins : a ≡ l.pool * 4096 + s + 1 = l.begins in
      let s' : ℕ = o.slot * size_of o.class in
      let z' : ℕ = size_of o.class in
      let few' : o.class < class_count = (pools.owned_by o.pool d o.class o.owned_is).2 in
      let top' : s' + z' ≤ 4096 = slot_inside o.class o.slot few' o.inside in
      let large' : 4 ≤ z' = size_least o.class few' in
      let there : b ≡ o.pool * 4096 + s' + 1 = free' in
      let e : b + 1 ≡ a = same in
      dite (ℕ_discrete o.pool l.pool)
      (λ (eq : o.pool ≡ l.pool).
      let class_is : o.class ≡ l.class = (owned_same d l.domain o.class l.class (sym o.owned_is ∙ (ap t.holder eq ∙ l.owned_is))).1 in
      let y : ℕ = l.slot * size_of o.class in
      let y_is : y ≡ s = ap (λ (n : ℕ). l.slot * size_of n) class_is in
      let z_is : z' ≡ z = ap size_of class_is in
      let pool_is : o.pool ≡ l.pool = eq in
      dite (ℕ_discrete o.slot l.slot)
      (λ (one : o.slot ≡ l.slot). let s_is : s' ≡ y = ap (λ (n : ℕ). n * size_of o.class) one in omega arith)
      (λ (differ : o.slot ≢ l.slot). dite (dec_le o.slot l.slot)
      (λ below. let m : s' + z' ≤ y = slot_below o.class o.slot l.slot (let g : o.slot ≤ l.slot = below in let n : o.slot ≢ l.slot = differ in omega arith) in omega arith)
      (λ above. let m : y + z' ≤ s' = slot_below o.class l.slot o.slot (lt_of_not-le above) in omega arith)))
      (λ (other : o.pool ≢ l.pool). let n : o.pool ≢ l.pool = other in dite (dec_le o.pool l.pool)
      (λ below. let g : o.pool ≤ l.pool = below in omega arith)
      (λ above. let g : l.pool < o.pool = lt_of_not-le above in omega arith))

  -- nor does it lie in a pool that is drawn
  not_drawn : (q d c j : ℕ) → t.holder q ≡ drawn d → c < class_count → j < blocks_of c → place_in q c j ≢ a
  not_drawn q d c j is few' inside same =
      let l = lot in
      let s : ℕ = l.slot * size_of l.class in
      let z : ℕ = size_of l.class in
      let few : l.class < class_count = (pools.owned_by l.pool l.domain l.class l.owned_is).2 in
      let top : s + z ≤ 4096 = slot_inside l.class l.slot few l.inside in
      let large : 4 ≤ z = size_least l.class few in
      let begins : a ≡ l.pool * 4096 + s + 1 = l.begins in
      let s' : ℕ = j * size_of c in
      let z' : ℕ = size_of c in
      let top' : s' + z' ≤ 4096 = slot_inside c j few' inside in
      let large' : 4 ≤ z' = size_least c few' in
      let e : q * 4096 + s' + 1 ≡ a = same in
      dite (ℕ_discrete q l.pool)
      (λ (eq : q ≡ l.pool). drawn_owned d l.domain l.class (sym is ∙ (ap t.holder eq ∙ l.owned_is)))
      (λ (other : q ≢ l.pool). let n : q ≢ l.pool = other in dite (dec_le q l.pool)
      (λ below. let b : q ≤ l.pool = below in omega arith)
      (λ above. let b : l.pool < q = lt_of_not-le above in omega arith))

  hunts_stay : (d : ℕ) (h : Hunt) → Hunts k t words d h → Hunts k t words1 d h
  hunts_stay d Rests u = tt
  hunts_stay d (Counts n) u = control 6 (omega arith) ∙ u
  hunts_stay d (Asks n) u = (control 6 (omega arith) ∙ u.0, u.1)
  hunts_stay d (Draws place pool class cleared) u = record {
    inside = u.inside;
    listed_is = u.listed_is;
    names = (let h = u.listed_is in control (11 + place) (omega arith)) ∙ u.names;
    drawn_is = u.drawn_is;
    fresh_is = u.fresh_is;
    of_class = u.of_class;
    some = u.some;
    free = λ j h. let m = u.some in stays (place_in pool class j) (not_drawn pool d class j u.drawn_is u.of_class (omega arith)) ∙ u.free j h;
  }
  hunts_stay d (Walks pool class) u = u
  hunts_stay d (Fills pool class slot made) u = record {
    own_is = u.own_is;
    inside = u.inside;
    free = free_stays (place_in pool class slot) u.free;
    fits = u.fits;
    written = λ j w got. stays (place_in pool class slot + 1 + j) (behind_free pool d class slot j u.own_is u.inside u.free (let z : ℕ = size_of class in let n : ℕ = length made in let below : j < n = got_below made j w got in let f : n < z = u.fits in omega arith)) ∙ u.written j w got;
  }
  hunts_stay d (Labels address label) u = (u.0, u.1, stays (address + 1) (not_behind address d u.0) ∙ u.2)
  hunts_stay d (Heads address label head) u = (u.0, u.1, stays (address + 1) (not_behind address d u.0) ∙ u.2, stays address (unprepared address d u.0) ∙ u.3)

  pub hunter_stays : (z : DomainView) → Hunter k t words z → Hunter k t words1 z
  hunter_stays z h = record {
    hunt = hunts_stay z.own.number z.seen.hunt h.hunt;
    drawn_alone = h.drawn_alone;
    free = λ f e. subst (λ (m : ℕ × ℕ). (m.0 ≤ f + m.1) × (m.0 ≤ f + limit_of k m.0) × (f ≤ m.0)) (λ i. (sym (control 6 (omega arith)) i, sym (control 7 (omega arith)) i)) (h.free f e);
    spare = λ m e. let f = h.spare m e in record { own_is = f.own_is; inside = f.inside; free = free_stays (place_in m.pool m.class m.slot) f.free };
    taken = λ q c slot is inside before. some_stays (place_in q c slot) (h.taken q c slot is inside before);
    holds = h.holds;
    prepared = h.prepared;
    claims = h.claims;
    supply = λ c few some. ⊎_elim (λ (u : DrawsFor c z.seen.hunt). inl u) (λ (l : Latest k t words z.own.number c). inr record {
      own_is = l.own_is;
      few = l.few;
      enough = l.enough;
      rest = λ j from inside. ⊎_elim (λ (e : at_address k words (place_in (t.stock.latest z.own.number c) c j) ≡ 0). inl (free_stays (place_in (t.stock.latest z.own.number c) c j) e)) (λ u. inr u) (l.rest j from inside);
    }) (h.supply c few some);
  }

  pub grid_stays : Grid k t live words1
  grid_stays = record {
    lots = grid.lots;
    places = λ q d c slot is inside. ⊎_elim (λ (e : at_address k words (place_in q c slot) ≡ 0). inl (free_stays (place_in q c slot) e)) (λ u. inr u) (grid.places q d c slot is inside);
    spares = λ b d is. let u = grid.spares b d is in record { own = u.own; head = some_stays b u.head; empty = u.empty };
  }

module _ (k : Config) (s : Words) (r : Rule k s) (id : ℕ) (hist : List Entry) (x : DomainView) (at : get_elem? s.views id ≡ some (one k hist x)) (runs : x.seen.stage ≡ In Run) (a : ℕ) (p : Place) (new : ℕ) (m' : Marks) where
  open r.account use {live, cycling.{paint}}

  abbrev paint' : Paint
  paint' = record paint { marks = m' }

  -- the head that is written is the block's, by marks that differ at its label alone
  pub record Rewrites : Type 0 where
    pub lives : live a ≡ Some p
    pub old_at : IsOldAt k a
    pub here : IsHead paint' p new
    pub elsewhere : (l : Label) → p.label ≢ l → (m'.marked l ≡ paint.marks.marked l) × (m'.scanned l ≡ paint.marks.scanned l)
    pub is_marked : IsTrue (m'.marked p.label)
    pub more : More paint.marks.marked m'.marked

  module _ (o : Rewrites) where
    abbrev words' : List ℕ
    words' = set s.words (before_heap k + a) new

    bare : (b : ℕ) (q : Place) → live b ≡ Some q → IsBare q
    bare = run_settled k s r id hist x at runs

    low : 1 ≤ a
    low = (r.whole.placed.fits a p o.lives).low

    stay : (b : ℕ) → b ≢ a → at_address k words' b ≡ at_address k s.words b
    stay b differ = get_or-set_other s.words (before_heap k + a) (before_heap k + b) new 0 (λ e. differ (omega arith))

    here_is : at_address k words' a ≡ new
    here_is = get_or-set_same s.words (before_heap k + a) new 0
        (let f = r.whole.placed.fits a p o.lives in let h = f.high in let n : ℕ = extent p.shape in let l : 3 ≤ n = extent_large p.shape f.head in let w : ℕ = heap_words k in let b : ℕ = before_heap k in let g : a + n ≤ w + 1 = h in let y : length s.words ≡ 1 + b + w = r.whole.wide in omega arith)

    was_full : at_address k s.words a ≢ 0
    was_full = head_full k paint live (now k s r id hist x at).graph s.words a p (r.whole.found a p o.lives)

    is_full : new ≢ 0
    is_full e = head_some p.shape (colour_in paint' p.label) o.here.scanned (sym (o.here.packs ∙ ap (λ (f : Option ℕ). head_word (head_of f p.shape (colour_in paint' p.label) o.here.scanned)) (bare a p o.lives).no_forward) ∙ e)

    pub controls : Control k s.words words'
    controls = control_set k s.words a new low

    pub wide : length words' ≡ length s.words
    wide = length-set s.words (before_heap k + a) new

    retint : (q : Place) (w : ℕ) → p.label ≢ q.label → IsHead paint q w → IsHead paint' q w
    retint q w differ t = let e = o.elsewhere q.label differ in let c : Colours = paint.colours in record {
      scanned = t.scanned;
      packs = t.packs ∙ ap (λ (b : Bool). head_word (head_of q.forward q.shape (cond b c.marked c.unmarked) t.scanned)) (sym e.0);
      tells = λ is bit. subst (λ (b : Bool). IsTrue b) (sym e.1) (t.tells (subst (λ (b : Bool). IsTrue b) e.0 is) bit);
    }

    found_here : Found k paint' live (now k s r id hist x at).graph words' a p
    found_here = let f = r.whole.found a p o.lives in record {
      node = f.node;
      there = f.there;
      shape = f.shape;
      head = head_at paint' p here_is o.here;
      blank = λ young. absurd (let l : a ≤ k.pools * 4096 = o.old_at in omega arith);
      label = stay (a + 1) (λ e. omega arith) ∙ f.label;
      values = λ i v has got. let w = f.values i v has got in record { value = w.value; packs = stay (a + 2 + i) (λ e. omega arith) ∙ w.packs; stands = w.stands };
      old = λ under i inside has none. subst (IsOldWord k) (sym (stay (a + 2 + i) (λ e. omega arith))) (f.old under i inside has none);
    }

    pub found' : AllFound k paint' live (now k s r id hist x at).graph words'
    unfolding retint
    found' b q lives = dite (ℕ_discrete b a)
        (λ same.
        let place : p ≡ q = ap (λ (z : Option Place). unwrap_or z p) (sym o.lives ∙ (ap live (sym same) ∙ lives)) in
        subst (λ (y : ℕ × Place). Found k paint' live (now k s r id hist x at).graph words' y.0 y.1) (λ j. (sym same j, place j)) found_here)
        (λ other.
        let differ : p.label ≢ q.label = (λ e. other (sym (r.whole.placed.once a b p q o.lives lives e (bare a p o.lives).no_forward (bare b q lives).no_forward))) in
        let f = r.whole.found b q lives in
        let g = found_beside k paint live live (now k s r id hist x at).graph (now k s r id hist x at).graph s.words a new b q (more_same live) f f.there (λ z inside e. let n : ℕ = extent p.shape in let m : ℕ = extent q.shape in let i : z < m = inside in let l : 3 ≤ n = extent_large p.shape (r.whole.placed.fits a p o.lives).head in let h : b + z ≡ a = e in
        ⊎_elim (λ (t : b + m ≤ a). omega arith) (λ (t : a + n ≤ b). omega arith) (r.whole.placed.apart b a q p lives o.lives other)) in record {
          node = g.node;
          there = g.there;
          shape = g.shape;
          head = retint q (at_address k words' b) differ g.head;
          blank = g.blank;
          label = g.label;
          values = g.values;
          old = g.old;
        })

    pub grid' : Grid k r.account.tenancy live words'
    grid' = grid_stays k r.account.tenancy live s.words a new p r.whole.pools r.whole.grid low o.old_at o.lives was_full is_full here_is

    pub hunters' : (z : DomainView) → Good k r.account s.words z → Hunter k r.account.tenancy words' z
    hunters' z g = hunter_stays k r.account.tenancy live s.words a new p r.whole.pools r.whole.grid low o.old_at o.lives was_full is_full here_is z g.hunter

    pub makings' : (z : DomainView) → Area k live z → Making k s.words z → Making k words' z
    makings' z area q = making_beside k s.words a new z (λ j fits e. live_word_far k live a 0 p z o.lives (let n : ℕ = extent p.shape in let l : 3 ≤ n = extent_large p.shape (r.whole.placed.fits a p o.lives).head in let g : 0 < n = omega arith in g) area j fits (e ∙ (let g : a ≡ a + 0 = omega arith in g))) q

    pub endures' : Endures k live live r.account.tenancy.holder r.account.tenancy.holder paint.marks.marked m'.marked s.words words'
    endures' = record {
      more = more_same live;
      held = λ q d c e. e;
      stays = o.more;
      heads = λ b q there. dite (ℕ_discrete b a)
          (λ same. let place : p ≡ q = ap (λ (z : Option Place). unwrap_or z p) (sym o.lives ∙ (ap live (sym same) ∙ there)) in inr (subst (λ (z : Place). IsTrue (m'.marked z.label)) place o.is_marked))
          (λ other. inl (stay b other));
    }
