-- What a written word leaves of the pools.
use Rattle.model_core.specs.Domains.{class_count}
use Rattle.std.proofs.Common.{Bool, true, false, refl, ◌^◌, Option, None, ◌≡◌, ◌≢◌, ℕ, ◌+◌, ◌*◌, ◌<◌, ◌≤◌, ◌⊎◌, List, length, get_or, set, Some, sym, ap, ◌∙◌, subst, inl, inr, ⊎_elim, arith, get_or-set_other, lt_of_not-le, false, IsTrue}
use mathlib.Core.Logic.{dite}
use native.Mathlib.Decide.{ℕ_discrete, dec_le}
use Rattle.heap_rule.specs.declared.config.Config.{Config}
use Rattle.heap_rule.specs.declared.view.Hunt.{Hunt}
use Rattle.heap_rule.specs.declared.view.Hunt.TheVariants.{Rests, Counts, Asks, Draws, Walks, Fills, Labels, Heads}
use Rattle.heap_rule.specs.declared.view.DomainView.{DomainView}
use Rattle.heap_rule.specs.Cycles.{Cycling, Leaves}
use Rattle.heap_rule.specs.Layout.{before_heap, at_address}
use Rattle.heap_rule.specs.Places.{Place, Live, Paint, colour_in, extent, head_of, Found, HeadIs, More}
use Rattle.model_core.specs.Graph.{Graph}
use Rattle.model_core.specs.Fronts.{Shape, PlainShape, RawShape, EpheShape}
use Rattle.heap_words.specs.Heads.{head_word}
use Rattle.heap_rule.specs.Pools.{DrawsFor, Grid, Holder, Hunter, Hunts, IsBefore, IsSpare, Latest, OwnPlace, Pools, Tenancy, blocks_of, drawn, limit_of, owned, place_in, size_of}
use Rattle.heap_rule.proofs.Lists.{got_below}
use Rattle.heap_rule.proofs.Keeps.{control_set}
use Rattle.heap_rule.proofs.Classes.{size_least, slot_below, slot_inside}
use Rattle.heap_rule.proofs.Holders.{drawn_owned}
use Rattle.heap_rule.proofs.OwnPlaces.{owned_same}

pub number_cases : (o : Option ℕ) → (o ≡ None) ⊎ ((d : ℕ) × (o ≡ Some d))
number_cases None = inl refl
number_cases (Some d) = inr (d, refl)

pub place_cases : (o : Option Place) → (o ≡ None) ⊎ ((q : Place) × (o ≡ Some q))
place_cases None = inl refl
place_cases (Some q) = inr (q, refl)

-- no place is before the first one
pub none_before : (q slot : ℕ) → IsBefore q slot (record { pool = 0; slot = 0 }) → ⊥
none_before q slot low = ⊎_elim (λ (h : q < 0). omega arith) (λ (h : (q ≡ 0) × (slot < 0)). let l = h.1 in omega arith) low

-- the pool of one holder isn't that of another
pub drawn_same : (d e : ℕ) → ◌≡◌ {A = Holder} (drawn d) (drawn e) → d ≡ e
drawn_same d e h = cc

-- The written word is none that a domain's knowledge of its pools rests on: it lies in no pool that the domain has drawn, and of each place of its own pools either outside, or behind a head that isn't Free, where the place isn't prepared
pub record Beside (k : Config) (t : Tenancy) (words : List ℕ) (d at : ℕ) : Type 0 where
  pub low : 1 ≤ at
  pub not_drawn : (q : ℕ) → t.holder q ≡ drawn d → (at ≤ q * 4096) ⊎ (q * 4096 + 4096 < at)
  pub not_place : (q c slot : ℕ) → t.holder q ≡ owned d c → slot < blocks_of c → ((at < place_in q c slot) ⊎ (place_in q c slot + size_of c ≤ at)) ⊎ ((place_in q c slot < at) × (at_address k words (place_in q c slot) ≢ 0) × (t.prepared (place_in q c slot) ≡ None))

-- a place of an owned pool lies in the pools
pub place_low : (k : Config) (t : Tenancy) (words : List ℕ) (a d : ℕ) → Pools k t words → OwnPlace t.holder a d → a ≤ k.pools * 4096
place_low k t words a d p o =
    let e = p.owned_by o.pool d o.class o.owned_is in
    let u : ℕ = o.slot * size_of o.class in
    let v : ℕ = size_of o.class in
    let top : u + v ≤ 4096 = slot_inside o.class o.slot e.2 o.inside in
    let large : 4 ≤ v = size_least o.class e.2 in
    let below : o.pool < k.pools = e.0 in
    let begins : a ≡ o.pool * 4096 + u + 1 = o.begins in omega arith

module _ (k : Config) (t : Tenancy) (words : List ℕ) (at new : ℕ) where
  abbrev ws : List ℕ
  ws = set words (before_heap k + at) new

  -- another word stays
  pub stays : (a : ℕ) → a ≢ at → at_address k ws a ≡ at_address k words a
  stays a differ = get_or-set_other words (before_heap k + at) (before_heap k + a) new 0 (λ e. differ (omega arith))

  control_stays : 1 ≤ at → (i : ℕ) → i ≤ before_heap k → get_or ws i 0 ≡ get_or words i 0
  control_stays low i below = control_set k words at new low i below

  pub place_stays : (p : Pools k t words) (d : ℕ) → Beside k t words d at → (q c slot : ℕ) → t.holder q ≡ owned d c → slot < blocks_of c → at_address k ws (place_in q c slot) ≡ at_address k words (place_in q c slot)
  place_stays p d b q c slot is inside =
      let a : ℕ = place_in q c slot in
      let z : ℕ = size_of c in
      let large : 4 ≤ z = size_least c (p.owned_by q d c is).2 in
      stays a (λ e. let same : a ≡ at = e in ⊎_elim (λ (o : (at < a) ⊎ (a + z ≤ at)). ⊎_elim (λ (h : at < a). omega arith) (λ (h : a + z ≤ at). omega arith) o) (λ (o : (a < at) × (at_address k words a ≢ 0) × (t.prepared a ≡ None)). let h = o.0 in omega arith) (b.not_place q c slot is inside))

  -- the first two words of a prepared place stay
  prepared_stays : (p : Pools k t words) (d : ℕ) → Beside k t words d at → (a i : ℕ) → OwnPlace t.holder a d → t.prepared a ≡ Some d → i < 2 → at_address k ws (a + i) ≡ at_address k words (a + i)
  prepared_stays p d b a i o is few =
      let here : ℕ = place_in o.pool o.class o.slot in
      let at_here : a ≡ here = o.begins in
      let z : ℕ = size_of o.class in
      let large : 4 ≤ z = size_least o.class (p.owned_by o.pool d o.class o.owned_is).2 in
      stays (a + i) (λ e. let same : a + i ≡ at = e in ⊎_elim
      (λ (h : (at < here) ⊎ (here + z ≤ at)). ⊎_elim (λ (h : at < here). omega arith) (λ (h : here + z ≤ at). omega arith) h)
      (λ (h : (here < at) × (at_address k words here ≢ 0) × (t.prepared here ≡ None)). let e : ◌≡◌ {A = Option ℕ} None (Some d) = sym h.2 ∙ (ap t.prepared (sym at_here) ∙ is) in cc)
      (b.not_place o.pool o.class o.slot o.owned_is o.inside))

  drawn_stays : (d : ℕ) → Beside k t words d at → (p : Pools k t words) → (q c j : ℕ) → t.holder q ≡ drawn d → c < class_count → j < blocks_of c → at_address k ws (place_in q c j) ≡ at_address k words (place_in q c j)
  drawn_stays d b p q c j is few inside =
      let s : ℕ = j * size_of c in
      let z : ℕ = size_of c in
      let large : 4 ≤ z = size_least c few in
      let top : s + z ≤ 4096 = slot_inside c j few inside in
      stays (place_in q c j) (λ e. let same : q * 4096 + s + 1 ≡ at = e in ⊎_elim (λ (h : at ≤ q * 4096). omega arith) (λ (h : q * 4096 + 4096 < at). omega arith) (b.not_drawn q is))

  hunts_beside : (p : Pools k t words) (d : ℕ) → Beside k t words d at → (h : Hunt) → Hunts k t words d h → Hunts k t ws d h
  hunts_beside p d b Rests u = tt
  hunts_beside p d b (Counts n) u = control_stays b.low 6 (omega arith) ∙ u
  hunts_beside p d b (Asks n) u = (control_stays b.low 6 (omega arith) ∙ u.0, u.1)
  hunts_beside p d b (Draws place pool class cleared) u = record {
    inside = u.inside;
    listed_is = u.listed_is;
    names = (let h = u.listed_is in control_stays b.low (11 + place) (omega arith)) ∙ u.names;
    drawn_is = u.drawn_is;
    fresh_is = u.fresh_is;
    of_class = u.of_class;
    some = u.some;
    free = λ j h. let s = u.some in drawn_stays d b p pool class j u.drawn_is u.of_class (omega arith) ∙ u.free j h;
  }
  hunts_beside p d b (Walks pool class) u = u
  hunts_beside p d b (Fills pool class slot made) u =
      let a : ℕ = place_in pool class slot in
      let z : ℕ = size_of class in record {
        own_is = u.own_is;
        inside = u.inside;
        free = place_stays p d b pool class slot u.own_is u.inside ∙ u.free;
        fits = u.fits;
        written = λ j w got. stays (a + 1 + j) (λ e.
            let same : a + 1 + j ≡ at = e in
            let below : j < length made = got_below made j w got in
            let n : ℕ = length made in
            let fits : n < z = u.fits in
            ⊎_elim (λ (o : (at < a) ⊎ (a + z ≤ at)). ⊎_elim (λ (h : at < a). omega arith) (λ (h : a + z ≤ at). omega arith) o) (λ (o : (a < at) × (at_address k words a ≢ 0) × (t.prepared a ≡ None)). o.1 u.free) (b.not_place pool class slot u.own_is u.inside)) ∙ u.written j w got;
      }
  hunts_beside p d b (Labels address label) u = (u.0, u.1, prepared_stays p d b address 1 u.1 u.0 (omega arith) ∙ u.2)
  hunts_beside p d b (Heads address label head) u = (u.0, u.1, prepared_stays p d b address 1 u.1 u.0 (omega arith) ∙ u.2, head_stays ∙ u.3) where
    head_stays : at_address k ws address ≡ at_address k words address
    head_stays = let e : address + 0 ≡ address = omega arith in sym (ap (at_address k ws) e) ∙ (prepared_stays p d b address 0 u.1 u.0 (omega arith) ∙ ap (at_address k words) e)

  pub latest_beside : (p : Pools k t words) (d c : ℕ) → Beside k t words d at → Latest k t words d c → Latest k t ws d c
  latest_beside p d c b l = record {
    own_is = l.own_is;
    few = l.few;
    enough = l.enough;
    rest = λ j from inside. ⊎_elim (λ (z : at_address k words (place_in (t.stock.latest d c) c j) ≡ 0). inl (place_stays p d b (t.stock.latest d c) c j l.own_is inside ∙ z)) (λ z. inr z) (l.rest j from inside);
  }

  pub hunter_beside : (p : Pools k t words) (z : DomainView) → Beside k t words z.own.number at → Hunter k t words z → Hunter k t ws z
  hunter_beside p z b h = record {
    hunt = hunts_beside p z.own.number b z.seen.hunt h.hunt;
    drawn_alone = h.drawn_alone;
    holds = h.holds;
    prepared = h.prepared;
    claims = h.claims;
    supply = λ c few some. ⊎_elim (λ (u : DrawsFor c z.seen.hunt). inl u) (λ (l : Latest k t words z.own.number c). inr (latest_beside p z.own.number c b l)) (h.supply c few some);
    free = λ f e. subst (λ (m : ℕ × ℕ). (m.0 ≤ f + m.1) × (m.0 ≤ f + limit_of k m.0) × (f ≤ m.0)) (λ i. (sym (control_stays b.low 6 (omega arith)) i, sym (control_stays b.low 7 (omega arith)) i)) (h.free f e);
    spare = λ u e. let f = h.spare u e in record { own_is = f.own_is; inside = f.inside; free = place_stays p z.own.number b u.pool u.class u.slot f.own_is f.inside ∙ f.free };
    taken = λ q c slot is inside low e. h.taken q c slot is inside low (sym (place_stays p z.own.number b q c slot is inside) ∙ e);
  }

  -- the grid stays where the word is beside the places of all
  pub grid_beside : (live live' : Live) → (p : Pools k t words) → ((d : ℕ) → Beside k t words d at) → More live live' → ((a : ℕ) (q : Place) → live' a ≡ Some q → a ≤ k.pools * 4096 → live a ≡ Some q) → Grid k t live words → Grid k t live' ws
  grid_beside live live' p b more old g = record {
    lots = λ a q lives low. g.lots a q (old a q lives low) low;
    places = λ q d c slot is inside. ⊎_elim (λ (h : at_address k words (place_in q c slot) ≡ 0). inl (place_stays p d (b d) q c slot is inside ∙ h))
        (λ h. inr (⊎_elim (λ (h : (o : Place) × (live (place_in q c slot) ≡ Some o)). (let m = more (place_in q c slot) h.0 h.1 in inl (m.place, m.lives))) (λ h. inr h) h)) (g.places q d c slot is inside);
    spares = λ a d is. let s = g.spares a d is in let o = s.own in record {
      own = o;
      head = λ e. s.head (ap (at_address k words) o.begins ∙ (sym (place_stays p d (b d) o.pool o.class o.slot o.owned_is o.inside) ∙ (sym (ap (at_address k ws) o.begins) ∙ e)));
      empty = empty_old a d s;
    };
  } where
    empty_old : (a d : ℕ) → IsSpare k t.holder live words a d → live' a ≡ None
    empty_old a d s = ⊎_elim (λ (e : live' a ≡ None). e) (λ (h : (q : Place) × (live' a ≡ Some q)). absurd (let e : ◌≡◌ {A = Option Place} None (Some h.0) = sym s.empty ∙ old a h.0 h.1 (place_low k t words a d p s.own) in cc)) (place_cases (live' a))

  -- a word of a minor area is beside all pools
  pub area_beside : (p : Pools k t words) → k.pools * 4096 < at → (d : ℕ) → Beside k t words d at
  area_beside p high d = record {
    low = omega arith;
    not_drawn = λ q is. let h : q < k.pools = (p.drawn_by q d is).0 in inr (let g : q * 4096 + 4096 < at = omega arith in g);
    not_place = λ q c slot is inside.
        let o = p.owned_by q d c is in
        let s : ℕ = slot * size_of c in
        let z : ℕ = size_of c in
        let top : s + z ≤ 4096 = slot_inside c slot o.2 inside in
        let below : q < k.pools = o.0 in
        inl (inr (let g : q * 4096 + s + 1 + z ≤ at = omega arith in g));
  }

-- a live block's head isn't Free
pub head_some : (shape : Shape) (colour : ℕ) (scanned : Bool) → head_word (head_of None shape colour scanned) ≢ 0
head_some (PlainShape size tag) colour true e = omega arith
head_some (PlainShape size tag) colour false e = omega arith
head_some (RawShape size tag) colour true e = omega arith
head_some (RawShape size tag) colour false e = omega arith
head_some (EpheShape keys) colour true e = omega arith
head_some (EpheShape keys) colour false e = omega arith

-- nor is one that forwards
head_at_some : (forward : Option ℕ) (shape : Shape) (colour : ℕ) (scanned : Bool) (word : ℕ) → HeadIs forward shape colour scanned word → word ≢ 0
head_at_some None shape colour scanned word h e = head_some shape colour scanned (sym h ∙ e)
head_at_some (Some copy) shape colour scanned word h e = let f : 3 + 2 ^ 32 * copy ≡ 0 = sym h ∙ e in omega arith

pub head_full : (k : Config) (paint : Paint) (live : Live) (graph : Graph) (words : List ℕ) (a : ℕ) (o : Place) → Found k paint live graph words a o → at_address k words a ≢ 0
head_full k paint live graph words a o f e = head_at_some o.forward o.shape (colour_in paint o.label) f.head.scanned (at_address k words a) f.head.packs e

-- the place at which a block lives isn't prepared
pub lived_unprepared : (k : Config) (t : Tenancy) (live : Live) (words : List ℕ) (a : ℕ) (o : Place) → Grid k t live words → live a ≡ Some o → t.prepared a ≡ None
lived_unprepared k t live words a o g lives = ⊎_elim (λ (e : t.prepared a ≡ None). e) (λ (h : (d : ℕ) × (t.prepared a ≡ Some d)). absurd (let e : ◌≡◌ {A = Option Place} None (Some o) = sym (g.spares a h.0 h.1).empty ∙ lives in cc)) (number_cases (t.prepared a))

-- a word behind the head of a live block is beside all that rests on pools
pub live_beside : (k : Config) (t : Tenancy) (live : Live) (words : List ℕ) (a i : ℕ) (o : Place) → Pools k t words → Grid k t live words → 1 ≤ a → live a ≡ Some o → 1 ≤ i → i < extent o.shape
    → at_address k words a ≢ 0 → (d : ℕ) → Beside k t words d (a + i)
live_beside k t live words a i o p g low lives some inside head d = dite (dec_le a (k.pools * 4096))
    (λ le.
    let l = g.lots a o lives le in
    let s : ℕ = l.slot * size_of l.class in
    let z : ℕ = size_of l.class in
    let few : l.class < class_count = (p.owned_by l.pool l.domain l.class l.owned_is).2 in
    let top : s + z ≤ 4096 = slot_inside l.class l.slot few l.inside in
    let n : ℕ = extent o.shape in
    let fits : n ≤ z = l.fits in
    let j : i < n = inside in
    let begins : a ≡ l.pool * 4096 + s + 1 = l.begins in
    let unprepared : t.prepared a ≡ None = lived_unprepared k t live words a o g lives in record {
      low = omega arith;
      not_drawn = λ q is. dite (dec_le q l.pool)
          (λ below. dite (ℕ_discrete q l.pool)
          (λ same. absurd (drawn_owned d l.domain l.class (sym is ∙ (ap t.holder same ∙ l.owned_is))))
          (λ other. inr (let b : q ≤ l.pool = below in let e : q ≢ l.pool = other in let h : q * 4096 + 4096 < a + i = omega arith in h)))
          (λ above. let b : l.pool < q = lt_of_not-le above in inl (let h : a + i ≤ q * 4096 = omega arith in h));
      not_place = λ q c slot is below_blocks.
          let s' : ℕ = slot * size_of c in
          let z' : ℕ = size_of c in
          let few' : c < class_count = (p.owned_by q d c is).2 in
          let top' : s' + z' ≤ 4096 = slot_inside c slot few' below_blocks in
          dite (ℕ_discrete q l.pool)
          (λ same.
          let class_is : c ≡ l.class = (owned_same d l.domain c l.class (sym is ∙ (ap t.holder same ∙ l.owned_is))).1 in
          let y : ℕ = l.slot * size_of c in
          let y_is : y ≡ s = ap (λ (b : ℕ). l.slot * size_of b) class_is in
          let z_is : z' ≡ z = ap size_of class_is in
          let pool_is : q ≡ l.pool = same in
          dite (ℕ_discrete slot l.slot)
          (λ eq.
          let s_is : s' ≡ y = ap (λ (b : ℕ). b * size_of c) eq in
          let here : a ≡ place_in q c slot = (let e : a ≡ q * 4096 + s' + 1 = omega arith in e) in
          inr ((let h : q * 4096 + s' + 1 < a + i = omega arith in h), subst (λ (b : ℕ). at_address k words b ≢ 0) here head, ap t.prepared (sym here) ∙ unprepared))
          (λ differ. dite (dec_le slot l.slot)
          (λ below. let m : s' + z' ≤ y = slot_below c slot l.slot (let b : slot ≤ l.slot = below in let e : slot ≢ l.slot = differ in omega arith) in inl (inr (let h : q * 4096 + s' + 1 + z' ≤ a + i = omega arith in h)))
          (λ above. let m : y + z' ≤ s' = slot_below c l.slot slot (lt_of_not-le above) in inl (inl (let h : a + i < q * 4096 + s' + 1 = omega arith in h)))))
          (λ other. let e : q ≢ l.pool = other in inl (dite (dec_le q l.pool)
          (λ below. let b : q ≤ l.pool = below in inr (let h : q * 4096 + s' + 1 + z' ≤ a + i = omega arith in h))
          (λ above. let b : l.pool < q = lt_of_not-le above in inl (let h : a + i < q * 4096 + s' + 1 = omega arith in h))));
    })
    (λ gt. let high : k.pools * 4096 < a = lt_of_not-le gt in area_beside k t words (a + i) 0 p (omega arith) d)

-- a word of a pool is beside all that rests on the pools of others
pub pool_beside : (k : Config) (t : Tenancy) (words : List ℕ) (pool at d : ℕ) → Pools k t words → pool * 4096 < at → at ≤ pool * 4096 + 4096 → t.holder pool ≢ drawn d → ((c : ℕ) → t.holder pool ≢ owned d c) → Beside k t words d at
pool_beside k t words pool at d p low high not_drawn not_owned = record {
  low = omega arith;
  not_drawn = λ q is. dite (ℕ_discrete q pool)
      (λ same. absurd (not_drawn (ap t.holder (sym same) ∙ is)))
      (λ other. let e : q ≢ pool = other in dite (dec_le q pool)
      (λ below. let b : q ≤ pool = below in inr (let h : q * 4096 + 4096 < at = omega arith in h))
      (λ above. let b : pool < q = lt_of_not-le above in inl (let h : at ≤ q * 4096 = omega arith in h)));
  not_place = λ q c slot is inside.
      let s : ℕ = slot * size_of c in
      let z : ℕ = size_of c in
      let top : s + z ≤ 4096 = slot_inside c slot (p.owned_by q d c is).2 inside in
      dite (ℕ_discrete q pool)
      (λ same. absurd (not_owned c (ap t.holder (sym same) ∙ is)))
      (λ other. let e : q ≢ pool = other in inl (dite (dec_le q pool)
      (λ below. let b : q ≤ pool = below in inr (let h : q * 4096 + s + 1 + z ≤ at = omega arith in h))
      (λ above. let b : pool < q = lt_of_not-le above in inl (let h : at < q * 4096 + s + 1 = omega arith in h))));
}

module _ (k : Config) (live : Live) (t : Tenancy) (c : Cycling) (words : List ℕ) (l : Leaves k live t c words) where
  -- a head of garbage isn't Free
  pub garbage_full : (a : ℕ) → IsTrue (t.garbage a) → at_address k words a ≢ 0
  garbage_full a is e = let h = l.head a is in head_some h.0.0 c.paint.colours.garbage h.1 (sym h.2 ∙ e)

  -- a word beside the places of all is none of its heads
  pub garbage_beside : (at new : ℕ) → Pools k t words → ((d : ℕ) → Beside k t words d at) → (a : ℕ) → IsTrue (t.garbage a) → at_address k (set words (before_heap k + at) new) a ≡ at_address k words a
  garbage_beside at new pools beside a is =
      let o = l.owned a is in
      let p = o.1 in
      ap (at_address k (set words (before_heap k + at) new)) p.begins ∙ (place_stays k t words at new pools o.0 (beside o.0) p.pool p.class p.slot p.owned_is p.inside ∙ sym (ap (at_address k words) p.begins))
