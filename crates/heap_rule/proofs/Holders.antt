-- One pool gets another holder, and a word before the heap's changes.
use Rattle.std.proofs.Common.{◌*◌, ◌≡◌, ◌≢◌, ℕ, zero, suc, ◌+◌, ◌<◌, ◌≤◌, ◌⊎◌, List, set, Some, sym, refl, ap, ◌∙◌, subst, inl, inr, ⊎_elim, arith, get_or-set_other, Option}
use mathlib.Core.Logic.{dite}
use native.Mathlib.Decide.{ℕ_discrete}
use Rattle.model_core.specs.Graph.{Graph}
use Rattle.heap_rule.specs.declared.config.Config.{Config}
use Rattle.heap_rule.specs.declared.view.Hunt.{Hunt}
use Rattle.heap_rule.specs.declared.view.Hunt.TheVariants.{Rests, Counts, Asks, Draws, Walks, Fills, Labels, Heads}
use Rattle.heap_rule.specs.declared.view.DomainView.{DomainView}
use Rattle.heap_rule.specs.Layout.{before_heap, base_of, at_address, listed_pool, listed, cursor}
use Rattle.heap_rule.specs.Places.{Live, Paint, Placed, IsOldWord}
use Rattle.heap_rule.specs.Rule.{AllFound, Making}
use Rattle.heap_rule.specs.Pools.{Holder, nobody, drawn, owned, Stock, Tenancy, OwnPlace, IsSpare, Grid, Hunts, Hunter, Latest, DrawsFor, place_in, blocks_of, limit_of}
use Rattle.heap_rule.specs.Phases.{sum_of}
use Rattle.heap_rule.proofs.HeadLemmas.{head_at}
use Rattle.heap_rule.proofs.Update.{over, over_here, over_else}

-- the words agree on the list and on the heap
pub record Agrees (k : Config) (words words' : List ℕ) : Type 0 where
  pub count : listed words' ≡ listed words
  pub list : (i : ℕ) → i < k.pools → listed_pool words' i ≡ listed_pool words i
  pub heap : (a : ℕ) → 1 ≤ a → at_address k words' a ≡ at_address k words a

pub agrees_same : (k : Config) (words : List ℕ) → Agrees k words words
agrees_same k words = record { count = refl; list = λ i h. refl; heap = λ a h. refl }

pub agrees_set : (k : Config) (words : List ℕ) (j new : ℕ) → j ≢ 6 → (j < 11) ⊎ (11 + k.pools ≤ j) → j ≤ before_heap k → Agrees k words (set words j new)
agrees_set k words j new other beside low = record {
  count = get_or-set_other words j 6 new 0 (λ e. other (sym e));
  list = λ i h. get_or-set_other words j (11 + i) new 0 (λ e. let g : 11 + i ≡ j = e in let l : i < k.pools = h in ⊎_elim (λ (b : j < 11). omega arith) (λ (b : 11 + k.pools ≤ j). omega arith) beside);
  heap = λ a h. get_or-set_other words j (before_heap k + a) new 0 (λ e. let g : before_heap k + a ≡ j = e in let l : 1 ≤ a = h in let m : j ≤ before_heap k = low in omega arith);
}

-- and on the heap alone: then its blocks stand as they did
abbrev pub SameHeap : Config → List ℕ → List ℕ → Type 0
SameHeap k words words' = (a : ℕ) → 1 ≤ a → at_address k words' a ≡ at_address k words a

pub found_heap : (k : Config) (paint : Paint) (live : Live) (graph : Graph) (words words' : List ℕ) → SameHeap k words words' → Placed k live → AllFound k paint live graph words → AllFound k paint live graph words'
found_heap k paint live graph words words' same placed found a p lives =
    let f = found a p lives in
    let low : 1 ≤ a = (placed.fits a p lives).low in record {
      node = f.node;
      there = f.there;
      shape = f.shape;
      head = head_at paint p (same a low) f.head;
      blank = f.blank;
      label = same (a + 1) (omega arith) ∙ f.label;
      values = λ i v has got. let w = f.values i v has got in record { value = w.value; packs = same (a + 2 + i) (omega arith) ∙ w.packs; stands = w.stands };
      old = λ under i inside has none. subst (IsOldWord k) (sym (same (a + 2 + i) (omega arith))) (f.old under i inside has none);
    }

pub found_agrees : (k : Config) (paint : Paint) (live : Live) (graph : Graph) (words words' : List ℕ) → Agrees k words words' → Placed k live → AllFound k paint live graph words → AllFound k paint live graph words'
found_agrees k paint live graph words words' same placed found = found_heap k paint live graph words words' same.heap placed found

pub making_heap : (k : Config) (words words' : List ℕ) (z : DomainView) → SameHeap k words words' → Making k words z → Making k words' z
making_heap k words words' z same p = record {
  fits = p.fits;
  written = λ j w got. same (base_of k z.own.number + z.own.used + 1 + j) (omega arith) ∙ p.written j w got;
}

pub making_agrees : (k : Config) (words words' : List ℕ) (z : DomainView) → Agrees k words words' → Making k words z → Making k words' z
making_agrees k words words' z same p = making_heap k words words' z same.heap p

pub grid_heap : (k : Config) (t : Tenancy) (live : Live) (words words' : List ℕ) → SameHeap k words words' → Grid k t live words → Grid k t live words'
grid_heap k t live words words' same g = record {
  lots = g.lots;
  places = λ q d c slot is inside. ⊎_elim (λ (z : at_address k words (place_in q c slot) ≡ 0). inl (same (place_in q c slot) (omega arith) ∙ z)) (λ z. inr z) (g.places q d c slot is inside);
  spares = λ a d is. spare_heap a d (g.spares a d is);
} where
  spare_heap : (a d : ℕ) → IsSpare k t.holder live words a d → IsSpare k t.holder live words' a d
  spare_heap a d s = record { own = s.own; head = λ e. s.head (sym (same a (let b : a ≡ place_in s.own.pool s.own.class s.own.slot = s.own.begins in omega arith)) ∙ e); empty = s.empty }

-- what copying has used agrees on a domain
pub record SameStock (s s' : Stock) (d : ℕ) : Type 0 where
  pub drawn : s'.drawn d ≡ s.drawn d
  pub copies : s'.copies d ≡ s.copies d
  pub latest : s'.latest d ≡ s.latest d
  pub used : s'.used d ≡ s.used d
  pub claims : s'.claims d ≡ s.claims d

pub stock_self : (s : Stock) (d : ℕ) → SameStock s s d
stock_self s d = record { drawn = refl; copies = refl; latest = refl; used = refl; claims = refl }

-- the holders agree on the pools of a domain, and so do the places that it has prepared and what it has used
pub record SameFor (t t' : Tenancy) (d : ℕ) : Type 0 where
  pub drawn_to : (q : ℕ) → t.holder q ≡ drawn d → t'.holder q ≡ drawn d
  pub drawn_from : (q : ℕ) → t'.holder q ≡ drawn d → t.holder q ≡ drawn d
  pub owned_to : (q c : ℕ) → t.holder q ≡ owned d c → t'.holder q ≡ owned d c
  pub owned_from : (q c : ℕ) → t'.holder q ≡ owned d c → t.holder q ≡ owned d c
  pub asking_same : t'.asking d ≡ t.asking d
  pub prepared_to : (a : ℕ) → t.prepared a ≡ Some d → t'.prepared a ≡ Some d
  pub prepared_from : (a : ℕ) → t'.prepared a ≡ Some d → t.prepared a ≡ Some d
  pub fresh_same : (c : ℕ) → t'.fresh d c ≡ t.fresh d c
  pub stock_same : SameStock t.stock t'.stock d

pub same_self : (t : Tenancy) (d : ℕ) → SameFor t t d
same_self t d = record { drawn_to = λ q e. e; drawn_from = λ q e. e; owned_to = λ q c e. e; owned_from = λ q c e. e; asking_same = refl; prepared_to = λ a e. e; prepared_from = λ a e. e; fresh_same = λ c. refl; stock_same = stock_self t.stock d }

pub same_asking : (t : Tenancy) (asking : ℕ → ℕ) (d : ℕ) → asking d ≡ t.asking d → SameFor t (record t { asking = asking }) d
same_asking t asking d same = record { drawn_to = λ q e. e; drawn_from = λ q e. e; owned_to = λ q c e. e; owned_from = λ q c e. e; asking_same = same; prepared_to = λ a e. e; prepared_from = λ a e. e; fresh_same = λ c. refl; stock_same = stock_self t.stock d }

-- the holder is another than this domain
pub record NotOf (h : Holder) (d : ℕ) : Type 0 where
  pub not_drawn : h ≢ drawn d
  pub not_owned : (c : ℕ) → h ≢ owned d c

pub nobody_drawn : (d : ℕ) → ◌≡◌ {A = Holder} nobody (drawn d) → ⊥
nobody_drawn d e = cc

pub nobody_owned : (d c : ℕ) → ◌≡◌ {A = Holder} nobody (owned d c) → ⊥
nobody_owned d c e = cc

drawn_drawn : (d e : ℕ) → d ≢ e → ◌≡◌ {A = Holder} (drawn d) (drawn e) → ⊥
drawn_drawn d e n h = n (let g : d ≡ e = cc in g)

pub drawn_owned : (d e c : ℕ) → ◌≡◌ {A = Holder} (drawn d) (owned e c) → ⊥
drawn_owned d e c h = cc

owned_owned : (d e b c : ℕ) → d ≢ e → ◌≡◌ {A = Holder} (owned d b) (owned e c) → ⊥
owned_owned d e b c n h = n (let g : d ≡ e = cc in g)

pub nobody_not : (d : ℕ) → NotOf nobody d
nobody_not d = record { not_drawn = nobody_drawn d; not_owned = nobody_owned d }

pub drawn_not : (d e : ℕ) → d ≢ e → NotOf (drawn d) e
drawn_not d e n = record { not_drawn = drawn_drawn d e n; not_owned = drawn_owned d e }

pub owned_not : (d c e : ℕ) → d ≢ e → NotOf (owned d c) e
owned_not d c e n = record { not_drawn = λ h. drawn_owned e d c (sym h); not_owned = λ b. owned_owned d e c b n }

module _ (t : Tenancy) (pool : ℕ) (h : Holder) (asking : ℕ → ℕ) (fresh : ℕ → ℕ → Option ℕ) (stock : Stock) where
  abbrev pub t' : Tenancy
  t' = record { holder = over pool h t.holder; asking = asking; prepared = t.prepared; garbage = t.garbage; fresh = fresh; stock = stock }

  pub same_over : (d : ℕ) → NotOf (t.holder pool) d → NotOf h d → asking d ≡ t.asking d → ((c : ℕ) → fresh d c ≡ t.fresh d c) → SameStock t.stock stock d → SameFor t t' d
  same_over d before after same drew used = record {
    fresh_same = drew;
    prepared_to = λ a e. e;
    prepared_from = λ a e. e;
    stock_same = used;
    drawn_to = λ q e. dite (ℕ_discrete q pool) (λ here. absurd (before.not_drawn (ap t.holder (sym here) ∙ e))) (λ other. over_else pool h t.holder q other ∙ e);
    drawn_from = λ q e. dite (ℕ_discrete q pool) (λ here. absurd (after.not_drawn (sym (over_here pool h t.holder) ∙ (ap (over pool h t.holder) (sym here) ∙ e)))) (λ other. sym (over_else pool h t.holder q other) ∙ e);
    owned_to = λ q c e. dite (ℕ_discrete q pool) (λ here. absurd (before.not_owned c (ap t.holder (sym here) ∙ e))) (λ other. over_else pool h t.holder q other ∙ e);
    owned_from = λ q c e. dite (ℕ_discrete q pool) (λ here. absurd (after.not_owned c (sym (over_here pool h t.holder) ∙ (ap (over pool h t.holder) (sym here) ∙ e)))) (λ other. sym (over_else pool h t.holder q other) ∙ e);
    asking_same = same;
  }

  -- the grid, where the pool's places are free
  pub grid_over : (k : Config) (live : Live) (words words' : List ℕ) → Agrees k words words' → ((d c : ℕ) → t.holder pool ≢ owned d c) → ((d c slot : ℕ) → h ≡ owned d c → slot < blocks_of c → at_address k words (place_in pool c slot) ≡ 0)
      → Grid k t live words → Grid k t' live words'
  grid_over k live words words' same before free g =
      let stays : (q d c : ℕ) → t.holder q ≡ owned d c → over pool h t.holder q ≡ owned d c = (λ q d c is. over_else pool h t.holder q (λ here. before d c (ap t.holder (sym here) ∙ is)) ∙ is) in record {
        lots = λ a p lives low. let l = g.lots a p lives low in record {
          pool = l.pool;
          domain = l.domain;
          class = l.class;
          slot = l.slot;
          owned_is = stays l.pool l.domain l.class l.owned_is;
          inside = l.inside;
          begins = l.begins;
          fits = l.fits;
        };
        places = λ q d c slot is inside.
            let there : at_address k words' (place_in q c slot) ≡ at_address k words (place_in q c slot) = same.heap (place_in q c slot) (omega arith) in
            dite (ℕ_discrete q pool)
            (λ here. inl (there ∙ (ap (λ (m : ℕ). at_address k words (place_in m c slot)) here ∙ free d c slot (sym (over_here pool h t.holder) ∙ (ap (over pool h t.holder) (sym here) ∙ is)) inside)))
            (λ other. ⊎_elim (λ (z : at_address k words (place_in q c slot) ≡ 0). inl (there ∙ z)) (λ z. inr z)
            (g.places q d c slot (sym (over_else pool h t.holder q other) ∙ is) inside));
        spares = λ a d is. let s = g.spares a d is in let o = s.own in record {
          own = record { pool = o.pool; class = o.class; slot = o.slot; owned_is = stays o.pool d o.class o.owned_is; inside = o.inside; begins = o.begins };
          head = λ e. s.head (sym (same.heap a (let b : a ≡ place_in o.pool o.class o.slot = o.begins in omega arith)) ∙ e);
          empty = s.empty;
        };
      }

-- no more pools are free where the cursor went on
pub free_later : (k : Config) (words words' : List ℕ) → listed words' ≡ listed words → cursor words ≤ cursor words' → (f : ℕ) → (listed words ≤ f + cursor words) × (listed words ≤ f + limit_of k (listed words)) × (f ≤ listed words)
    → (listed words' ≤ f + cursor words') × (listed words' ≤ f + limit_of k (listed words')) × (f ≤ listed words')
free_later k words words' same grows f h = (
  (let n : ℕ = listed words in let n' : ℕ = listed words' in let e : n' ≡ n = same in let c : ℕ = cursor words in let c' : ℕ = cursor words' in let l : c ≤ c' = grows in let b : n ≤ f + c = h.0 in let g : n' ≤ f + c' = omega arith in g),
  subst (λ (m : ℕ). m ≤ f + limit_of k m) (sym same) h.1,
  subst (λ (m : ℕ). f ≤ m) (sym same) h.2,
)

module _ (k : Config) (t t' : Tenancy) (words words' : List ℕ) (agrees : Agrees k words words') where
  place_agrees : (d : ℕ) → SameFor t t' d → (a : ℕ) → OwnPlace t.holder a d → OwnPlace t'.holder a d
  place_agrees d same a o = record { pool = o.pool; class = o.class; slot = o.slot; owned_is = same.owned_to o.pool o.class o.owned_is; inside = o.inside; begins = o.begins }

  pub hunts_agree : (d : ℕ) → SameFor t t' d → (h : Hunt) → Hunts k t words d h → Hunts k t' words' d h
  hunts_agree d same Rests u = tt
  hunts_agree d same (Counts n) u = agrees.count ∙ u
  hunts_agree d same (Asks n) u = (agrees.count ∙ u.0, same.asking_same ∙ u.1)
  hunts_agree d same (Draws place pool class cleared) u = record {
    inside = u.inside;
    listed_is = u.listed_is;
    names = agrees.list place u.listed_is ∙ u.names;
    drawn_is = same.drawn_to pool u.drawn_is;
    fresh_is = same.fresh_same class ∙ u.fresh_is;
    of_class = u.of_class;
    some = u.some;
    free = λ j h. agrees.heap (place_in pool class j) (omega arith) ∙ u.free j h;
  }
  hunts_agree d same (Walks pool class) u = same.owned_to pool class u
  hunts_agree d same (Fills pool class slot made) u = record {
    own_is = same.owned_to pool class u.own_is;
    inside = u.inside;
    free = agrees.heap (place_in pool class slot) (omega arith) ∙ u.free;
    fits = u.fits;
    written = λ j w got. agrees.heap (place_in pool class slot + 1 + j) (omega arith) ∙ u.written j w got;
  }
  hunts_agree d same (Labels address label) u = (same.prepared_to address u.0, place_agrees d same address u.1, agrees.heap (address + 1) (omega arith) ∙ u.2)
  hunts_agree d same (Heads address label head) u = (same.prepared_to address u.0, place_agrees d same address u.1, agrees.heap (address + 1) (omega arith) ∙ u.2, agrees.heap address (let b : address ≡ place_in u.1.pool u.1.class u.1.slot = u.1.begins in omega arith) ∙ u.3)

  pub latest_agrees : (d c : ℕ) → SameFor t t' d → Latest k t words d c → Latest k t' words' d c
  latest_agrees d c same l =
      let st = same.stock_same in
      let q : t'.stock.latest d c ≡ t.stock.latest d c = ap (λ (f : ℕ → ℕ). f c) st.latest in
      let u : t'.stock.used d c ≡ t.stock.used d c = ap (λ (f : ℕ → ℕ). f c) st.used in
      let dr : t'.stock.drawn d c ≡ t.stock.drawn d c = ap (λ (f : ℕ → ℕ). f c) st.drawn in
      let co : t'.stock.copies d c ≡ t.stock.copies d c = ap (λ (f : ℕ → ℕ). f c) st.copies in
      let Rest : ℕ → ℕ → ℕ → Type 0 = (λ pool used j. (at_address k words' (place_in pool c j) ≡ 0) ⊎ ((j ≡ used) × (t'.prepared (place_in pool c j) ≡ Some d))) in record {
        own_is = subst (λ (m : ℕ). t'.holder m ≡ owned d c) (sym q) (same.owned_to (t.stock.latest d c) c l.own_is);
        few = subst (λ (m : ℕ). m ≤ blocks_of c) (sym u) l.few;
        enough = subst (λ (m : ℕ × ℕ × ℕ). m.0 * blocks_of c + m.1 ≤ m.2 + blocks_of c) (λ i. (sym dr i, sym u i, sym co i)) l.enough;
        rest = λ j from inside. subst (λ (m : ℕ × ℕ). Rest m.0 m.1 j) (λ i. (sym q i, sym u i))
            (⊎_elim (λ (z : at_address k words (place_in (t.stock.latest d c) c j) ≡ 0). inl (agrees.heap (place_in (t.stock.latest d c) c j) (omega arith) ∙ z)) (λ (z : (j ≡ t.stock.used d c) × (t.prepared (place_in (t.stock.latest d c) c j) ≡ Some d)). inr (z.0, same.prepared_to (place_in (t.stock.latest d c) c j) z.1))
            (l.rest j (subst (λ (m : ℕ). m ≤ j) u from) inside));
      }

  pub hunter_agree : (z : DomainView) → cursor words ≤ cursor words' → SameFor t t' z.own.number → Hunter k t words z → Hunter k t' words' z
  hunter_agree z grows same h = record {
    free = λ f e. free_later k words words' agrees.count grows f (h.free f e);
    spare = λ u e. let f = h.spare u e in record { own_is = same.owned_to u.pool u.class f.own_is; inside = f.inside; free = agrees.heap (place_in u.pool u.class u.slot) (omega arith) ∙ f.free };
    hunt = hunts_agree z.own.number same z.seen.hunt h.hunt;
    drawn_alone = λ q e. h.drawn_alone q (same.drawn_from q e);
    taken = λ q c slot is inside low e. h.taken q c slot (same.owned_from q c is) inside low (sym (agrees.heap (place_in q c slot) (omega arith)) ∙ e);
    holds = λ c a few e. let u = h.holds c a few e in (same.prepared_to a u.0, (u.1.0, u.1.1, same.owned_to u.1.0 c u.1.2, u.1.3, u.1.4));
    prepared = λ q c slot is inside e. h.prepared q c slot (same.owned_from q c is) inside (same.prepared_from (place_in q c slot) e);
    claims = h.claims ∙ sym same.stock_same.claims;
    supply = λ c few some. ⊎_elim (λ (z : DrawsFor c z.seen.hunt). inl z) (λ (l : Latest k t words z.own.number c). inr (latest_agrees z.own.number c same l)) (h.supply c few (subst (λ (m : ℕ). 0 < m) (ap (λ (f : ℕ → ℕ). f c) same.stock_same.drawn) some));
  }

-- sums
pub sum_past : (f : ℕ → ℕ) (d v n : ℕ) → n ≤ d → sum_of (over d v f) n ≡ sum_of f n
sum_past f d v zero above = refl
sum_past f d v (suc n) above = let e = sum_past f d v n (omega arith) in let g = over_else d v f n (λ same. omega arith) in λ i. e i + g i

pub sum_over : (f : ℕ → ℕ) (d v n : ℕ) → d < n → sum_of (over d v f) n + f d ≡ sum_of f n + v
sum_over f d v zero below = absurd (omega arith)
sum_over f d v (suc n) below =
    let x : ℕ = sum_of f n in let y : ℕ = sum_of (over d v f) n in let o : ℕ = over d v f n in let m : ℕ = f n in let w : ℕ = f d in
    dite (ℕ_discrete n d)
    (λ same.
    let e : y ≡ x = sum_past f d v n (let z : n ≡ d = same in omega arith) in
    let g : o ≡ v = ap (over d v f) same ∙ over_here d v f in
    let z : m ≡ w = ap f same in
    let a : y + o + w ≡ x + m + v = omega arith in a)
    (λ other.
    let e : y + w ≡ x + v = sum_over f d v n (let z : n ≢ d = other in omega arith) in
    let g : o ≡ m = over_else d v f n other in
    let a : y + o + w ≡ x + m + v = omega arith in a)

pub sum_small : (f : ℕ → ℕ) (n : ℕ) → ((d : ℕ) → f d ≤ 1) → sum_of f n ≤ n
sum_small f zero each = omega arith
sum_small f (suc n) each =
    let a : sum_of f n ≤ n = sum_small f n each in
    let b : f n ≤ 1 = each n in
    let x : ℕ = sum_of f n in let y : ℕ = f n in let z : x + y ≤ suc n = omega arith in z
