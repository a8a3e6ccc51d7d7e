-- A place of an own pool at which no block lives: what a store to its first two words leaves.
use Rattle.std.proofs.Common.{◌≡◌, ◌≢◌, ℕ, ◌+◌, ◌*◌, ◌<◌, ◌≤◌, ◌⊎◌, IsTrue, List, length, set, Option, Some, None, sym, refl, ap, ◌∙◌, ⊎_elim, inl, inr, arith, lt_of_not-le}
use mathlib.Core.Logic.{dite}
use native.Mathlib.Decide.{ℕ_discrete, dec_le}
use mathlib.Core.Option.{some}
use lib.ListN.{get_elem?}
use Rattle.model_core.specs.declared.entry.Entry.{Entry}
use Rattle.model_core.specs.Domains.{class_count}
use Rattle.heap_rule.specs.declared.config.Config.{Config}
use Rattle.heap_rule.specs.declared.view.DomainView.{DomainView}
use Rattle.heap_rule.specs.Layout.{before_heap, heap_words, at_address}
use Rattle.heap_rule.specs.Places.{Place, extent}
use Rattle.heap_rule.specs.Pools.{owned, Stock, Tenancy, Pools, OwnPlace, place_in, size_of, blocks_of}
use Rattle.heap_rule.specs.Rule.{state_of, AllFound, Making, Rule}
use Rattle.heap_rule.specs.Views.{one}
use Rattle.heap_rule.proofs.Beside.{found_beside, making_beside}
use Rattle.heap_rule.proofs.Classes.{size_least, slot_below, slot_inside}
use Rattle.heap_rule.proofs.Keeps.{Words, more_same}
use Rattle.heap_rule.proofs.Garbage.{KeepsGarbage}
use Rattle.heap_rule.proofs.Lots.{Beside, pool_beside, stays}
use Rattle.heap_rule.proofs.Holders.{SameFor, SameStock, drawn_owned}
use Rattle.heap_rule.proofs.OwnPlaces.{owned_same}
use Rattle.heap_rule.proofs.Update.{over, over_else}
use Rattle.std.proofs.lemmas.Option.{none-some}

-- others see their own places as before where only the prepared places and the copies of one domain change
pub same_prepared : (t : Tenancy) (prepared' : ℕ → Option ℕ) (stock' : Stock) (d : ℕ) → ((b : ℕ) → t.prepared b ≡ Some d → prepared' b ≡ Some d) → ((b : ℕ) → prepared' b ≡ Some d → t.prepared b ≡ Some d) → SameStock t.stock stock' d
    → SameFor t (record t { prepared = prepared'; stock = stock' }) d
same_prepared t prepared' stock' d to from stock = record { drawn_to = λ q e. e; drawn_from = λ q e. e; owned_to = λ q c e. e; owned_from = λ q c e. e; asking_same = refl; prepared_to = to; prepared_from = from; fresh_same = λ c. refl; stock_same = stock }

-- two places at one address are one
pub place_sole : (k : Config) (t : Tenancy) (words : List ℕ) (q d c i pool e class slot : ℕ) → Pools k t words → t.holder q ≡ owned d c → i < blocks_of c → t.holder pool ≡ owned e class → slot < blocks_of class → place_in q c i ≡ place_in pool class slot
    → (q ≡ pool) × (d ≡ e) × (c ≡ class) × (i ≡ slot)
place_sole k t words q d c i pool e class slot p is inside is' inside' same =
    let u : ℕ = i * size_of c in let v : ℕ = size_of c in
    let w : ℕ = slot * size_of class in let y : ℕ = size_of class in
    let few : c < class_count = (p.owned_by q d c is).2 in
    let few' : class < class_count = (p.owned_by pool e class is').2 in
    let top : u + v ≤ 4096 = slot_inside c i few inside in
    let top' : w + y ≤ 4096 = slot_inside class slot few' inside' in
    let large : 4 ≤ v = size_least c few in
    let large' : 4 ≤ y = size_least class few' in
    let at : q * 4096 + u + 1 ≡ pool * 4096 + w + 1 = same in
    let here : q ≡ pool = omega arith in
    let both = owned_same d e c class (sym is ∙ (ap t.holder here ∙ is')) in
    let u' : ℕ = i * size_of class in
    let u_is : u ≡ u' = ap (λ (z : ℕ). i * size_of z) both.1 in (
      here,
      both.0,
      both.1,
      dite (ℕ_discrete i slot)
          (λ eq. eq)
          (λ ne. absurd (dite (dec_le i slot)
          (λ below. let g : u' + y ≤ w = slot_below class i slot (let b : i ≤ slot = below in let n : i ≢ slot = ne in omega arith) in omega arith)
          (λ above. let g : w + y ≤ u' = slot_below class slot i (lt_of_not-le above) in omega arith))),
    )

-- no garbage lies at a prepared place
pub spare_clean : (k : Config) (s : Words) (r : Rule k s) (a d : ℕ) → r.account.tenancy.prepared a ≡ Some d → (b : ℕ) → IsTrue (r.account.tenancy.garbage b) → b ≢ a
spare_clean k s r a d is b garbage same = none-some d (sym (r.whole.cycle.leaves.unprepared b garbage) ∙ (ap r.account.tenancy.prepared same ∙ is))

module _ (k : Config) (s : Words) (r : Rule k s) (id : ℕ) (hist : List Entry) (x : DomainView) (at : get_elem? s.views id ≡ some (one k hist x)) (a : ℕ) (o : OwnPlace r.account.tenancy.holder a x.own.number) (empty : r.account.live a ≡ None) where
  abbrev t : Tenancy
  t = r.account.tenancy

  abbrev pub me : ℕ
  me = x.own.number

  abbrev z : ℕ
  z = size_of o.class

  abbrev w : ℕ
  w = o.slot * size_of o.class

  pub few : o.class < class_count
  few = (r.whole.pools.owned_by o.pool me o.class o.owned_is).2

  inside_pools : o.pool < k.pools
  inside_pools = (r.whole.pools.owned_by o.pool me o.class o.owned_is).0

  top : w + z ≤ 4096
  top = slot_inside o.class o.slot few o.inside

  pub large : 4 ≤ z
  large = size_least o.class few

  is : a ≡ o.pool * 4096 + w + 1
  is = o.begins

  pub low : 1 ≤ a
  low = let i : a ≡ o.pool * 4096 + w + 1 = is in omega arith

  -- its first words lie in the pool
  pub in_pool : (i : ℕ) → i < 4 → (o.pool * 4096 < a + i) × (a + i ≤ o.pool * 4096 + 4096)
  in_pool i h = let e : a ≡ o.pool * 4096 + w + 1 = is in let u : ℕ = w in let v : ℕ = z in let l : 4 ≤ v = large in let y : u + v ≤ 4096 = top in ((let g : o.pool * 4096 < a + i = omega arith in g), (let g : a + i ≤ o.pool * 4096 + 4096 = omega arith in g))

  -- and in the heap
  pub in_heap : (i : ℕ) → i < 4 → before_heap k + (a + i) < length s.words
  in_heap i h = let g : a + i ≤ o.pool * 4096 + 4096 = (in_pool i h).1 in let b : o.pool < k.pools = inside_pools in let n : ℕ = k.domains * k.minor_words in let hw : heap_words k ≡ k.pools * 4096 + n = refl in
      let wide : length s.words ≡ 1 + before_heap k + heap_words k = r.whole.wide in let bh : ℕ = before_heap k in let e : ℕ = heap_words k in let f : e ≡ k.pools * 4096 + n = hw in let v : length s.words ≡ 1 + bh + e = wide in omega arith

  -- no live block shares a word with the whole place
  pub apart : (b : ℕ) (q : Place) → r.account.live b ≡ Some q → (b + extent q.shape ≤ a) ⊎ (a + size_of o.class ≤ b)
  apart b q lives =
      let n : ℕ = extent q.shape in
      let y : ℕ = z in
      let m : ℕ = w in
      let t1 : m + y ≤ 4096 = top in
      let e : a ≡ o.pool * 4096 + m + 1 = is in
      dite (dec_le b (k.pools * 4096))
      (λ le.
      let l = r.whole.grid.lots b q lives le in
      let v : ℕ = size_of l.class in
      let u : ℕ = l.slot * size_of l.class in
      let own = r.whole.pools.owned_by l.pool l.domain l.class l.owned_is in
      let top' : u + v ≤ 4096 = slot_inside l.class l.slot own.2 l.inside in
      let begins : b ≡ l.pool * 4096 + u + 1 = l.begins in
      let fits : n ≤ v = l.fits in
      dite (ℕ_discrete l.pool o.pool)
      (λ same.
      let both = owned_same l.domain me l.class o.class (sym l.owned_is ∙ (ap t.holder same ∙ o.owned_is)) in
      let vy : v ≡ y = ap size_of both.1 in
      let h' : ℕ = l.slot * size_of o.class in
      let uh : u ≡ h' = ap (λ (d : ℕ). l.slot * size_of d) both.1 in
      let here : l.pool ≡ o.pool = same in
      dite (ℕ_discrete l.slot o.slot)
      (λ eq. let hm : h' ≡ m = ap (λ (d : ℕ). d * size_of o.class) eq in
      let ba : b ≡ a = omega arith in absurd (let none : ◌≡◌ {A = Option Place} None (Some q) = sym empty ∙ (ap r.account.live (sym ba) ∙ lives) in cc))
      (λ ne. dite (dec_le l.slot o.slot)
      (λ below. let g : h' + y ≤ m = slot_below o.class l.slot o.slot (let p : l.slot ≤ o.slot = below in let nn : l.slot ≢ o.slot = ne in omega arith) in inl (let f : b + n ≤ a = omega arith in f))
      (λ above. let g : m + y ≤ h' = slot_below o.class o.slot l.slot (lt_of_not-le above) in inr (let f : a + y ≤ b = omega arith in f))))
      (λ other. let ne : l.pool ≢ o.pool = other in dite (dec_le l.pool o.pool)
      (λ below. let p : l.pool ≤ o.pool = below in inl (let f : b + n ≤ a = omega arith in f))
      (λ above. let p : o.pool < l.pool = lt_of_not-le above in inr (let f : a + y ≤ b = omega arith in f))))
      (λ gt. let g : k.pools * 4096 < b = lt_of_not-le gt in let p : o.pool < k.pools = inside_pools in inr (let f : a + y ≤ b = omega arith in f))

  -- no live block has a word of the place
  pub far : (b : ℕ) (q : Place) → r.account.live b ≡ Some q → (i : ℕ) → i < 4 → (j : ℕ) → j < extent q.shape → b + j ≢ a + i
  far b q lives i h j within same =
      let n : ℕ = extent q.shape in
      let y : ℕ = z in
      let big : 4 ≤ y = large in
      let c : j < n = within in
      let clash : b + j ≡ a + i = same in
      ⊎_elim (λ (before : b + n ≤ a). omega arith) (λ (behind : a + y ≤ b). omega arith) (apart b q lives)

  module _ (i new : ℕ) (small : i < 4) where
    abbrev pub ws : List ℕ
    ws = set s.words (before_heap k + (a + i)) new

    -- so all blocks are found again
    pub found_again : AllFound k r.account.cycling.paint r.account.live (state_of k r.account.log).graph ws
    found_again b q lives = let f = r.whole.found b q lives in found_beside k r.account.cycling.paint r.account.live r.account.live (state_of k r.account.log).graph (state_of k r.account.log).graph s.words (a + i) new b q (more_same r.account.live) f f.there (far b q lives i small)

    -- what all domains make
    pub makings_again : (y : DomainView) → Making k s.words y → Making k ws y
    makings_again y m = making_beside k s.words (a + i) new y (λ j fits e.
        let p : a + i ≤ o.pool * 4096 + 4096 = (in_pool i small).1 in let q : o.pool < k.pools = inside_pools in let n : ℕ = y.own.number * k.minor_words in
        let same : k.pools * 4096 + n + 1 + y.own.used + 1 + j ≡ a + i = e in omega arith) m

    -- the word is beside all that rests on the pools of the others
    pub others_beside : (d : ℕ) → d ≢ me → Beside k t s.words d (a + i)
    others_beside d other = let p = in_pool i small in pool_beside k t s.words o.pool (a + i) d r.whole.pools p.0 p.1
        (λ e. drawn_owned d me o.class (sym e ∙ o.owned_is)) (λ c e. other (owned_same d me c o.class (sym e ∙ o.owned_is)).0)

    -- another place of an own pool keeps its head
    pub place_again : (q d c j : ℕ) → t.holder q ≡ owned d c → j < blocks_of c → place_in q c j ≢ a → at_address k ws (place_in q c j) ≡ at_address k s.words (place_in q c j)
    place_again q d c j owned_is below other = stays k t s.words (a + i) new (place_in q c j) (λ e. differs e) where
      differs : place_in q c j ≢ a + i
      differs e =
          let u : ℕ = j * size_of c in let v : ℕ = size_of c in
          let own = r.whole.pools.owned_by q d c owned_is in
          let top' : u + v ≤ 4096 = slot_inside c j own.2 below in
          let big' : 4 ≤ v = size_least c own.2 in
          let e1 : a ≡ o.pool * 4096 + w + 1 = is in let m : ℕ = w in let y : ℕ = z in let big : 4 ≤ y = large in let t1 : m + y ≤ 4096 = top in
          let clash : q * 4096 + u + 1 ≡ a + i = e in
          let here : q ≡ o.pool = omega arith in
          let both = owned_same d me c o.class (sym owned_is ∙ (ap t.holder here ∙ o.owned_is)) in
          let h' : ℕ = j * size_of o.class in
          let uh : u ≡ h' = ap (λ (n : ℕ). j * size_of n) both.1 in
          dite (ℕ_discrete j o.slot)
          (λ eq. let hm : h' ≡ m = ap (λ (n : ℕ). n * size_of o.class) eq in let ne : q * 4096 + u + 1 ≢ a = other in omega arith)
          (λ ne. dite (dec_le j o.slot)
          (λ le. let g : h' + y ≤ m = slot_below o.class j o.slot (let p : j ≤ o.slot = le in let nn : j ≢ o.slot = ne in omega arith) in omega arith)
          (λ gt. let g : m + y ≤ h' = slot_below o.class o.slot j (lt_of_not-le gt) in omega arith))

    -- and so does garbage, which lies elsewhere
    pub heads_again : ((b : ℕ) → IsTrue (t.garbage b) → b ≢ a) → (b : ℕ) → IsTrue (t.garbage b) → at_address k ws b ≡ at_address k s.words b
    heads_again clean b is =
        let h = r.whole.cycle.leaves.owned b is in
        let p = h.1 in
        ap (at_address k ws) p.begins ∙ (place_again p.pool h.0 p.class p.slot p.owned_is p.inside (λ same. clean b is (p.begins ∙ same)) ∙ sym (ap (at_address k s.words) p.begins))

    -- also where the place comes to be prepared, or is no more
    pub garbage_again : ((b : ℕ) → IsTrue (t.garbage b) → b ≢ a) → (domain : Option ℕ) → KeepsGarbage k r.account.live t (record t { prepared = over a domain t.prepared }) s.words ws
    garbage_again clean domain = record {
      same = λ b. refl;
      dead = r.whole.cycle.leaves.dead;
      unprepared = λ b is. over_else a domain t.prepared b (clean b is) ∙ r.whole.cycle.leaves.unprepared b is;
      heads = heads_again clean;
      held = λ q d c e. e;
    }

  -- the whole place lies in the pools
  pub below_areas : a + size_of o.class ≤ k.pools * 4096 + 1
  below_areas = let y : ℕ = z in let m : ℕ = w in let t1 : m + y ≤ 4096 = top in let e : a ≡ o.pool * 4096 + m + 1 = is in let p : o.pool < k.pools = inside_pools in let f : a + y ≤ k.pools * 4096 + 1 = omega arith in f
