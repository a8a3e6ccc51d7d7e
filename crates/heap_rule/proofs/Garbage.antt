-- Garbage stays where a step neither frees it nor makes any, and so does what a domain knows of it.
use Rattle.std.proofs.Common.{◌≡◌, ℕ, ◌+◌, ◌*◌, ◌<◌, ◌≤◌, ◌⊎◌, Bool, false, IsTrue, List, None, sym, refl, ap, ◌∙◌, subst, arith, ⊎_elim}
use Rattle.std.proofs.lemmas.Bool.{cases_Bool}
use Rattle.model_core.specs.Domains.{class_count}
use Rattle.heap_rule.specs.declared.config.Config.{Config}
use Rattle.heap_rule.specs.declared.phase.Kind.{Kind}
use Rattle.heap_rule.specs.declared.view.Reaping.{Reaping}
use Rattle.heap_rule.specs.declared.view.Reaping.TheVariants.{Outside, Inside, AtGarbage}
use Rattle.heap_rule.specs.declared.view.Swept.{Swept}
use Rattle.heap_rule.specs.Cycles.{Cycling, IsGarbageHead, Leaves}
use Rattle.heap_rule.specs.Layout.{at_address}
use Rattle.heap_rule.specs.Places.{Live, Paint}
use Rattle.heap_rule.specs.Pools.{Pools, Tenancy, blocks_of, owned, place_in, size_of}
use Rattle.heap_rule.specs.Sweeping.{Reaps, Sweeps}
use Rattle.heap_rule.proofs.Classes.{size_least, slot_inside}
use Rattle.heap_rule.proofs.EphemeronLemmas.{own_place_on}
use Rattle.heap_rule.proofs.OwnPlaces.{owned_same}

-- What a step owes that neither frees garbage nor makes any
pub record KeepsGarbage (k : Config) (live' : Live) (t t' : Tenancy) (words words' : List ℕ) : Type 0 where
  pub same : (a : ℕ) → t'.garbage a ≡ t.garbage a
  pub dead : (a : ℕ) → IsTrue (t.garbage a) → live' a ≡ None
  pub unprepared : (a : ℕ) → IsTrue (t.garbage a) → t'.prepared a ≡ None
  pub heads : (a : ℕ) → IsTrue (t.garbage a) → at_address k words' a ≡ at_address k words a
  pub held : (q d c : ℕ) → t.holder q ≡ owned d c → t'.holder q ≡ owned d c

-- a place is one pool's
pub same_pool : (q c slot p b i : ℕ) → c < class_count → b < class_count → slot < blocks_of c → i < blocks_of b → place_in q c slot ≡ place_in p b i → q ≡ p
same_pool q c slot p b i few few' inside inside' same =
    let u : ℕ = slot * size_of c in
    let z : ℕ = size_of c in
    let v : ℕ = i * size_of b in
    let w : ℕ = size_of b in
    let top : u + z ≤ 4096 = slot_inside c slot few inside in
    let top' : v + w ≤ 4096 = slot_inside b i few' inside' in
    let large : 4 ≤ z = size_least c few in
    let large' : 4 ≤ w = size_least b few' in
    let e : q * 4096 + u + 1 ≡ p * 4096 + v + 1 = same in omega arith

module _ (k : Config) (live : Live) (t : Tenancy) (c : Cycling) (words : List ℕ) (l : Leaves k live t c words) where
  -- nothing happens to it
  pub garbage_same : KeepsGarbage k live t t words words
  garbage_same = record { same = λ a. refl; dead = l.dead; unprepared = l.unprepared; heads = λ a _. refl; held = λ q d b e. e }

  module _ (live' : Live) (t' : Tenancy) (words' : List ℕ) (g : KeepsGarbage k live' t t' words words') where
    was : (a : ℕ) → IsTrue (t'.garbage a) → IsTrue (t.garbage a)
    was a is = sym (g.same a) ∙ is

    pub leaves_on : (c' : Cycling) → c'.paint ≡ c.paint → c'.rotated ≡ c.rotated → c'.unswept ≡ c.unswept → Leaves k live' t' c' words'
    leaves_on c' paint rotated unswept = record {
      none = λ e f a. g.same a ∙ l.none (sym rotated ∙ e) (sym unswept ∙ f) a;
      dead = λ a is. g.dead a (was a is);
      head = λ a is. subst (λ (z : Paint). IsGarbageHead z (at_address k words' a)) (sym paint) (let h = l.head a (was a is) in (h.0, h.1, g.heads a (was a is) ∙ h.2));
      unprepared = λ a is. g.unprepared a (was a is);
      owned = λ a is. let o = l.owned a (was a is) in (o.0, own_place_on t.holder t'.holder a o.0 (λ q b e. g.held q o.0 b e) o.1);
    }

    -- what a domain knows of it, whose own pools lie below another top now
    pub sweeps_on : Pools k t words → ((q d b : ℕ) → t'.holder q ≡ owned d b → b < class_count) → (kind : Kind) (arrived : ℕ → Bool) (d : ℕ) (items : List ℕ) (swept : Swept) (reaping : Reaping) (top : ℕ)
        → swept.top ≤ top → ((q b : ℕ) → t'.holder q ≡ owned d b → (t.holder q ≡ owned d b) ⊎ (q < top))
        → Sweeps t.holder t.garbage kind arrived d items swept reaping → Sweeps t'.holder t'.garbage kind arrived d items (record swept { top = top }) reaping
    sweeps_on pools few kind arrived d items swept reaping top higher gained s = record {
      listed = λ i a low got. g.same a ∙ s.listed i a low got;
      places = λ q b slot is inside before. g.same (place_in q b slot) ∙ ⊎_elim
          (λ (dead : IsTrue (t.garbage (place_in q b slot))).
          let h = l.owned (place_in q b slot) dead in
          let o = h.1 in
          let pool : q ≡ o.pool = same_pool q b slot o.pool o.class o.slot (few q d b is) (pools.owned_by o.pool h.0 o.class o.owned_is).2 inside o.inside o.begins in
          let same = owned_same h.0 d o.class b (sym (g.held o.pool h.0 o.class o.owned_is) ∙ (sym (ap t'.holder pool) ∙ is)) in
          s.places q b slot (ap t.holder pool ∙ (o.owned_is ∙ ap (λ (z : ℕ × ℕ). owned z.0 z.1) (λ j. (same.0 j, same.1 j)))) inside before)
          (λ (clean : t.garbage (place_in q b slot) ≡ false). clean)
          (cases_Bool (t.garbage (place_in q b slot)));
      anew = λ e up. ap (λ (w : Swept). record w { top = top }) (s.anew e up);
      reaps = reaps_on reaping s.reaps;
      below = λ q b is. ⊎_elim (λ (was : t.holder q ≡ owned d b). let old = s.below q b was in omega arith) (λ (low : q < top). low) (gained q b is);
    } where
      reaps_on : (r : Reaping) → Reaps t.holder t.garbage d r → Reaps t'.holder t'.garbage d r
      reaps_on Outside r = tt
      reaps_on (Inside pool class) r = g.held pool d class r
      reaps_on (AtGarbage pool class slot) r = (g.held pool d class r.0, r.1, g.same (place_in pool class slot) ∙ r.2)
