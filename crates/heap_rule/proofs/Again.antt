-- Places that have changed in other things than label and shape.
use Rattle.std.proofs.Common.{◌≡◌, ℕ, ◌+◌, ◌*◌, ◌≤◌, ◌⊎◌, List, Option, Some, None, sym, ◌∙◌, subst, inl, inr, ⊎_elim, arith}
use Rattle.model_core.specs.declared.label.Label.{Label}
use Rattle.model_core.specs.Fronts.{Shape}
use Rattle.heap_words.specs.Labels.{IsPackableLabel}
use Rattle.heap_rule.specs.declared.config.Config.{Config}
use Rattle.heap_rule.specs.declared.view.DomainView.{DomainView}
use Rattle.heap_rule.specs.Ephemerons.{IsEpheAt}
use Rattle.heap_rule.specs.Layout.{heap_words, base_of, at_address}
use Rattle.heap_rule.specs.Places.{Place, Live, extent, span, Spread, HasClass, IsPackableShape, Fits, Placed, More}
use Rattle.heap_rule.specs.Pools.{Holder, Tenancy, Lot, Pools, Grid, place_in, size_of}
use Rattle.heap_rule.specs.Room.{Opened}
use Rattle.heap_rule.specs.Rule.{Area}
use Rattle.heap_rule.proofs.Classes.{slot_inside}
use Rattle.heap_rule.proofs.Lots.{place_cases}

-- the block at an address was there before
pub record Was (live : Live) (b : ℕ) (q : Place) : Type 0 where
  pub place : Place
  pub lives : live b ≡ Some place
  pub label : place.label ≡ q.label
  pub shape : place.shape ≡ q.shape
  pub forward : place.forward ≡ q.forward

abbrev pub Back : Live → Live → Type 0
Back live live' = (b : ℕ) (q : Place) → live' b ≡ Some q → Was live b q

-- an ephemeron that was there
pub ephe_back : (live live' : Live) → Back live live' → (a : ℕ) → IsEpheAt live' a → IsEpheAt live a
ephe_back live live' back a e = let w = back a e.place e.lives in record { place = w.place; lives = w.lives; keys = e.keys; shape = w.shape ∙ e.shape }

pub fits_back : (k : Config) (b : ℕ) (p q : Place) → p.label ≡ q.label → p.shape ≡ q.shape → Fits k b p → Fits k b q
fits_back k b p q label shape f = record {
  low = f.low;
  high = subst (λ (s : Shape). b + extent s ≤ heap_words k + 1) shape f.high;
  classed = subst (λ (s : Shape). HasClass (extent s)) shape f.classed;
  head = subst IsPackableShape shape f.head;
  label = subst (λ (l : Label). IsPackableLabel (l.domain, l.serial)) label f.label;
  pooled = λ keys is. f.pooled keys (shape ∙ is);
}

-- what was met lies in the heap
pub met_fits : (k : Config) (met live : Live) → More met live → Placed k live → (a : ℕ) (p : Place) → met a ≡ Some p → Fits k a p
met_fits k met live more placed a p e = let l = more a p e in fits_back k a l.place p l.label l.shape (placed.fits a l.place l.lives)

pub placed_back : (k : Config) (live live' : Live) → Back live live' → Placed k live → Placed k live'
placed_back k live live' back p = record {
  fits = λ b q lives. let w = back b q lives in fits_back k b w.place q w.label w.shape (p.fits b w.place w.lives);
  once = λ b c q o lives lives' same f g. let w = back b q lives in let v = back c o lives' in p.once b c w.place v.place w.lives v.lives (w.label ∙ (same ∙ sym v.label)) (w.forward ∙ f) (v.forward ∙ g);
  apart = λ b c q o lives lives' differ. let w = back b q lives in let v = back c o lives' in
      subst (λ (s : Shape × Shape). (b + extent s.0 ≤ c) ⊎ (c + extent s.1 ≤ b)) (λ i. (w.shape i, v.shape i)) (p.apart b c w.place v.place w.lives v.lives differ);
}

pub area_back : (k : Config) (live live' : Live) (z : DomainView) → Back live live' → Area k live z → Area k live' z
area_back k live live' z back a = record {
  room = a.room;
  free = λ b q lives. let w = back b q lives in
      subst (λ (s : Shape). (b + extent s ≤ base_of k z.own.number + z.own.used) ⊎ (base_of k z.own.number + k.minor_words ≤ b)) w.shape (a.free b w.place w.lives);
  classes = λ b q lives young. let w = back b q lives in
      subst (λ (s : Shape). (b + span s ≤ base_of k z.own.number + z.own.used) ⊎ (base_of k z.own.number + k.minor_words ≤ b)) w.shape (a.classes b w.place w.lives young);
}

pub spread_back : (k : Config) (live live' : Live) → Back live live' → Spread k live → Spread k live'
spread_back k live live' back s = record {
  apart = λ b c q o lives lives' young before. let w = back b q lives in let v = back c o lives' in subst (λ (z : Shape). b + span z ≤ c) w.shape (s.apart b c w.place v.place w.lives v.lives young before);
  inside = λ b q lives young. let w = back b q lives in subst (λ (z : Shape). b + span z ≤ heap_words k + 1) w.shape (s.inside b w.place w.lives young);
}

pub opened_back : (k : Config) (live live' : Live) (words : List ℕ) → Back live live' → Opened k live words → Opened k live' words
opened_back k live live' words back o b q lives young = let w = back b q lives in o b w.place w.lives young

pub lots_back : (k : Config) (holder : ℕ → Holder) (live live' : Live) → Back live live' → ((b : ℕ) (p : Place) → live b ≡ Some p → b ≤ k.pools * 4096 → Lot holder b p) → (b : ℕ) (q : Place) → live' b ≡ Some q → b ≤ k.pools * 4096 → Lot holder b q
lots_back k holder live live' back lots b q lives low = let w = back b q lives in let l = lots b w.place w.lives low in
    record { pool = l.pool; domain = l.domain; class = l.class; slot = l.slot; owned_is = l.owned_is; inside = l.inside; begins = l.begins; fits = subst (λ (s : Shape). extent s ≤ size_of l.class) w.shape l.fits }

-- where nothing came to live, nothing lives there
pub none_back : (live live' : Live) (a : ℕ) → Back live live' → live a ≡ None → live' a ≡ None
none_back live live' a back none = ⊎_elim (λ (e : live' a ≡ None). e) (λ (t : (q : Place) × (live' a ≡ Some q)). let w = back a t.0 t.1 in absurd (let e : ◌≡◌ {A = Option Place} None (Some w.place) = sym none ∙ w.lives in cc)) (place_cases (live' a))

pub grid_back : (k : Config) (t : Tenancy) (live live' : Live) (words : List ℕ) → Back live live' → More live live' → Grid k t live words → Grid k t live' words
grid_back k t live live' words back more g = record {
  lots = lots_back k t.holder live live' back g.lots;
  places = λ q d c slot is inside. ⊎_elim (λ (z : at_address k words (place_in q c slot) ≡ 0). inl z)
      (λ z. inr (⊎_elim (λ (y : (p : Place) × (live (place_in q c slot) ≡ Some p)). let m = more (place_in q c slot) y.0 y.1 in inl (m.place, m.lives)) (λ y. inr y) z))
      (g.places q d c slot is inside);
  spares = λ a d is. let s = g.spares a d is in record { own = s.own; head = s.head; empty = none_back live live' a back s.empty };
}

-- a block that begins in the pools ends there
pub ends_low : (k : Config) (t : Tenancy) (live : Live) (words : List ℕ) (a : ℕ) (p : Place) → Pools k t words → Grid k t live words → live a ≡ Some p → a ≤ k.pools * 4096 → a + extent p.shape ≤ k.pools * 4096 + 1
ends_low k t live words a p pools g lives low =
    let l = g.lots a p lives low in
    let o = pools.owned_by l.pool l.domain l.class l.owned_is in
    let s : ℕ = l.slot * size_of l.class in
    let z : ℕ = size_of l.class in
    let top : s + z ≤ 4096 = slot_inside l.class l.slot o.2 l.inside in
    let n : ℕ = extent p.shape in
    let f : n ≤ z = l.fits in
    let e : a ≡ l.pool * 4096 + s + 1 = l.begins in
    let q = o.0 in let g : a + n ≤ k.pools * 4096 + 1 = omega arith in g
