-- A place that is prepared for a copy.
use Rattle.std.proofs.Common.{◌≡◌, ◌≢◌, ℕ, zero, suc, ◌+◌, ◌-◌, ◌*◌, ◌/◌, ◌%◌, ◌<◌, ◌≤◌, List, [], ◌∷◌, length, set, Option, Some, None, sym, refl, ap, ◌∙◌, subst, arith, get_or-set_same, get_or-set_other}
use mathlib.Core.Logic.{dite}
use native.Mathlib.Decide.{ℕ_discrete}
use Rattle.std.proofs.lemmas.Nat.{div-mul-add}
use Rattle.model_core.specs.Domains.{class_count}
use Rattle.heap_rule.specs.declared.config.Config.{Config}
use Rattle.heap_rule.specs.declared.view.Hunt.TheVariants.{Rests, Fills, Labels, Heads}
use Rattle.heap_rule.specs.declared.view.Search.{Search}
use Rattle.heap_rule.specs.declared.view.Spot.{Spot}
use Rattle.heap_rule.specs.declared.view.DomainView.{DomainView}
use Rattle.heap_rule.specs.Pools.{size_of, blocks_of, place_in, prepared_at, hunting_below}
use Rattle.heap_rule.specs.Standing.{IsInHeap}
use Rattle.heap_rule.proofs.Classes.{size_least, slot_inside}
use Rattle.step_promote.specs.Promotion.{LabelMet}
use Rattle.step_promote.specs.Claims.{with_hunt, preparing, PrepareMay, PrepareTold, LabelStoreMay, LabelStoreTold, HeadStoreMay, HeadStoreTold}
use Rattle.do_alloc.specs.Pools.Taken.{Took}
use Rattle.gc_copy.specs.Working.{IsPlaceIn, Works, Prepared, Written}

-- where a place of a class lies
pub place_old : (k : Config) (class a : ℕ) → class < class_count → IsPlaceIn k class a → (1 ≤ a) × (a + 3 ≤ k.pools * 4096)
place_old k class a few p =
    let s = slot_inside class p.slot few p.below in
    let z : ℕ = size_of class in
    let least : 4 ≤ z = size_least class few in
    let m : ℕ = p.slot * z in
    let n : ℕ = p.pool in
    let q : ℕ = k.pools in
    let i : n < q = p.inside in
    let e : a ≡ n * 4096 + m + 1 = p.address in
    let h : m + z ≤ 4096 = s in (omega arith, omega arith)

pub place_inside : (k : Config) (class a : ℕ) → class < class_count → IsPlaceIn k class a → IsInHeap k a
place_inside k class a few p = let o = place_old k class a few p in let h : a + 3 ≤ k.pools * 4096 = o.1 in let w : ℕ = k.domains * k.minor_words in (o.0, let g : a ≤ k.pools * 4096 + w = omega arith in g)

pub place_label_inside : (k : Config) (class a : ℕ) → class < class_count → IsPlaceIn k class a → IsInHeap k (a + 1)
place_label_inside k class a few p = let o = place_old k class a few p in let h : a + 3 ≤ k.pools * 4096 = o.1 in let w : ℕ = k.domains * k.minor_words in (let g : 1 ≤ a + 1 = omega arith in g, let g : a + 1 ≤ k.pools * 4096 + w = omega arith in g)

-- the pool and the slot of a place, by its address
pub spot_is : (class at size pool slot : ℕ) → class < class_count → size ≡ size_of class → slot < blocks_of class → at ≡ place_in pool class slot → ◌≡◌ {A = Spot} (record { pool = (at - 1) / 4096; slot = (at - 1) % 4096 / size }) (record { pool = pool; slot = slot })
spot_is class at size pool slot few size_is below is =
    let s = slot_inside class slot few below in
    let z : ℕ = size_of class in
    let least : 4 ≤ z = size_least class few in
    let m : ℕ = slot * z in
    let h : m + z ≤ 4096 = s in
    let e : at ≡ pool * 4096 + m + 1 = is in
    let q : (at - 1) / 4096 ≡ pool = omega arith in
    let r : (at - 1) % 4096 ≡ m + 0 = omega arith in
    let d : (slot * z + 0) / z ≡ slot = div-mul-add slot z 0 (omega arith) in
    λ i. record { pool = q i; slot = (ap (λ (n : ℕ). n / size) r ∙ (ap (λ (n : ℕ). (m + 0) / n) size_is ∙ d)) i }

-- where no place is prepared for a class any more
pub set_none : (l : List (Option ℕ)) (c : ℕ) → prepared_at (set l c None) c ≡ None
set_none [] zero = refl
set_none [] (suc c) = refl
set_none (x ∷ xs) zero = refl
set_none (x ∷ xs) (suc c) = set_none xs c

-- a free place was taken
module _ (k : Config) (class a : ℕ) (x t : DomainView) (few : class < class_count) (w : Works k x) (took : Took k class a x t) (free : t.seen.free ≡ x.seen.free) where
  view_is : t ≡ hunting_below x t.own.swept.top t.own.looked (Fills took.pool class took.slot []) x.seen.free
  view_is = took.view ∙ ap (hunting_below x t.own.swept.top t.own.looked (Fills took.pool class took.slot [])) free

  pub took_place : IsPlaceIn k class a
  took_place = record { pool = took.pool; slot = took.slot; inside = took.inside; below = took.below; address = took.address }

  pub prepare_may : (spot : Spot) (new : ℕ) → new ≢ 0 → prepared_at x.own.prepared class ≡ None → spot ≡ record { pool = took.pool; slot = took.slot } → PrepareMay t a new spot.pool class spot.slot
  prepare_may spot new some none is = subst (λ (s : Spot). PrepareMay t a new s.pool class s.slot) (sym is) record {
    stage = ap (λ (z : DomainView). z.seen.stage) view_is ∙ w.stage;
    made = [];
    hunt = ap (λ (z : DomainView). z.seen.hunt) view_is;
    next = took.next;
    none = ap (λ (z : DomainView). prepared_at z.own.prepared class) view_is ∙ none;
    of_class = few;
    word = took.address;
    head = some;
  }

  pub prepared_now : (new : ℕ) (y : DomainView) → length x.own.prepared ≡ class_count → PrepareTold a class t new y → Prepared k class x y a
  prepared_now new y wide told =
      let L : List Search = t.own.looked in
      let y' : DomainView = record { own = record (preparing x.own class (Some a)) { looked = L; swept = record x.own.swept { top = t.own.swept.top } }; seen = record x.seen { hunt = Rests } } in
      let e : y ≡ y' = told ∙ ap (λ (z : DomainView). record { own = preparing z.own class (Some a); seen = record z.seen { hunt = Rests } }) view_is in
      let long : class < length x.own.prepared = subst (λ (n : ℕ). class < n) (sym wide) few in
      subst (λ (z : DomainView). Prepared k class x z a) (sym e) record {
        view = refl;
        works = record {
          stage = w.stage;
          at_rest = refl;
          fit = w.fit;
          placed = λ c b below is. dite (ℕ_discrete c class)
              (λ same. subst (λ (z : ℕ × ℕ). IsPlaceIn k z.0 z.1) (λ i. (sym same i, (let f : ◌≡◌ {A = Option ℕ} (Some a) (Some b) = sym (get_or-set_same x.own.prepared class (Some a) None long) ∙ (ap (prepared_at (set x.own.prepared class (Some a))) (sym same) ∙ is) in let g : a ≡ b = cc in g) i)) took_place)
              (λ other. w.placed c b below (sym (get_or-set_other x.own.prepared class c (Some a) None other) ∙ is));
          pairs = λ i c got. let p = w.pairs i c got in record { young = p.young; old = p.old; same = p.same };
        };
        copying = refl;
        pending = refl;
        colours = refl;
        armed = refl;
        here = get_or-set_same x.own.prepared class (Some a) None long;
      }

-- the label and the head of a block that was met are written to the place
module _ (k : Config) (x : DomainView) (w : Works k x) (young word class copy : ℕ) (few : class < class_count) (here : prepared_at x.own.prepared class ≡ Some copy) where
  pub label_may : (y : DomainView) → y ≡ x → LabelStoreMay y (copy + 1) class
  label_may y e = subst (λ (z : DomainView). LabelStoreMay z (copy + 1) class) (sym e) record { stage = w.stage; at_rest = w.at_rest; address = copy; of_class = few; prepared = here; word = refl }

  pub labelled : (y z : DomainView) (label : ℕ) → y ≡ x → LabelStoreTold class y label z → z ≡ with_hunt x (Labels copy label)
  labelled y z label e told =
      let f : ◌≡◌ {A = Option ℕ} (Some told.address) (Some copy) = sym told.prepared ∙ (ap (λ (v : DomainView). prepared_at v.own.prepared class) e ∙ here) in
      let g : told.address ≡ copy = cc in told.view ∙ (λ i. with_hunt (e i) (Labels (g i) label))

  pub head_may : (z : DomainView) (label : ℕ) → word ≢ 0 → z ≡ with_hunt x (Labels copy label) → HeadStoreMay z copy word
  head_may z label some e = subst (λ (v : DomainView). HeadStoreMay v copy word) (sym e) record { stage = w.stage; label = label; hunt = refl; head = some }

  pub headed : (z v : DomainView) (label : ℕ) → z ≡ with_hunt x (Labels copy label) → HeadStoreTold copy z word v → v ≡ with_hunt x (Heads copy label word)
  headed z v label e told =
      let f : Labels copy told.label ≡ Labels copy label = sym told.hunt ∙ ap (λ (y : DomainView). y.seen.hunt) e in
      let g : told.label ≡ label = cc in told.view ∙ (λ i. with_hunt (e i) (Heads copy (g i) word))

  pub written : (y z v : DomainView) (label : ℕ) → LabelMet young x label y → LabelStoreTold class y label z → HeadStoreTold copy z word v → Written young word copy x v
  written y z v label met told said = record {
    place = met.place;
    met = met.met;
    view = headed z v label (labelled y z label met.view told) said ∙ ap (λ (n : ℕ). with_hunt x (Heads copy n word)) met.word;
  }
