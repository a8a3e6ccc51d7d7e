-- Places that are given back.
use Rattle.std.proofs.Common.{refl, ◌≡◌, ℕ, ◌<◌, Some, None, sym, subst, set, get_or-set_same, get_or-set_other, Option, ◌≤◌, ◌+◌, arith, ap, ◌∙◌, length, List, ◌≢◌}
use Rattle.model_core.specs.Domains.{class_count}
use Rattle.heap_rule.specs.declared.config.Config.{Config}
use Rattle.heap_rule.specs.declared.view.Search.{Search}
use Rattle.heap_rule.specs.declared.view.Spot.{Spot}
use Rattle.heap_rule.specs.declared.view.DomainView.{DomainView}
use Rattle.heap_rule.specs.Pools.{prepared_at, freed_at, search_at}
use Rattle.step_promote.specs.Claims.{FreeMay, freed, FreedTold}
use Rattle.gc_copy.specs.Working.{with_claims}
use Rattle.gc_copy.specs.Sharing.{Gives}
use mathlib.Core.Logic.{dite}
use native.Mathlib.Decide.{ℕ_discrete}

module _ (k : Config) (class a : ℕ) (x y : DomainView) (few : class < class_count) (g : Gives k class x y) (here : prepared_at y.own.prepared class ≡ Some a) where
  pub free_may : (spot : Spot) → spot ≡ record { pool = (g.placed class a few here).pool; slot = (g.placed class a few here).slot } → FreeMay y a spot.pool class spot.slot
  free_may spot is = let p = g.placed class a few here in
      subst (λ (s : Spot). FreeMay y a s.pool class s.slot) (sym is) record { stage = g.stage; at_rest = g.at_rest; of_class = few; prepared = here; word = p.address; inside = p.below }

-- a place is given back
pub gives_next : (k : Config) (class : ℕ) (x y z : DomainView) (looked : List Search) → class < class_count → length y.own.prepared ≡ class_count → Gives k class x y → z ≡ freed y class looked → Gives k (class + 1) x z
gives_next k class x y z looked few wide g e =
    let f : z ≡ freed (with_claims x y) class looked = e ∙ ap (λ (v : DomainView). freed v class looked) g.view in
    let prepared : (c : ℕ) → prepared_at z.own.prepared c ≡ prepared_at (set y.own.prepared class None) c = (λ c. ap (λ (v : DomainView). prepared_at v.own.prepared c) e) in
    let long : class < length y.own.prepared = subst (λ (n : ℕ). class < n) (sym wide) few in record {
      view = f ∙ ap (with_claims x) (sym f);
      stage = ap (λ (v : DomainView). v.seen.stage) e ∙ g.stage;
      at_rest = ap (λ (v : DomainView). v.seen.hunt) e ∙ g.at_rest;
      copying = ap (λ (v : DomainView). v.seen.copying) e ∙ g.copying;
      placed = λ c a below is. dite (ℕ_discrete c class)
          (λ same. absurd (no_place a (sym (get_or-set_same y.own.prepared class None None long) ∙ (ap (prepared_at (set y.own.prepared class None)) (sym same) ∙ (sym (prepared c) ∙ is)))))
          (λ other. g.placed c a below (sym (get_or-set_other y.own.prepared class c None None other) ∙ (sym (prepared c) ∙ is)));
      none = λ c below. prepared c ∙ dite (ℕ_discrete c class)
          (λ same. ap (prepared_at (set y.own.prepared class None)) same ∙ get_or-set_same y.own.prepared class None None long)
          (λ other. get_or-set_other y.own.prepared class c None None other ∙ g.none c (let h : c < class + 1 = below in let n : c ≢ class = other in omega arith));
    } where
      no_place : (a : ℕ) → ◌≡◌ {A = Option ℕ} None (Some a) → ⊥
      no_place a h = cc

-- wherever the search goes on from
pub gives_freed : (k : Config) (class pool slot : ℕ) (x y z : DomainView) → class < class_count → length y.own.prepared ≡ class_count → Gives k class x y → FreedTold pool class slot y 0 z → Gives k (class + 1) x z
gives_freed k class pool slot x y z few wide g told = gives_next k class x y z (set y.own.looked class (freed_at pool slot (search_at y.own.looked class))) few wide g told

-- none was prepared
pub gives_none : (k : Config) (class : ℕ) (x y : DomainView) → Gives k class x y → prepared_at y.own.prepared class ≡ None → Gives k (class + 1) x y
gives_none k class x y g none = record {
  view = g.view;
  stage = g.stage;
  at_rest = g.at_rest;
  copying = g.copying;
  placed = g.placed;
  none = λ c below. dite (ℕ_discrete c class) (λ same. ap (prepared_at y.own.prepared) same ∙ none) (λ other. g.none c (let h : c < class + 1 = below in let n : c ≢ class = other in omega arith));
}

-- from where a domain stands
pub gives_here : (k : Config) (class : ℕ) (x y : DomainView) → Gives k class x y → Gives k class y y
gives_here k class x y g = record { view = refl; stage = g.stage; at_rest = g.at_rest; copying = refl; placed = g.placed; none = g.none }

-- one class after another
pub gives_on : (k : Config) (class : ℕ) (x y z : DomainView) → Gives k class x y → Gives k (class + 1) y z → Gives k (class + 1) x z
gives_on k class x y z g h = record {
  view = h.view ∙ ap (λ (v : DomainView). with_claims v z) g.view;
  stage = h.stage;
  at_rest = h.at_rest;
  copying = h.copying ∙ g.copying;
  placed = h.placed;
  none = h.none;
}
