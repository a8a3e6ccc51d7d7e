-- A free place that the domain took is prepared for a copy: the first store to its head.
use Rattle.std.proofs.Common.{◌≡◌, ◌≢◌, ℕ, ◌+◌, ◌<◌, ◌≤◌, List, length, get_or, set, Option, Some, None, sym, refl, ap, ◌∙◌, subst, inl, inr, ⊎_elim, arith, length-set, get_or-set_same, get_or-set_other, IsTrue}
use mathlib.Core.Logic.{dite}
use native.Mathlib.Decide.{ℕ_discrete}
use mathlib.Core.Option.{some}
use lib.ListN.{get_elem?}
use Rattle.atomic_table.specs.Table.{keeps}
use Rattle.model_core.specs.declared.entry.Entry.{Entry}
use Rattle.model_core.specs.Domains.{class_count}
use Rattle.heap_rule.specs.declared.config.Config.{Config}
use Rattle.heap_rule.specs.declared.view.Hunt.TheVariants.{Rests}
use Rattle.heap_rule.specs.declared.view.Own.{Own}
use Rattle.heap_rule.specs.declared.view.Spot.{Spot}
use Rattle.heap_rule.specs.declared.view.DomainView.{DomainView}
use Rattle.heap_rule.specs.declared.phase.Kind.TheVariants.{Promote}
use Rattle.heap_rule.specs.declared.phase.Stage.TheVariants.{In}
use Rattle.heap_rule.specs.Layout.{before_heap, at_address}
use Rattle.heap_rule.specs.Places.{Place}
use Rattle.heap_rule.specs.Pools.{limit_of, owned, drawn_in, Tenancy, Filling, Hunts, Hunter, OwnPlace, IsSpare, Grid, Latest, DrawsFor, Drawers, IsCopying, IsBefore, IsPassed, place_of, search_at, place_in, blocks_of, prepared_at}
use Rattle.heap_rule.specs.Raw.{MayStore, Written, Closes}
use Rattle.heap_rule.specs.Rule.{state_of, Rule}
use Rattle.heap_rule.specs.Token.{OwnFits}
use Rattle.heap_rule.specs.Views.{one}
use Rattle.step_promote.specs.Claims.{preparing, PrepareMay, PrepareTold}
use Rattle.step_promote.specs.Writes.{CanPrepare, Prepares}
use Rattle.heap_rule.proofs.Fits.{prepared_fits}
use Rattle.heap_rule.proofs.Holders.{SameFor, agrees_same, hunter_agree, stock_self}
use Rattle.heap_rule.proofs.Keeps.{Words, my_good, control_set, owes_as, more_same}
use Rattle.heap_rule.proofs.PauseFacts.{promote_now, promote_here}
use Rattle.heap_rule.proofs.Lots.{garbage_full, head_full, hunter_beside, place_cases}
use Rattle.heap_rule.proofs.Update.{over, over_here, over_else}
use Rattle.step_promote.proofs.OwnPlaces as places
use Rattle.step_promote.proofs.OwnPlaces.{place_sole, same_prepared}
use Rattle.step_promote.proofs.Registers.{promote_once}
use Rattle.step_promote.proofs.Remaking.{keeps_blocks, stood_same, no_spare}
use Rattle.std.proofs.lemmas.Option.{none-some, same_Some}

-- the list of prepared places with another for a class
pub prepared_here : (l : List (Option ℕ)) (class : ℕ) (v : Option ℕ) → length l ≡ class_count → class < class_count → prepared_at (set l class v) class ≡ v
prepared_here l class v wide few = get_or-set_same l class v None (subst (λ (n : ℕ). class < n) (sym wide) few)

pub prepared_else : (l : List (Option ℕ)) (class c : ℕ) (v : Option ℕ) → c ≢ class → prepared_at (set l class v) c ≡ prepared_at l c
prepared_else l class c v other = get_or-set_other l class c v None other

module _ (k : Config) (s : Words) (r : Rule k s) (id : ℕ) (hist : List Entry) (x : DomainView) (at : get_elem? s.views id ≡ some (one k hist x)) (wide : length x.own.prepared ≡ class_count)
    (a new pool class slot : ℕ) (may : PrepareMay x a new pool class slot) where
  open r.account use {tenancy as t, live}
  open x use {own.{number as me}}

  H : Hunter k t s.words x
  H = (my_good k s r id hist x at).hunter

  F : Filling k t.holder s.words me pool class slot may.made
  F = subst (Hunts k t s.words me) may.hunt (my_good k s r id hist x at).hunter.hunt

  free : at_address k s.words a ≡ 0
  free = ap (at_address k s.words) may.word ∙ F.free

  o : OwnPlace t.holder a me
  o = record { pool = pool; class = class; slot = slot; owned_is = F.own_is; inside = F.inside; begins = may.word }

  empty : live a ≡ None
  empty = ⊎_elim (λ (e : live a ≡ None). e) (λ (h : (q : Place) × (live a ≡ Some q)). absurd (head_full k r.account.cycling.paint live (state_of k r.account.log).graph s.words a h.0 (r.whole.found a h.0 h.1) free)) (place_cases (live a))

  -- no garbage lies at it
  clean : (b : ℕ) → IsTrue (t.garbage b) → b ≢ a
  clean b is same = garbage_full k live t r.account.cycling s.words r.whole.cycle.leaves b is (ap (at_address k s.words) same ∙ free)

  -- the head is the first word
  head_at : a + 0 ≡ a
  head_at = omega arith

  abbrev ws : List ℕ
  ws = set s.words (before_heap k + (a + 0)) new

  abbrev prepared' : ℕ → Option ℕ
  prepared' = over a (Some me) t.prepared

  abbrev t' : Tenancy
  t' = record t { prepared = prepared' }

  written : at_address k ws a ≡ new
  written = ap (λ (n : ℕ). at_address k ws n) (sym head_at) ∙ get_or-set_same s.words (before_heap k + (a + 0)) new 0 (places.in_heap k s r id hist x at a o empty 0 (omega arith))

  -- nobody had prepared the place
  unprepared : (d : ℕ) → t.prepared a ≡ Some d → ⊥
  unprepared d is = (r.whole.grid.spares a d is).head free

  stays : (q d c j : ℕ) → t.holder q ≡ owned d c → j < blocks_of c → place_in q c j ≢ a → at_address k ws (place_in q c j) ≡ at_address k s.words (place_in q c j)
  stays = places.place_again k s r id hist x at a o empty 0 new (omega arith)

  grid' : Grid k t' live ws
  grid' = record {
    lots = r.whole.grid.lots;
    places = λ q d c j owned_is below. dite (ℕ_discrete (place_in q c j) a)
        (λ same. let one_is = place_sole k t s.words q d c j pool me class slot r.whole.pools owned_is below F.own_is F.inside (same ∙ may.word) in
        inr (inr (inl (ap prepared' same ∙ (over_here a (Some me) t.prepared ∙ ap Some (sym one_is.1))))))
        (λ other. ⊎_elim (λ (z : at_address k s.words (place_in q c j) ≡ 0). inl (stays q d c j owned_is below other ∙ z))
        (λ z. inr (⊎_elim (λ (y : (p : Place) × (live (place_in q c j) ≡ Some p)). inl y) (λ y. inr (⊎_elim (λ (e : t.prepared (place_in q c j) ≡ Some d). inl (over_else a (Some me) t.prepared (place_in q c j) other ∙ e)) (λ (e : IsTrue (t.garbage (place_in q c j))). inr e) y)) z))
        (r.whole.grid.places q d c j owned_is below));
    spares = λ b d is. dite (ℕ_discrete b a)
        (λ same. let d_is : me ≡ d = same_Some me d (sym (over_here a (Some me) t.prepared) ∙ (ap prepared' (sym same) ∙ is)) in
        subst (λ (z : ℕ × ℕ). IsSpare k t.holder live ws z.0 z.1) (λ i. (sym same i, d_is i)) record { own = o; head = λ e. may.head (sym written ∙ e); empty = empty })
        (λ other. let sp = r.whole.grid.spares b d (sym (over_else a (Some me) t.prepared b other) ∙ is) in let own = sp.own in record {
          own = own;
          head = λ e. sp.head (ap (at_address k s.words) own.begins ∙ (sym (stays own.pool d own.class own.slot own.owned_is own.inside (λ same. other (own.begins ∙ same))) ∙ (ap (at_address k ws) (sym own.begins) ∙ e)));
          empty = sp.empty;
        });
  }

  -- others see their own places as before
  same_for : (d : ℕ) → d ≢ me → SameFor t t' d
  same_for d other = same_prepared t prepared' t.stock d (λ b e. over_else a (Some me) t.prepared b (λ same. unprepared d (ap t.prepared (sym same) ∙ e)) ∙ e)
      (λ b e. dite (ℕ_discrete b a)
      (λ same. absurd (other (sym (same_Some me d (sym (over_here a (Some me) t.prepared) ∙ (ap prepared' (sym same) ∙ e))))))
      (λ differs. sym (over_else a (Some me) t.prepared b differs) ∙ e))
      (stock_self t.stock d)

  hunters' : (z : DomainView) → z.own.number ≢ me → Hunter k t s.words z → Hunter k t' ws z
  hunters' z other h = hunter_agree k t t' ws ws (agrees_same k ws) z (omega arith) (same_for z.own.number other)
      (hunter_beside k t s.words (a + 0) new r.whole.pools z (places.others_beside k s r id hist x at a o empty 0 new (omega arith) z.own.number other) h)

  abbrev y : DomainView
  y = record { own = preparing x.own class (Some a); seen = record x.seen { hunt = Rests } }

  control' : (i : ℕ) → i ≤ before_heap k → get_or ws i 0 ≡ get_or s.words i 0
  control' = control_set k s.words (a + 0) new (let l : 1 ≤ a = places.low k s r id hist x at a o empty in omega arith)

  -- of the pool drawn last the place taken is the first free one
  latest' : (c : ℕ) → c < class_count → Latest k t s.words me c → Latest k t' ws me c
  latest' c few l = record {
    own_is = l.own_is;
    few = l.few;
    enough = l.enough;
    rest = λ j from below. dite (ℕ_discrete (place_in (t.stock.latest me c) c j) a)
        (λ same.
        let one_is = place_sole k t s.words (t.stock.latest me c) me c j pool me class slot r.whole.pools l.own_is below F.own_is F.inside (same ∙ may.word) in
        inr (first c l j from below one_is, ap prepared' same ∙ over_here a (Some me) t.prepared))
        (λ other. ⊎_elim (λ (z : at_address k s.words (place_in (t.stock.latest me c) c j) ≡ 0). inl (stays (t.stock.latest me c) me c j l.own_is below other ∙ z))
        (λ (z : (j ≡ t.stock.used me c) × (t.prepared (place_in (t.stock.latest me c) c j) ≡ Some me)). inr (z.0, over_else a (Some me) t.prepared (place_in (t.stock.latest me c) c j) other ∙ z.1))
        (l.rest j from below));
  } where
    first : (c : ℕ) (l : Latest k t s.words me c) (j : ℕ) → t.stock.used me c ≤ j → j < blocks_of c → (t.stock.latest me c ≡ pool) × (me ≡ me) × (c ≡ class) × (j ≡ slot) → j ≡ t.stock.used me c
    first c l j from below one_is =
        let u : ℕ = t.stock.used me c in
        let q : ℕ = t.stock.latest me c in
        dite (ℕ_discrete j u)
        (λ eq. eq)
        (λ ne.
        let less : u < j = (let n : j ≢ u = ne in omega arith) in
        let u_below : u < blocks_of c = (let b : j < blocks_of c = below in omega arith) in
        let spot : place_of (search_at x.own.looked c) ≡ record { pool = pool; slot = slot } = ap (λ (n : ℕ). place_of (search_at x.own.looked n)) one_is.2 ∙ may.next in
        let before : IsPassed q u (search_at x.own.looked c) = inl (subst (IsBefore q u) (sym spot) (inr (one_is.0, subst (λ (n : ℕ). u < n) one_is.3 less))) in
        absurd (⊎_elim (λ (z : at_address k s.words (place_in q c u) ≡ 0). H.taken q c u l.own_is u_below before z)
        (λ (z : (u ≡ u) × (t.prepared (place_in q c u) ≡ Some me)). none-some (place_in q c u) (sym may.none ∙ (ap (prepared_at x.own.prepared) (sym one_is.2) ∙ H.prepared q c u l.own_is u_below z.1)))
        (l.rest u (omega arith) u_below)))

  hunter' : Hunter k t' ws y
  hunter' = record {
    hunt = tt;
    drawn_alone = λ q e. absurd (none-some q (ap drawn_in (sym may.hunt) ∙ H.drawn_alone q e));
    taken = λ q c j owned_is below low e. dite (ℕ_discrete (place_in q c j) a)
        (λ same. may.head (sym written ∙ (ap (at_address k ws) (sym same) ∙ e)))
        (λ other. H.taken q c j owned_is below low (sym (stays q me c j owned_is below other) ∙ e));
    free = λ f e. subst (λ (m : ℕ × ℕ). (m.0 ≤ f + m.1) × (m.0 ≤ f + limit_of k m.0) × (f ≤ m.0)) (λ i. (sym (control' 6 (omega arith)) i, sym (control' 7 (omega arith)) i)) (H.free f e);
    spare = λ u e. absurd (no_spare k s r id hist x at may.stage u e);
    holds = λ c b few e. dite (ℕ_discrete c class)
        (λ same. let b_is : a ≡ b = same_Some a b (sym (prepared_here x.own.prepared class (Some a) wide may.of_class) ∙ (ap (prepared_at (set x.own.prepared class (Some a))) (sym same) ∙ e)) in
        (ap prepared' (sym b_is) ∙ over_here a (Some me) t.prepared, (pool, slot, F.own_is ∙ ap (owned me) (sym same), subst (λ (z : ℕ). slot < blocks_of z) (sym same) F.inside, sym b_is ∙ (may.word ∙ ap (λ (z : ℕ). place_in pool z slot) (sym same)))))
        (λ other. let u = H.holds c b few (sym (prepared_else x.own.prepared class c (Some a) other) ∙ e) in
        (over_else a (Some me) t.prepared b (λ same. unprepared me (ap t.prepared (sym same) ∙ u.0)) ∙ u.0, u.1));
    prepared = λ q c j owned_is below e. dite (ℕ_discrete (place_in q c j) a)
        (λ same. let one_is = place_sole k t s.words q me c j pool me class slot r.whole.pools owned_is below F.own_is F.inside (same ∙ may.word) in
        ap (prepared_at (set x.own.prepared class (Some a))) one_is.2 ∙ (prepared_here x.own.prepared class (Some a) wide may.of_class ∙ ap Some (sym same)))
        (λ other. let old = H.prepared q c j owned_is below (sym (over_else a (Some me) t.prepared (place_in q c j) other) ∙ e) in
        prepared_else x.own.prepared class c (Some a) (λ same. none-some (place_in q c j) (sym may.none ∙ (ap (prepared_at x.own.prepared) (sym same) ∙ old))) ∙ old);
    claims = H.claims;
    supply = λ c few some. inr (latest' c few (⊎_elim (λ (h : DrawsFor c x.seen.hunt). absurd (subst (DrawsFor c) may.hunt h)) (λ (l : Latest k t s.words me c). l) (H.supply c few some)));
  }

  drawers' : Drawers r.account.pause t'
  drawers' = record {
    drawn = r.whole.drawers.drawn;
    prepared = λ b d is. dite (ℕ_discrete b a)
        (λ same. subst (IsCopying r.account.pause) (same_Some me d (sym (over_here a (Some me) t.prepared) ∙ (ap prepared' (sym same) ∙ is))) copying)
        (λ other. r.whole.drawers.prepared b d (sym (over_else a (Some me) t.prepared b other) ∙ is));
    claims = r.whole.drawers.claims;
  } where
    copying : IsCopying r.account.pause me
    copying = let st = (my_good k s r id hist x at).staged in (sym st.arrivals ∙ promote_here r.account.pause x may.stage st, promote_now r.account.pause x may.stage st)

  prepare_rule : Rule k record { words = ws; homes = s.homes; views = set s.views id (one k hist y) }
  prepare_rule =
      let G = my_good k s r id hist x at in
      let making = places.makings_again k s r id hist x at a o empty 0 new (omega arith) x G.making in
      keeps_blocks k s r id hist x at may.stage x.own.registers x.own.finalisers y.own.prepared x.own.looked Rests x.seen.copying ws prepared' record {
        wide = length-set s.words (before_heap k + (a + 0)) new;
        control = control';
        found = places.found_again k s r id hist x at a o empty 0 new (omega arith);
        garbage = places.garbage_again k s r id hist x at a o empty 0 new (omega arith) clean (Some me);
        grid = grid';
        drawers = drawers';
        stood = stood_same k s r id hist x at may.stage y refl refl refl refl live (more_same live);
        making = making;
        hunter = hunter';
        owes = owes_as k live x y refl refl refl refl G.owes;
        makings = places.makings_again k s r id hist x at a o empty 0 new (omega arith);
        hunters = hunters';
      }

pub prepare_may : (k : Config) (x : DomainView) (word a new pool class slot : ℕ) → word ≡ before_heap k + a → PrepareMay x a new pool class slot → MayStore k x word new (PrepareTold a class)
prepare_may k x word a new pool class slot place may fits slots id hist s r _ at _ =
    let y : DomainView = record { own = preparing x.own class (Some a); seen = record x.seen { hunt = Rests } } in (
      one k hist y,
      keeps,
      tt,
      subst (λ (n : ℕ). Rule k record { words = set s.words n new; homes = s.homes; views = set s.views id (one k hist y) }) (sym (place ∙ (let e : before_heap k + a ≡ before_heap k + (a + 0) = omega arith in e))) (prepare_rule k s r id hist x at fits.prepared a new pool class slot may),
      (refl, refl),
    )

-- it closes where the list of prepared places was written
pub prepared_closes : (k : Config) (x y : DomainView) (class : ℕ) (v : Option ℕ) (can : Own → Type 0) (writes : Own → Own → Type 0) → x.seen.stage ≡ In Promote → can x.own → ((own : Own) → writes x.own own → y.own ≡ own)
    → OwnFits k x.own → y.own ≡ preparing x.own class v → Written k x y can writes
prepared_closes k x y class v can writes promotes allowed wrote fits own = record {
  can_write = allowed;
  written = wrote;
  fits = subst (OwnFits k) (sym own) (prepared_fits k x.own (set x.own.prepared class v) (length-set x.own.prepared class v ∙ fits.prepared) fits);
  once = promote_once k x y promotes;
}

pub prepare_closes : (k : Config) (x : DomainView) (found a new pool class slot : ℕ) → PrepareMay x a new pool class slot → Closes k x found (PrepareTold a class) (λ own. CanPrepare class) (Prepares class a)
prepare_closes k x found a new pool class slot may y fits told = let own = ap (λ (z : DomainView). z.own) told in
    prepared_closes k x y class (Some a) (λ own. CanPrepare class) (Prepares class a) may.stage may.of_class (λ after wrote. own ∙ sym wrote) fits own
