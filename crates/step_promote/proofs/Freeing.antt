-- A prepared place is given back, and the words of one are written.
use Rattle.std.proofs.Common.{◌≡◌, ◌≢◌, ℕ, ◌+◌, ◌*◌, ◌<◌, ◌≤◌, List, length, get_or, set, Option, Some, None, sym, refl, ap, ◌∙◌, subst, inl, inr, ⊎_elim, arith, lt_of_not-le, length-set, get_or-set_same, get_or-set_other, IsTrue}
use mathlib.Core.Logic.{dite}
use native.Mathlib.Decide.{ℕ_discrete, dec_le}
use mathlib.Core.Option.{some}
use lib.ListN.{get_elem?}
use Rattle.atomic_table.specs.Table.{keeps}
use Rattle.model_core.specs.declared.entry.Entry.{Entry}
use Rattle.model_core.specs.Domains.{class_count}
use Rattle.heap_rule.specs.declared.config.Config.{Config}
use Rattle.heap_rule.specs.declared.view.Hunt.{Hunt}
use Rattle.heap_rule.specs.declared.view.Hunt.TheVariants.{Rests, Labels, Heads}
use Rattle.heap_rule.specs.declared.view.Search.{Search}
use Rattle.heap_rule.proofs.Searches.{looks_freed, passed_freed}
use Rattle.heap_rule.specs.declared.view.DomainView.{DomainView}
use Rattle.heap_rule.specs.declared.phase.Kind.TheVariants.{Promote}
use Rattle.heap_rule.specs.declared.phase.Stage.TheVariants.{In}
use Rattle.heap_rule.specs.Layout.{before_heap, at_address}
use Rattle.heap_rule.specs.Places.{Place}
use Rattle.heap_rule.specs.Pools.{limit_of, owned, drawn_in, Tenancy, Hunts, Hunter, OwnPlace, Grid, Latest, DrawsFor, IsPassed, freed_at, search_at, place_in, size_of, blocks_of, prepared_at}
use Rattle.heap_rule.specs.Raw.{MayStore, Closes}
use Rattle.heap_rule.specs.Rule.{Rule}
use Rattle.heap_rule.specs.Token.{OwnFits}
use Rattle.heap_rule.specs.Views.{one}
use Rattle.step_promote.specs.Claims.{preparing, with_hunt, LabelStoreMay, LabelStoreTold, HeadStoreMay, HeadStoreTold, FreeMay, freed, FreedTold}
use Rattle.step_promote.specs.Writes.{CanPrepare, Frees}
use Rattle.heap_rule.proofs.Fits.{fits_with, prepared_fits}
use Rattle.heap_rule.proofs.Classes.{size_least, slot_below, slot_inside}
use Rattle.heap_rule.proofs.Holders.{SameFor, agrees_same, hunter_agree, stock_self}
use Rattle.heap_rule.proofs.Keeps.{Words, my_good, garbage_here, control_set, owes_as, more_same}
use Rattle.heap_rule.proofs.Lots.{hunter_beside}
use Rattle.heap_rule.proofs.Update.{over, over_here, over_else}
use Rattle.step_promote.proofs.OwnPlaces as places
use Rattle.step_promote.proofs.OwnPlaces.{place_sole, same_prepared, spare_clean}
use Rattle.step_promote.proofs.Preparing.{prepared_here, prepared_else}
use Rattle.step_promote.proofs.Registers.{promote_once}
use Rattle.step_promote.proofs.Remaking.{keeps_blocks, stood_same, no_spare}
use Rattle.std.proofs.lemmas.Option.{none-some, same_Some}

-- the places of a class are looked at from another place on
looked_here : (l : List Search) (class : ℕ) (v : Search) → length l ≡ class_count → class < class_count → search_at (set l class v) class ≡ v
looked_here l class v wide few = get_or-set_same l class v _ (subst (λ (n : ℕ). class < n) (sym wide) few)

looked_else : (l : List Search) (class c : ℕ) (v : Search) → c ≢ class → search_at (set l class v) c ≡ search_at l c
looked_else l class c v other = get_or-set_other l class c v _ other

module _ (k : Config) (s : Words) (r : Rule k s) (id : ℕ) (hist : List Entry) (x : DomainView) (at : get_elem? s.views id ≡ some (one k hist x)) (promotes : x.seen.stage ≡ In Promote)
    (a c0 : ℕ) (few0 : c0 < class_count) (held : prepared_at x.own.prepared c0 ≡ Some a) where
  open r.account use {tenancy as t, live}
  open x use {own.{number as me}}

  H : Hunter k t s.words x
  H = (my_good k s r id hist x at).hunter

  pub mine_is : t.prepared a ≡ Some me
  mine_is = (H.holds c0 a few0 held).0

  o : OwnPlace t.holder a me
  o = let u = (H.holds c0 a few0 held).1 in record { pool = u.0; class = c0; slot = u.1; owned_is = u.2; inside = u.3; begins = u.4 }

  empty : live a ≡ None
  empty = (r.whole.grid.spares a me mine_is).empty

  -- no garbage lies at it
  clean : (b : ℕ) → IsTrue (t.garbage b) → b ≢ a
  clean = spare_clean k s r a me mine_is

  -- a store to the i-th word of the place: to its head where i is 0
  module _ (i new : ℕ) (small : i < 2) where
    abbrev pub ws : List ℕ
    ws = set s.words (before_heap k + (a + i)) new

    four : i < 4
    four = omega arith

    pub stays : (q d c j : ℕ) → t.holder q ≡ owned d c → j < blocks_of c → place_in q c j ≢ a → at_address k ws (place_in q c j) ≡ at_address k s.words (place_in q c j)
    stays = places.place_again k s r id hist x at a o empty i new four

    pub written : at_address k ws (a + i) ≡ new
    written = get_or-set_same s.words (before_heap k + (a + i)) new 0 (places.in_heap k s r id hist x at a o empty i four)

    pub unwritten : (j : ℕ) → j ≢ i → at_address k ws (a + j) ≡ at_address k s.words (a + j)
    unwritten j other = get_or-set_other s.words (before_heap k + (a + i)) (before_heap k + (a + j)) new 0 (λ e. other (omega arith))

    pub control : (j : ℕ) → j ≤ before_heap k → get_or ws j 0 ≡ get_or s.words j 0
    control = control_set k s.words (a + i) new (let l : 1 ≤ a = places.low k s r id hist x at a o empty in omega arith)

    pub others : (z : DomainView) → z.own.number ≢ me → Hunter k t s.words z → Hunter k t ws z
    others z other h = hunter_beside k t s.words (a + i) new r.whole.pools z (places.others_beside k s r id hist x at a o empty i new four z.own.number other) h

    -- the head at the place is no Free afterwards: the place stays prepared
    module _ (head : at_address k ws a ≢ 0) (y : DomainView) (hunt : Hunt) (y_is : y ≡ with_hunt x hunt) (hunts : Hunts k t ws me hunt) (draws : drawn_in x.seen.hunt ≡ None) (class_none : (c : ℕ) → DrawsFor c x.seen.hunt → ⊥) where
      grid' : Grid k t live ws
      grid' = record {
        lots = r.whole.grid.lots;
        places = λ q d c j owned_is below. dite (ℕ_discrete (place_in q c j) a)
            (λ same. inr (inr (inl (ap t.prepared same ∙ (mine_is ∙ ap Some (sym (place_sole k t s.words q d c j o.pool me o.class o.slot r.whole.pools owned_is below o.owned_is o.inside (same ∙ o.begins)).1))))))
            (λ other. ⊎_elim (λ (z : at_address k s.words (place_in q c j) ≡ 0). inl (stays q d c j owned_is below other ∙ z)) (λ z. inr z) (r.whole.grid.places q d c j owned_is below));
        spares = λ b d is. let sp = r.whole.grid.spares b d is in let own = sp.own in record {
          own = own;
          head = dite (ℕ_discrete b a)
              (λ same. λ e. head (ap (at_address k ws) (sym same) ∙ e))
              (λ other. λ e. sp.head (ap (at_address k s.words) own.begins ∙ (sym (stays own.pool d own.class own.slot own.owned_is own.inside (λ same. other (own.begins ∙ same))) ∙ (ap (at_address k ws) (sym own.begins) ∙ e))));
          empty = sp.empty;
        };
      }

      latest' : (c : ℕ) → Latest k t s.words me c → Latest k t ws me c
      latest' c l = record {
        own_is = l.own_is;
        few = l.few;
        enough = l.enough;
        rest = λ j from below. ⊎_elim
            (λ (z : at_address k s.words (place_in (t.stock.latest me c) c j) ≡ 0). inl (stays (t.stock.latest me c) me c j l.own_is below (λ same. (r.whole.grid.spares a me mine_is).head (ap (at_address k s.words) (sym same) ∙ z)) ∙ z))
            (λ z. inr z)
            (l.rest j from below);
      }

      hunter' : Hunter k t ws (with_hunt x hunt)
      hunter' = record {
        hunt = hunts;
        drawn_alone = λ q e. absurd (none-some q (sym draws ∙ H.drawn_alone q e));
        taken = λ q c j owned_is below low e. dite (ℕ_discrete (place_in q c j) a)
            (λ same. head (ap (at_address k ws) (sym same) ∙ e))
            (λ other. H.taken q c j owned_is below low (sym (stays q me c j owned_is below other) ∙ e));
        free = λ f e. subst (λ (m : ℕ × ℕ). (m.0 ≤ f + m.1) × (m.0 ≤ f + limit_of k m.0) × (f ≤ m.0)) (λ n. (sym (control 6 (omega arith)) n, sym (control 7 (omega arith)) n)) (H.free f e);
        spare = λ u e. absurd (no_spare k s r id hist x at promotes u e);
        holds = H.holds;
        prepared = H.prepared;
        claims = H.claims;
        supply = λ c few some. inr (latest' c (⊎_elim (λ (h : DrawsFor c x.seen.hunt). absurd (class_none c h)) (λ (l : Latest k t s.words me c). l) (H.supply c few some)));
      }

      pub keeps_rule : Rule k record { words = ws; homes = s.homes; views = set s.views id (one k hist y) }
      keeps_rule =
          let G = my_good k s r id hist x at in
          let making = places.makings_again k s r id hist x at a o empty i new four x G.making in
          subst (λ (z : DomainView). Rule k record { words = ws; homes = s.homes; views = set s.views id (one k hist z) }) (sym y_is)
          (keeps_blocks k s r id hist x at promotes x.own.registers x.own.finalisers x.own.prepared x.own.looked hunt x.seen.copying ws t.prepared record {
            wide = length-set s.words (before_heap k + (a + i)) new;
            control = control;
            found = places.found_again k s r id hist x at a o empty i new four;
            garbage = garbage_here k s r id hist x at live ws r.whole.cycle.leaves.dead (places.heads_again k s r id hist x at a o empty i new four clean);
            grid = grid';
            drawers = r.whole.drawers;
            stood = stood_same k s r id hist x at promotes (with_hunt x hunt) refl refl refl refl live (more_same live);
            making = making;
            hunter = hunter';
            owes = owes_as k live x (with_hunt x hunt) refl refl refl refl G.owes;
            makings = places.makings_again k s r id hist x at a o empty i new four;
            hunters = others;
          })

  -- the place is given back: its head is Free
  module _ (looked : List Search) (from : (q c j : ℕ) → t.holder q ≡ owned me c → j < blocks_of c → IsPassed q j (search_at looked c) → IsPassed q j (search_at x.own.looked c) × (place_in q c j ≢ a)) (draws : drawn_in x.seen.hunt ≡ None) (class_none : (c : ℕ) → DrawsFor c x.seen.hunt → ⊥) (rests : x.seen.hunt ≡ Rests)
      (wide : length x.own.prepared ≡ class_count) where
    abbrev prepared' : ℕ → Option ℕ
    prepared' = over a None t.prepared

    abbrev t' : Tenancy
    t' = record t { prepared = prepared' }

    abbrev w0 : List ℕ
    w0 = ws 0 0 (omega arith)

    abbrev y : DomainView
    y = freed x c0 looked

    free : at_address k w0 a ≡ 0
    free = let e : a + 0 ≡ a = omega arith in ap (λ (n : ℕ). at_address k w0 n) (sym e) ∙ written 0 0 (omega arith)

    stays0 : (q d c j : ℕ) → t.holder q ≡ owned d c → j < blocks_of c → place_in q c j ≢ a → at_address k w0 (place_in q c j) ≡ at_address k s.words (place_in q c j)
    stays0 = stays 0 0 (omega arith)

    was : (b d : ℕ) → prepared' b ≡ Some d → (b ≢ a) × (t.prepared b ≡ Some d)
    was b d is = dite (ℕ_discrete b a)
        (λ same. absurd (none-some d (sym (over_here a None t.prepared) ∙ (ap prepared' (sym same) ∙ is))))
        (λ other. (other, sym (over_else a None t.prepared b other) ∙ is))

    grid0 : Grid k t' live w0
    grid0 = record {
      lots = r.whole.grid.lots;
      places = λ q d c j owned_is below. dite (ℕ_discrete (place_in q c j) a)
          (λ same. inl (ap (at_address k w0) same ∙ free))
          (λ other. ⊎_elim (λ (z : at_address k s.words (place_in q c j) ≡ 0). inl (stays0 q d c j owned_is below other ∙ z))
          (λ z. inr (⊎_elim (λ (v : (p : Place) × (live (place_in q c j) ≡ Some p)). inl v) (λ v. inr (⊎_elim (λ (e : t.prepared (place_in q c j) ≡ Some d). inl (over_else a None t.prepared (place_in q c j) other ∙ e)) (λ (e : IsTrue (t.garbage (place_in q c j))). inr e) v)) z))
          (r.whole.grid.places q d c j owned_is below));
      spares = λ b d is. let u = was b d is in let sp = r.whole.grid.spares b d u.1 in let own = sp.own in record {
        own = own;
        head = λ e. sp.head (ap (at_address k s.words) own.begins ∙ (sym (stays0 own.pool d own.class own.slot own.owned_is own.inside (λ same. u.0 (own.begins ∙ same))) ∙ (ap (at_address k w0) (sym own.begins) ∙ e)));
        empty = sp.empty;
      };
    }

    same_for : (d : ℕ) → d ≢ me → SameFor t t' d
    same_for d other = same_prepared t prepared' t.stock d (λ b e. over_else a None t.prepared b (λ same. other (same_Some d me (sym e ∙ (ap t.prepared same ∙ mine_is)))) ∙ e) (λ b e. (was b d e).1) (stock_self t.stock d)

    latest0 : (c : ℕ) → Latest k t s.words me c → Latest k t' w0 me c
    latest0 c l = record {
      own_is = l.own_is;
      few = l.few;
      enough = l.enough;
      rest = λ j low below. dite (ℕ_discrete (place_in (t.stock.latest me c) c j) a)
          (λ same. inl (ap (at_address k w0) same ∙ free))
          (λ other. ⊎_elim (λ (z : at_address k s.words (place_in (t.stock.latest me c) c j) ≡ 0). inl (stays0 (t.stock.latest me c) me c j l.own_is below other ∙ z))
          (λ (z : (j ≡ t.stock.used me c) × (t.prepared (place_in (t.stock.latest me c) c j) ≡ Some me)). inr (z.0, over_else a None t.prepared (place_in (t.stock.latest me c) c j) other ∙ z.1))
          (l.rest j low below));
    }

    hunter0 : Hunter k t' w0 y
    unfolding o
    hunter0 = record {
      hunt = subst (Hunts k t' w0 me) (sym rests) tt;
      drawn_alone = λ q e. absurd (none-some q (sym draws ∙ H.drawn_alone q e));
      taken = λ q c j owned_is below low e. let u = from q c j owned_is below low in H.taken q c j owned_is below u.0 (sym (stays0 q me c j owned_is below u.1) ∙ e);
      free = λ f e. subst (λ (m : ℕ × ℕ). (m.0 ≤ f + m.1) × (m.0 ≤ f + limit_of k m.0) × (f ≤ m.0)) (λ n. (sym (control 0 0 (omega arith) 6 (omega arith)) n, sym (control 0 0 (omega arith) 7 (omega arith)) n)) (H.free f e);
      spare = λ u e. absurd (no_spare k s r id hist x at promotes u e);
      holds = λ c b few e. dite (ℕ_discrete c c0)
          (λ same. absurd (none-some b (sym (prepared_here x.own.prepared c0 None wide few0) ∙ (ap (prepared_at (set x.own.prepared c0 None)) (sym same) ∙ e))))
          (λ other.
          let u = H.holds c b few (sym (prepared_else x.own.prepared c0 c None other) ∙ e) in
          let differs : b ≢ a = (λ same. other (place_sole k t s.words u.1.0 me c u.1.1 o.pool me o.class o.slot r.whole.pools u.1.2 u.1.3 o.owned_is o.inside (sym u.1.4 ∙ (same ∙ o.begins))).2) in
          (over_else a None t.prepared b differs ∙ u.0, u.1));
      prepared = λ q c j owned_is below e.
          let u = was (place_in q c j) me e in
          let old = H.prepared q c j owned_is below u.1 in
          prepared_else x.own.prepared c0 c None (λ same. u.0 (same_Some (place_in q c j) a (sym old ∙ (ap (prepared_at x.own.prepared) same ∙ held)))) ∙ old;
      claims = H.claims;
      supply = λ c few some. inr (latest0 c (⊎_elim (λ (h : DrawsFor c x.seen.hunt). absurd (class_none c h)) (λ (l : Latest k t s.words me c). l) (H.supply c few some)));
    }

    pub frees_rule : Rule k record { words = w0; homes = s.homes; views = set s.views id (one k hist y) }
    frees_rule =
        let G = my_good k s r id hist x at in
        let control0 = control 0 0 (omega arith) in
        let making = places.makings_again k s r id hist x at a o empty 0 0 (omega arith) x G.making in
        keeps_blocks k s r id hist x at promotes x.own.registers x.own.finalisers y.own.prepared looked x.seen.hunt x.seen.copying w0 prepared' record {
          wide = length-set s.words (before_heap k + (a + 0)) 0;
          control = control0;
          found = places.found_again k s r id hist x at a o empty 0 0 (omega arith);
          garbage = places.garbage_again k s r id hist x at a o empty 0 0 (omega arith) clean None;
          grid = grid0;
          drawers = record { drawn = r.whole.drawers.drawn; prepared = λ b d is. r.whole.drawers.prepared b d (was b d is).1; claims = r.whole.drawers.claims };
          stood = stood_same k s r id hist x at promotes y refl refl refl refl live (more_same live);
          making = making;
          hunter = hunter0;
          owes = owes_as k live x y refl refl refl refl G.owes;
          makings = places.makings_again k s r id hist x at a o empty 0 0 (omega arith);
          hunters = λ z other h. hunter_agree k t t' w0 w0 (agrees_same k w0) z (omega arith) (same_for z.own.number other) (others 0 0 (omega arith) z other h);
        }

-- who is writing a prepared place has drawn no pool
labels_draw : (h : Hunt) (address label : ℕ) → h ≡ Labels address label → (drawn_in h ≡ None) × ((c : ℕ) → DrawsFor c h → ⊥)
labels_draw h address label is = (ap drawn_in is, (λ c d. subst (DrawsFor c) is d))

rests_draw : (h : Hunt) → h ≡ Rests → (drawn_in h ≡ None) × ((c : ℕ) → DrawsFor c h → ⊥)
rests_draw h is = (ap drawn_in is, (λ c d. subst (DrawsFor c) is d))

pub label_store_may : (k : Config) (x : DomainView) (word a new class : ℕ) → word ≡ before_heap k + a → LabelStoreMay x a class → MayStore k x word new (LabelStoreTold class)
label_store_may k x word a new class place may fits slots id hist s r _ at _ =
    let A : ℕ = may.address in
    let y : DomainView = with_hunt x (Labels A new) in
    let H = (my_good k s r id hist x at).hunter in
    let u = H.holds class A may.of_class may.prepared in
    let own : OwnPlace r.account.tenancy.holder A x.own.number = record { pool = u.1.0; class = class; slot = u.1.1; owned_is = u.1.2; inside = u.1.3; begins = u.1.4 } in
    let w = ws k s r id hist x at may.stage A class may.of_class may.prepared 1 new (omega arith) in
    let e : A + 0 ≡ A = omega arith in
    let head : at_address k w A ≢ 0 = (λ z. (r.whole.grid.spares A x.own.number u.0).head (ap (at_address k s.words) (sym e) ∙ (sym (unwritten k s r id hist x at may.stage A class may.of_class may.prepared 1 new (omega arith) 0 (omega arith)) ∙ (ap (at_address k w) e ∙ z)))) in
    let d = rests_draw x.seen.hunt may.at_rest in (
      one k hist y,
      keeps,
      tt,
      subst (λ (n : ℕ). Rule k record { words = set s.words n new; homes = s.homes; views = set s.views id (one k hist y) }) (sym (place ∙ ap (λ (n : ℕ). before_heap k + n) may.word))
          (keeps_rule k s r id hist x at may.stage A class may.of_class may.prepared 1 new (omega arith) head y (Labels A new) refl (u.0, own, written k s r id hist x at may.stage A class may.of_class may.prepared 1 new (omega arith)) d.0 d.1),
      (record { address = A; prepared = may.prepared; view = refl }, refl),
    )

pub head_store_may : (k : Config) (x : DomainView) (word a new : ℕ) → word ≡ before_heap k + a → HeadStoreMay x a new → MayStore k x word new (HeadStoreTold a)
head_store_may k x word a new place may fits slots id hist s r _ at _ =
    let y : DomainView = with_hunt x (Heads a may.label new) in
    let me : ℕ = x.own.number in
    let t = r.account.tenancy in
    let H = (my_good k s r id hist x at).hunter in
    let u : Hunts k t s.words me (Labels a may.label) = subst (Hunts k t s.words me) may.hunt H.hunt in
    let own = u.1 in
    let few = (r.whole.pools.owned_by own.pool me own.class own.owned_is).2 in
    let held : prepared_at x.own.prepared own.class ≡ Some a = H.prepared own.pool own.class own.slot own.owned_is own.inside (ap t.prepared (sym own.begins) ∙ u.0) ∙ ap Some (sym own.begins) in
    let w = ws k s r id hist x at may.stage a own.class few held 0 new (omega arith) in
    let e : a + 0 ≡ a = omega arith in
    let now : at_address k w a ≡ new = ap (at_address k w) (sym e) ∙ written k s r id hist x at may.stage a own.class few held 0 new (omega arith) in
    let label : at_address k w (a + 1) ≡ may.label = unwritten k s r id hist x at may.stage a own.class few held 0 new (omega arith) 1 (omega arith) ∙ u.2 in
    let d = labels_draw x.seen.hunt a may.label may.hunt in (
      one k hist y,
      keeps,
      tt,
      subst (λ (n : ℕ). Rule k record { words = set s.words n new; homes = s.homes; views = set s.views id (one k hist y) }) (sym (place ∙ (let g : before_heap k + a ≡ before_heap k + (a + 0) = omega arith in g)))
          (keeps_rule k s r id hist x at may.stage a own.class few held 0 new (omega arith) (λ z. may.head (sym now ∙ z)) y (Heads a may.label new) refl (u.0, own, label, now) d.0 d.1),
      (record { label = may.label; hunt = may.hunt; view = refl }, refl),
    )

-- two places of a class at one address
same_place : (k : Config) (class q i pool slot : ℕ) → class < class_count → i < blocks_of class → slot < blocks_of class → place_in q class i ≡ place_in pool class slot → (q ≡ pool) × (i ≡ slot)
same_place k class q i pool slot few inside inside' same =
    let u : ℕ = i * size_of class in let w : ℕ = slot * size_of class in let y : ℕ = size_of class in
    let top : u + y ≤ 4096 = slot_inside class i few inside in
    let top' : w + y ≤ 4096 = slot_inside class slot few inside' in
    let large : 4 ≤ y = size_least class few in
    let at : q * 4096 + u + 1 ≡ pool * 4096 + w + 1 = same in
    let here : q ≡ pool = omega arith in (
      here,
      dite (ℕ_discrete i slot)
          (λ eq. eq)
          (λ ne. absurd (dite (dec_le i slot)
          (λ below. let g : u + y ≤ w = slot_below class i slot (let b : i ≤ slot = below in let n : i ≢ slot = ne in omega arith) in omega arith)
          (λ above. let g : w + y ≤ u = slot_below class slot i (lt_of_not-le above) in omega arith))),
    )

-- how far the domain has looked, once the place is free for the search
abbrev freed_looks : (x : DomainView) (pool class slot : ℕ) → List Search
freed_looks x pool class slot = set x.own.looked class (freed_at pool slot (search_at x.own.looked class))

pub free_may : (k : Config) (x : DomainView) (word a pool class slot : ℕ) → word ≡ before_heap k + a → FreeMay x a pool class slot → MayStore k x word 0 (FreedTold pool class slot)
free_may k x word a pool class slot place may fits slots id hist s r _ at _ =
    let t = r.account.tenancy in
    let me : ℕ = x.own.number in
    let H = (my_good k s r id hist x at).hunter in
    let u = (H.holds class a may.of_class may.prepared).1 in
    let d = rests_draw x.seen.hunt may.at_rest in
    let looked : List Search = freed_looks x pool class slot in
    let here_at : (q c j : ℕ) → t.holder q ≡ owned me c → j < blocks_of c → place_in q c j ≡ a → (q ≡ u.0) × (c ≡ class) × (j ≡ u.1) = (λ q c j owned_is below same. let z = place_sole k t s.words q me c j u.0 me class u.1 r.whole.pools owned_is below u.2 u.3 (same ∙ u.4) in (z.0, z.2, z.3)) in
    let pool_is : (u.0 ≡ pool) × (u.1 ≡ slot) = same_place k class u.0 u.1 pool slot may.of_class u.3 may.inside (sym u.4 ∙ may.word) in
    let y : DomainView = freed x class looked in (
      one k hist y,
      keeps,
      tt,
      subst (λ (n : ℕ). Rule k record { words = set s.words n 0; homes = s.homes; views = set s.views id (one k hist y) }) (sym (place ∙ (let g : before_heap k + a ≡ before_heap k + (a + 0) = omega arith in g)))
          (frees_rule k s r id hist x at may.stage a class may.of_class may.prepared looked
          (λ q c j owned_is below low. dite (ℕ_discrete c class)
          (λ same.
          let spot : search_at looked c ≡ freed_at pool slot (search_at x.own.looked class) = ap (search_at looked) same ∙ looked_here x.own.looked class (freed_at pool slot (search_at x.own.looked class)) fits.looked.wide may.of_class in
          let was = passed_freed q j pool slot (search_at x.own.looked class) (subst (IsPassed q j) spot low) in (
            subst (λ (n : ℕ). IsPassed q j (search_at x.own.looked n)) (sym same) was.0,
            (λ here. let z = here_at q c j owned_is below here in was.1 (z.0 ∙ pool_is.0, z.2 ∙ pool_is.1)),
          ))
          (λ other. (subst (IsPassed q j) (looked_else x.own.looked class c (freed_at pool slot (search_at x.own.looked class)) other) low, (λ here. other (here_at q c j owned_is below here).1))))
          d.0 d.1 may.at_rest fits.prepared),
      (refl, refl),
    )

-- it closes where the list of prepared places, and how far it was looked, were written
pub free_closes : (k : Config) (x : DomainView) (a pool class slot : ℕ) → pool ≤ k.pools → FreeMay x a pool class slot → Closes k x 0 (FreedTold pool class slot) (λ own. CanPrepare class) (Frees pool class slot)
free_closes k x a pool class slot inside may y fits told =
    let spot : Search = freed_at pool slot (search_at x.own.looked class) in
    let own : y.own ≡ record (preparing x.own class None) { looked = set x.own.looked class spot } = ap (λ (z : DomainView). z.own) told in record {
      can_write = may.of_class;
      written = λ after wrote. own ∙ sym wrote;
      fits = subst (OwnFits k) (sym own) (fits_with k x.own (set x.own.looked class spot) (set x.own.prepared class None) x.own.pending x.own.ephemerons x.own.swept (looks_freed k x.own.looked pool class slot inside may.of_class may.inside fits.looked) (length-set x.own.prepared class None ∙ fits.prepared) fits.pending fits.ephemerons fits.swept fits);
      once = promote_once k x y may.stage;
    }
