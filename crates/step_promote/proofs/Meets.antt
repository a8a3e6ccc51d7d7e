-- Loads at which a domain that copies meets blocks.
use Rattle.heap_rule.proofs.EphemeronLemmas.{found_value}
use Rattle.heap_rule.proofs.Keeps.{whole_here}
use Rattle.std.proofs.Common.{◌≡◌, ◌≢◌, ℕ, ◌+◌, ◌*◌, ◌<◌, ◌≤◌, cond, eq-eqb, ne_eqb, Bool, List, ◌∷◌, length, get_or, set, slice_get, Option, Some, None, sym, refl, ap, ◌∙◌, subst, inl, inr, ⊎_elim, arith}
use mathlib.Core.Logic.{dite}
use native.Mathlib.Decide.{ℕ_discrete}
use mathlib.Core.Option.{some}
use lib.ListN.{get_elem?}
use Rattle.atomic_table.specs.Table.{keeps}
use Rattle.model_core.specs.declared.label.Label.{Label}
use Rattle.model_core.specs.declared.entry.Entry.{Entry}
use Rattle.model_core.specs.declared.graph.Value as graph_value
use Rattle.model_core.specs.declared.graph.Value.TheVariants.{Int, Block, Nothing}
use Rattle.model_core.specs.declared.state.State as model
use Rattle.model_core.specs.Graph.{node_at}
use Rattle.model_core.specs.Fronts.{Shape, PlainShape, RawShape, EpheShape}
use Rattle.heap_words.specs.declared.value.Value.{Value}
use Rattle.heap_words.specs.declared.value.Value.TheVariants.{Int as IntWord, Ref, Nothing as NothingWord}
use Rattle.heap_words.specs.declared.head.Head.TheVariants.{Forward}
use Rattle.heap_words.specs.Heads.{head_word}
use Rattle.heap_words.specs.Labels.{label_word}
use Rattle.heap_rule.specs.declared.config.Config.{Config}
use Rattle.heap_rule.specs.declared.view.Copied.{Copied}
use Rattle.heap_rule.specs.declared.view.Met.{Met}
use Rattle.heap_rule.specs.declared.view.DomainView.{DomainView}
use Rattle.heap_rule.specs.declared.phase.Kind.TheVariants.{Promote}
use Rattle.heap_rule.specs.declared.phase.Stage.TheVariants.{In}
use Rattle.heap_rule.specs.Layout.{heap_words, before_heap, at_address}
use Rattle.heap_rule.specs.Places.{Debt, Place, Live, extent, values_of, HeadIs, colour_in, new_colour, HasValue, Stands, Lasts, More}
use Rattle.heap_rule.specs.Phases.{IsInPause}
use Rattle.heap_rule.specs.Copies.{ListsCopy, HasCopy, IsCopied, met_place, shape_of_form, known}
use Rattle.heap_rule.specs.Raw.{MayStep}
use Rattle.heap_rule.specs.Rule.{state_of, Rule}
use Rattle.heap_rule.specs.Views.{one}
use Rattle.heap_rule.specs.Standing.{IsAt}
use Rattle.heap_rule.specs.declared.view.Held.{Held}
use Rattle.heap_rule.specs.Finalisers.{held_at}
use Rattle.step_promote.proofs.HeldPlaces.{held_lives}
use Rattle.step_promote.specs.Promotion.{form_of, met_of, with_met, meeting, with_copied, learning, Knows, HeadMay, StaysThere, Forwards, HeadMet, LabelMay, LabelMet, HasValueAt, ValueMay, ValueMet, RecallMay, Recalled}
use Rattle.heap_rule.proofs.Again.{met_fits}
use Rattle.heap_rule.proofs.Beside.{extent_of}
use Rattle.heap_rule.proofs.Blocks.{lives_at}
use Rattle.heap_rule.proofs.Values.{address_of, packable}
use Rattle.heap_rule.proofs.Lists.{got_there}
use Rattle.heap_rule.proofs.Drops.{debt_cases}
use Rattle.heap_rule.proofs.Lots.{number_cases}
use Rattle.heap_rule.proofs.Keeps.{Words, my_good, hunter_as, unmoved, more_same, stands_more}
use Rattle.step_promote.proofs.Remaking.{keeps_words, stood_same, young_colour}
use Rattle.heap_rule.proofs.HeadLemmas.{packable_head, colour_small}
use Rattle.std.proofs.lemmas.Option.{same_Some}

pub form_shape : (s : Shape) → shape_of_form (form_of s) ≡ s
form_shape (PlainShape size tag) = refl
form_shape (RawShape size tag) = refl
form_shape (EpheShape keys) = refl

known_here : (m : Met) (ms : List Met) → known (m ∷ ms) m.address ≡ Some (met_place m)
known_here m ms = ap (λ (b : Bool). cond b (Some (met_place m)) (known ms m.address)) (eq-eqb m.address m.address refl)

known_else : (m : Met) (ms : List Met) (a : ℕ) → a ≢ m.address → known (m ∷ ms) a ≡ known ms a
known_else m ms a other = ap (λ (b : Bool). cond b (Some (met_place m)) (known ms a)) (ne_eqb a m.address other)

-- one more block that lives is known
pub knows_more : (live : Live) (m : Met) (ms : List Met) → More (known ms) live → Lasts live m.address (met_place m) → More (known (m ∷ ms)) live
knows_more live m ms more lasts a p e = dite (ℕ_discrete a m.address)
    (λ same. let is : met_place m ≡ p = same_Some (met_place m) p (sym (known_here m ms) ∙ (ap (known (m ∷ ms)) (sym same) ∙ e)) in
    record { place = lasts.place; lives = ap live same ∙ lasts.lives; label = lasts.label ∙ ap (λ (z : Place). z.label) is; shape = lasts.shape ∙ ap (λ (z : Place). z.shape) is })
    (λ other. more a p (sym (known_else m ms a other) ∙ e))

-- and those known before are
pub known_more : (live : Live) (m : Met) (ms : List Met) → More (known ms) live → Lasts live m.address (met_place m) → More (known ms) (known (m ∷ ms))
known_more live m ms more lasts a p e = dite (ℕ_discrete a m.address)
    (λ same. let l = more a p e in let both : lasts.place ≡ l.place = same_Some lasts.place l.place (sym lasts.lives ∙ (ap live (sym same) ∙ l.lives)) in
    record { place = met_place m; lives = ap (known (m ∷ ms)) same ∙ known_here m ms; label = sym lasts.label ∙ (ap (λ (z : Place). z.label) both ∙ l.label); shape = sym lasts.shape ∙ (ap (λ (z : Place). z.shape) both ∙ l.shape) })
    (λ other. record { place = p; lives = known_else m ms a other ∙ e; label = refl; shape = refl })

-- the block met is known
pub known_met : (a : ℕ) (p : Place) (ms : List Met) → Lasts (known (met_of a p ∷ ms)) a p
known_met a p ms = record { place = met_place (met_of a p); lives = known_here (met_of a p) ms; label = refl; shape = form_shape p.shape }

pub lasts_met : (live : Live) (a : ℕ) (p : Place) → live a ≡ Some p → Lasts live a (met_place (met_of a p))
lasts_met live a p e = record { place = p; lives = e; label = refl; shape = sym (form_shape p.shape) }

pub more_trans : (f g h : Live) → More f g → More g h → More f h
more_trans f g h a b c p e = let m = a c p e in let n = b c m.place m.lives in record { place = n.place; lives = n.lives; label = n.label ∙ m.label; shape = n.shape ∙ m.shape }

pub lasts_more : (f g : Live) (a : ℕ) (p : Place) → More f g → Lasts f a p → Lasts g a p
lasts_more f g a p more l = let n = more a l.place l.lives in record { place = n.place; lives = n.lives; label = n.label ∙ l.label; shape = n.shape ∙ l.shape }

module _ (k : Config) (s : Words) (r : Rule k s) (id : ℕ) (hist : List Entry) (x : DomainView) (at : get_elem? s.views id ≡ some (one k hist x)) (promotes : x.seen.stage ≡ In Promote) where
  abbrev now : model.State
  now = state_of k r.account.log

  abbrev live : Live
  live = r.account.live

  knows : More (Knows x) live
  knows = (my_good k s r id hist x at).owes.knows

  -- a load at which blocks are met, and copies of blocks
  pub meets_copies : (met : List Met) (copied : List Copied) → More (known met) live → ((a c : ℕ) → ListsCopy copied a c → IsCopied live a c) → Rule k record { words = s.words; homes = s.homes; views = set s.views id (one k hist (with_copied (with_met x met) copied)) }
  meets_copies met copied more lists =
      let g = my_good k s r id hist x at in
      let y : DomainView = with_copied (with_met x met) copied in
      let o = g.owes in
      keeps_words k s r id hist x at promotes x.own.registers x.own.finalisers x.own.prepared x.own.looked x.seen.hunt y.seen.copying
      (stood_same k s r id hist x at promotes y refl refl refl refl live (more_same live))
      (hunter_as k r.account.tenancy s.words x y refl refl refl refl refl refl refl g.hunter)
      record {
        quiet = inr promotes;
        knows = more;
        copied = lists;
        owed = λ i w got. let t = o.owed i w got in record { place = t.place; lives = t.lives; debt = t.debt };
        once = o.once;
        listed = o.listed;
        recalled = o.recalled;
        fields = o.fields;
      }

  pub meets_rule : (met : List Met) → More (known met) live → Rule k record { words = s.words; homes = s.homes; views = set s.views id (one k hist (with_met x met)) }
  meets_rule met more = meets_copies met x.seen.copying.copied more (my_good k s r id hist x at).owes.copied

  -- where a copy is known, the head forwards to it
  forwards_to : (a c : ℕ) → HasCopy x a c → at_address k s.words a ≡ head_word (Forward c)
  forwards_to a c has = let u = (my_good k s r id hist x at).owes.copied a c has in let h = (r.whole.found a u.place u.lives).head in subst (λ (o : Option ℕ). HeadIs o u.place.shape (colour_in r.account.cycling.paint u.place.label) h.scanned (at_address k s.words a)) u.forwards h.packs

  -- what lives at the address of a head load
  source : (a : ℕ) → HeadMay x a → (p : Place) × (live a ≡ Some p)
  source a may = ⊎_elim
      (λ (t : (p : Place) × (Knows x a ≡ Some p)). let l = knows a t.0 t.1 in (l.place, l.lives))
      (λ z. ⊎_elim
      (λ (t : (q : ℕ) × IsAt x q a). let l = lives_at k s r id hist x at t.0 a t.1 in (l.place, l.lives))
      (λ (t : (h : Held) × (held_at x.own.finalisers h ≡ Some a)). let l = (held_lives live now x.own.number x.own.finalisers (my_good k s r id hist x at).stood.enrolled t.0 a t.1).lives in (l.0, l.1))
      z)
      may.from

  record HeadStep (a found : ℕ) : Type 0 where
    after : DomainView
    rule : Rule k record { words = s.words; homes = s.homes; views = set s.views id (one k hist after) }
    told : HeadMet k a x found after

  head_step : (a : ℕ) → HeadMay x a → HeadStep a (at_address k s.words a)
  head_step a may =
      let b = source a may in
      let p : Place = b.0 in
      let lives : live a ≡ Some p = b.1 in
      let f = r.whole.found a p lives in
      let ms : List Met = x.seen.copying.met in
      let m : Met = met_of a p in
      let lasts : Lasts live a (met_place m) = lasts_met live a p lives in
      let more1 : More (known (m ∷ ms)) live = knows_more live m ms knows lasts in
      let grows1 : More (known ms) (known (m ∷ ms)) = known_more live m ms knows lasts in
      let packs = (r.whole.placed.fits a p lives).head in
      ⊎_elim
      (λ (none : p.forward ≡ None). record {
        after = meeting x m;
        rule = meets_rule (m ∷ ms) more1;
        told = record {
          place = p;
          packable = packs;
          here = known_met a p ms;
          more = grows1;
          fit = met_fits k (known (m ∷ ms)) live more1 r.whole.placed;
          told = let paint = r.account.cycling.paint in let colour : ℕ = colour_in paint p.label in
              let bare : HeadIs None p.shape colour f.head.scanned (at_address k s.words a) = subst (λ (o : Option ℕ). HeadIs o p.shape colour f.head.scanned (at_address k s.words a)) none f.head.packs in inl record {
                head = record { colour = colour; scanned = f.head.scanned; fits = packs; packable = packable_head p.shape colour f.head.scanned (colour_small paint p.label r.whole.cycle.meanings) packs; packs = bare };
                new = λ young c known b tells. let new : colour ≡ new_colour b c = young_colour k s r id hist x at promotes a p lives young c known b tells in record {
                  colours = c;
                  known_is = known;
                  beside = b;
                  armed_is = tells;
                  fits = subst (λ (n : ℕ). n < 3) new (colour_small paint p.label r.whole.cycle.meanings);
                  packs = subst (λ (m : ℕ × Bool). HeadIs None p.shape m.0 m.1 (at_address k s.words a)) (λ i. (new i, f.blank young i)) bare;
                };
                view = refl;
              };
          once = forwards_to a;
        };
      })
      (λ (t : (c : ℕ) × (p.forward ≡ Some c)).
      let c : ℕ = t.0 in
      let l = r.whole.copies.leads a p c lives t.1 in
      let n : Met = met_of c p in
      let its : Lasts live c (met_place n) = record { place = l.place; lives = l.lives; label = l.label; shape = l.shape ∙ sym (form_shape p.shape) } in
      let fits = address_of k c l.place (r.whole.placed.fits c l.place l.lives) in
      record {
        after = learning (meeting (meeting x m) n) a c;
        rule = meets_copies (n ∷ m ∷ ms) (record { copy = c; source = a } ∷ x.seen.copying.copied) (knows_more live n (m ∷ ms) more1 its)
            (λ b d. ⊎_elim
            (λ (h : (a ≡ b) × (c ≡ d)). record { place = p; lives = ap live (sym h.0) ∙ lives; forwards = t.1 ∙ ap Some h.1 })
            (λ (h : HasCopy x b d). (my_good k s r id hist x at).owes.copied b d h));
        told = record {
          place = p;
          packable = packs;
          here = lasts_more (known (m ∷ ms)) (known (n ∷ m ∷ ms)) a p (known_more live n (m ∷ ms) more1 its) (known_met a p ms);
          more = more_trans (known ms) (known (m ∷ ms)) (known (n ∷ m ∷ ms)) grows1 (known_more live n (m ∷ ms) more1 its);
          fit = met_fits k (known (n ∷ m ∷ ms)) live (knows_more live n (m ∷ ms) more1 its) r.whole.placed;
          told = inr record {
            copy = c;
            word = subst (λ (o : Option ℕ). HeadIs o p.shape (colour_in r.account.cycling.paint p.label) f.head.scanned (at_address k s.words a)) t.1 f.head.packs;
            young = l.young;
            old = l.old;
            inside = (fits.0, let w : ℕ = heap_words k in let h : c + 2 ≤ w = fits.1 in let e : c ≤ w = omega arith in e);
            view = refl;
            there = known_met c p (m ∷ ms);
          };
          once = forwards_to a;
        };
      })
      (number_cases p.forward)

  -- a value that a block holds is met
  record Meets (v : Value) (g : graph_value.Value) : Type 0 where
    met : List Met
    lives : More (known met) live
    more : More (Knows x) (known met)
    stands : Stands (known met) v g

  same_known : More (Knows x) (Knows x)
  same_known a p e = record { place = p; lives = e; label = refl; shape = refl }

  meets_value : (v : Value) (g : graph_value.Value) → Stands live v g → Meets v g
  meets_value (IntWord z) (Int n) st = record { met = x.seen.copying.met; lives = knows; more = same_known; stands = st }
  meets_value (IntWord z) (Block l) st = absurd st
  meets_value (IntWord z) Nothing st = absurd st
  meets_value NothingWord (Int n) st = absurd st
  meets_value NothingWord (Block l) st = absurd st
  meets_value NothingWord Nothing st = record { met = x.seen.copying.met; lives = knows; more = same_known; stands = tt }
  meets_value (Ref a) (Int n) st = absurd st
  meets_value (Ref a) Nothing st = absurd st
  meets_value (Ref a) (Block l) st =
      let m : Met = met_of a st.0 in
      let ms : List Met = x.seen.copying.met in
      let lasts : Lasts live a (met_place m) = lasts_met live a st.0 st.1 in
      let k1 = known_met a st.0 ms in
      record { met = m ∷ ms; lives = knows_more live m ms knows lasts; more = known_more live m ms knows lasts; stands = (k1.place, k1.lives, k1.label ∙ st.2) }

  record ValueStep (source i found : ℕ) : Type 0 where
    after : DomainView
    rule : Rule k record { words = s.words; homes = s.homes; views = set s.views id (one k hist after) }
    told : ValueMet k source i x found after

  value_step : (a b i : ℕ) → ValueMay k x a b i → ValueStep b i (at_address k s.words a)
  value_step a b i may =
      let l = knows b may.place may.met in
      let p : Place = l.place in
      let f = r.whole.found b p l.lives in
      let paid : p.owed ≡ None = ⊎_elim (λ (e : p.owed ≡ None). e)
      (λ (t : (o : Debt) × (p.owed ≡ Some o)). absurd (let old : b ≤ k.pools * 4096 = (r.whole.copies.pends b p t.0 l.lives t.1).old in let young : k.pools * 4096 < b = may.young in omega arith)) (debt_cases p.owed) in
      let n : ℕ = length (values_of f.node) in
      let size : extent p.shape ≡ n + 2 = ap extent (sym f.shape) ∙ extent_of f.node in
      let z : ℕ = extent p.shape in let z' : ℕ = extent may.place.shape in let zz : z ≡ z' = ap extent l.shape in
      let h : i + 2 < z' = may.below in let y : z ≡ n + 2 = size in
      let v = got_there (values_of f.node) i (let g : i < n = omega arith in g) in
      let w = found_value k r.account.cycling.paint live now.graph s.words b p f (whole_here k s r id hist x at Promote tt promotes p.label) i v.0 (subst (λ (o : Option Debt). HasValue o i) (sym paid) tt) v.1 in
      let m = meets_value w.value v.0 w.stands in
      let front : x.seen.front ≡ r.account.log = (my_good k s r id hist x at).still.0 (subst IsInPause (sym promotes) tt) in
      record {
        after = with_met x m.met;
        rule = meets_rule m.met m.lives;
        told = record {
          value = w.value;
          held = v.0;
          place = may.place;
          met = may.met;
          packable = packable k r.limits live r.whole.placed w.value v.0 w.stands;
          word = ap (at_address k s.words) may.word ∙ w.packs;
          has = subst (λ (log : List Entry). HasValueAt (state_of k log) may.place.label i v.0) (sym front) record { node = f.node; there = ap (node_at now.graph) (sym l.label) ∙ f.there; is = v.1 };
          stands = m.stands;
          more = m.more;
          fit = met_fits k (known m.met) live m.lives r.whole.placed;
          view = refl;
        };
      }

  record RecallStep (a found : ℕ) : Type 0 where
    after : DomainView
    rule : Rule k record { words = s.words; homes = s.homes; views = set s.views id (one k hist after) }
    told : Recalled k a x found after

  recall_step : (a : ℕ) → RecallMay x a → RecallStep a (at_address k s.words a)
  recall_step a may =
      let u = (my_good k s r id hist x at).owes.fields 0 a (ap (λ (l : List ℕ). slice_get l 0) may.first) in
      let p : Place = u.place in
      let f = r.whole.found u.block p u.lives in
      let n : ℕ = length (values_of f.node) in
      let size : extent p.shape ≡ n + 2 = ap extent (sym f.shape) ∙ extent_of f.node in
      let z : ℕ = extent p.shape in let h : u.index + 2 < z = u.inside in let y : z ≡ n + 2 = size in
      let v = got_there (values_of f.node) u.index (let g : u.index < n = omega arith in g) in
      let w = found_value k r.account.cycling.paint live now.graph s.words u.block p f (whole_here k s r id hist x at Promote tt promotes p.label) u.index v.0 (subst (λ (o : Option Debt). HasValue o u.index) (sym u.filled) tt) v.1 in
      let m = meets_value w.value v.0 w.stands in
      let b : Met = met_of u.block p in
      let lasts : Lasts live u.block (met_place b) = lasts_met live u.block p u.lives in
      let grows : More (known m.met) (known (b ∷ m.met)) = known_more live b m.met m.lives lasts in
      let front : x.seen.front ≡ r.account.log = (my_good k s r id hist x at).still.0 (subst IsInPause (sym promotes) tt) in
      record {
        after = with_met x (b ∷ m.met);
        rule = meets_rule (b ∷ m.met) (knows_more live b m.met m.lives lasts);
        told = record {
          block = u.block;
          place = p;
          index = u.index;
          is = u.is;
          inside = u.inside;
          old = u.old;
          here = known_met u.block p m.met;
          value = w.value;
          held = v.0;
          packable = packable k r.limits live r.whole.placed w.value v.0 w.stands;
          word = ap (at_address k s.words) u.is ∙ w.packs;
          has = subst (λ (log : List Entry). HasValueAt (state_of k log) p.label u.index v.0) (sym front) record { node = f.node; there = f.there; is = v.1 };
          stands = stands_more (known m.met) (known (b ∷ m.met)) w.value v.0 grows m.stands;
          more = more_trans (Knows x) (known m.met) (known (b ∷ m.met)) m.more grows;
          fit = met_fits k (known (b ∷ m.met)) live (knows_more live b m.met m.lives lasts) r.whole.placed;
          view = refl;
        };
      }

pub recall_may : (k : Config) (x : DomainView) (word a : ℕ) → word ≡ before_heap k + a → RecallMay x a → MayStep k x word (λ n. n) (Recalled k a)
recall_may k x word a place may fits slots id hist s r _ at _ =
    let o = recall_step k s r id hist x at may.stage a may in (
      one k hist o.after,
      keeps,
      tt,
      unmoved k s word (set s.views id (one k hist o.after)) o.rule,
      (subst (λ (n : ℕ). Recalled k a x (get_or s.words n 0) o.after) (sym place) o.told, refl),
    )

pub head_may : (k : Config) (x : DomainView) (word a : ℕ) → word ≡ before_heap k + a → HeadMay x a → MayStep k x word (λ n. n) (HeadMet k a)
head_may k x word a place may fits slots id hist s r _ at _ =
    let o = head_step k s r id hist x at may.stage a may in (
      one k hist o.after,
      keeps,
      tt,
      unmoved k s word (set s.views id (one k hist o.after)) o.rule,
      (subst (λ (n : ℕ). HeadMet k a x (get_or s.words n 0) o.after) (sym place) o.told, refl),
    )

pub value_may : (k : Config) (x : DomainView) (word a b i : ℕ) → word ≡ before_heap k + a → ValueMay k x a b i → MayStep k x word (λ n. n) (ValueMet k b i)
value_may k x word a b i place may fits slots id hist s r _ at _ =
    let o = value_step k s r id hist x at may.stage a b i may in (
      one k hist o.after,
      keeps,
      tt,
      unmoved k s word (set s.views id (one k hist o.after)) o.rule,
      (subst (λ (n : ℕ). ValueMet k b i x (get_or s.words n 0) o.after) (sym place) o.told, refl),
    )

pub label_may : (k : Config) (x : DomainView) (word a b : ℕ) → word ≡ before_heap k + a → LabelMay x a b → MayStep k x word (λ n. n) (LabelMet b)
label_may k x word a b place may fits slots id hist s r _ at _ =
    let l = (my_good k s r id hist x at).owes.knows b may.place may.met in
    let f = r.whole.found b l.place l.lives in
    let label : at_address k s.words a ≡ label_word may.place.label.domain may.place.label.serial = ap (at_address k s.words) may.word ∙ (f.label ∙ ap (λ (z : Label). label_word z.domain z.serial) l.label) in (
      one k hist x,
      keeps,
      tt,
      unmoved k s word (set s.views id (one k hist x)) (meets_rule k s r id hist x at may.stage x.seen.copying.met (knows k s r id hist x at may.stage)),
      (record { place = may.place; met = may.met; word = ap (λ (n : ℕ). get_or s.words n 0) place ∙ label; view = refl }, refl),
    )

-- what they tell leaves the plain data
pub head_met_own : (k : Config) (a : ℕ) (x : DomainView) (found : ℕ) (y : DomainView) → HeadMet k a x found y → y.own ≡ x.own
head_met_own k a x found y told = ⊎_elim (λ (t : StaysThere k a told.place x found y). ap (λ (z : DomainView). z.own) t.view) (λ (t : Forwards k a told.place x found y). ap (λ (z : DomainView). z.own) t.view) told.told

pub head_met_front : (k : Config) (a : ℕ) (x : DomainView) (found : ℕ) (y : DomainView) → HeadMet k a x found y → y.seen.front ≡ x.seen.front
head_met_front k a x found y told = ⊎_elim (λ (t : StaysThere k a told.place x found y). ap (λ (z : DomainView). z.seen.front) t.view) (λ (t : Forwards k a told.place x found y). ap (λ (z : DomainView). z.seen.front) t.view) told.told
