-- One block's place changes in what it is owed or in which of its values are remembered: its label, its shape and its forwarding stay.
use Rattle.heap_rule.proofs.Again.{ephe_back}
use Rattle.std.proofs.Common.{◌≡◌, ◌≢◌, ℕ, ◌+◌, ◌<◌, IsTrue, List, length, set, slice_get, Option, Some, unwrap_or, sym, refl, ap, ◌∙◌, subst, arith}
use mathlib.Core.Logic.{dite}
use native.Mathlib.Decide.{ℕ_discrete}
use mathlib.Core.Option.{some}
use lib.ListN.{get_elem?}
use Rattle.model_core.specs.declared.entry.Entry.{Entry}
use Rattle.model_core.specs.Fronts.{Shape}
use Rattle.heap_rule.specs.declared.config.Config.{Config}
use Rattle.heap_rule.specs.declared.view.DomainView.{DomainView}
use Rattle.heap_rule.specs.declared.view.Own.{Own}
use Rattle.heap_rule.specs.declared.phase.Kind.TheVariants.{Promote}
use Rattle.heap_rule.specs.declared.phase.Stage.TheVariants.{In}
use Rattle.heap_rule.specs.Copies.{IsCopied, Owes, Copies, AllCleared}
use Rattle.heap_rule.specs.Layout.{base_of, at_address, listed, cursor}
use Rattle.heap_rule.specs.Phases.{Pause}
use Rattle.heap_rule.specs.Places.{Place, Live, span, More}
use Rattle.heap_rule.specs.Pools.{Stock, Hunter, Grid}
use Rattle.heap_rule.specs.Room.{Room}
use Rattle.heap_rule.specs.Rule.{state_of, AllFound, Area, Making, Rule}
use Rattle.heap_rule.specs.Views.{one}
use Rattle.heap_rule.proofs.Again.{Was, Back, placed_back, spread_back, opened_back, area_back, grid_back, none_back}
use Rattle.heap_rule.proofs.Keeps.{Words, Control, my_good, garbage_here, hunter_as, pools_same, room_words, opened_words}
use Rattle.heap_rule.proofs.Update.{over, over_here, over_else}
use Rattle.step_promote.proofs.Remaking.{copying_as, promotes_again, stood_same}
use Rattle.heap_rule.proofs.FullnessLemmas.{full_back}

-- room stays where each block lives as it did, and forwards as it did
pub room_forth : (k : Config) (live live' : Live) (p : Pause) (s : Stock) (words : List ℕ) → ((b : ℕ) (q : Place) → live b ≡ Some q → Was live' b q) → Back live live' → Room k live p s words → Room k live' p s words
room_forth k live live' p s words forth back r = record {
  fills = r.fills;
  fit = r.fit;
  claims = λ a e. let c = r.claims a e in let w = forth c.block c.place c.lives in record {
    block = c.block;
    copy = c.copy;
    place = w.place;
    lives = w.lives;
    forwards = w.forward ∙ c.forwards;
    young = c.young;
    from = c.from;
    to = subst (λ (z : Shape). a < c.block + span z) (sym w.shape) c.to;
  };
  listed_copies = r.listed_copies;
  left = λ h a q lives young. let w = back a q lives in r.left h a w.place w.lives young;
}

module _ (live : Live) (c : ℕ) (p p2 : Place) (lives : live c ≡ Some p) (label : p2.label ≡ p.label) (shape : p2.shape ≡ p.shape) (forward : p2.forward ≡ p.forward) where
  abbrev pub live2 : Live
  live2 = over c (Some p2) live

  pub here2 : live2 c ≡ Some p2
  here2 = over_here c (Some p2) live

  pub was : (b : ℕ) (q : Place) → b ≢ c → live2 b ≡ Some q → live b ≡ Some q
  was b q other e = sym (over_else c (Some p2) live b other) ∙ e

  pub is2 : (b : ℕ) (q : Place) → b ≡ c → live2 b ≡ Some q → p2 ≡ q
  is2 b q same e = ap (λ (z : Option Place). unwrap_or z p2) (sym here2 ∙ (ap live2 (sym same) ∙ e))

  pub is1 : (b : ℕ) (q : Place) → b ≡ c → live b ≡ Some q → p ≡ q
  is1 b q same e = ap (λ (z : Option Place). unwrap_or z p) (sym lives ∙ (ap live (sym same) ∙ e))

  -- each block lives again, and forwards as before
  pub forth : (b : ℕ) (q : Place) → live b ≡ Some q → Was live2 b q
  forth b q e = dite (ℕ_discrete b c)
      (λ same. let i = is1 b q same e in record { place = p2; lives = ap live2 same ∙ here2; label = label ∙ ap (λ (z : Place). z.label) i; shape = shape ∙ ap (λ (z : Place). z.shape) i; forward = forward ∙ ap (λ (z : Place). z.forward) i })
      (λ other. record { place = q; lives = over_else c (Some p2) live b other ∙ e; label = refl; shape = refl; forward = refl })

  pub copied_again : (a d : ℕ) → IsCopied live a d → IsCopied live2 a d
  copied_again a d u = let w = forth a u.place u.lives in record { place = w.place; lives = w.lives; forwards = w.forward ∙ u.forwards }

  pub back : Back live live2
  back b q e = dite (ℕ_discrete b c)
      (λ same. let i = is2 b q same e in record { place = p; lives = ap live same ∙ lives; label = sym label ∙ ap (λ (z : Place). z.label) i; shape = sym shape ∙ ap (λ (z : Place). z.shape) i; forward = sym forward ∙ ap (λ (z : Place). z.forward) i })
      (λ other. record { place = q; lives = was b q other e; label = refl; shape = refl; forward = refl })

  pub more : More live live2
  more b q e = let w = forth b q e in record { place = w.place; lives = w.lives; label = w.label; shape = w.shape }

module _ (k : Config) (s : Words) (r : Rule k s) (id : ℕ) (hist : List Entry) (x : DomainView) (at : get_elem? s.views id ≡ some (one k hist x)) (promotes : x.seen.stage ≡ In Promote)
    (c : ℕ) (p p2 : Place) (lives : r.account.live c ≡ Some p) (label : p2.label ≡ p.label) (shape : p2.shape ≡ p.shape) (forward : p2.forward ≡ p.forward) where
  abbrev before : Live
  before = r.account.live

  abbrev after : Live
  after = live2 before c p p2 lives label shape forward

  -- the domain with what another view is still to fill or to look through
  abbrev pub filling_as : DomainView → DomainView
  filling_as y = record x { seen = record x.seen { copying = y.seen.copying; remembered = y.seen.remembered } }

  -- what a step owes that changes the place of one block, and nothing of its own but what it is still to fill or to look through
  pub record Changes (y : DomainView) (words' : List ℕ) : Type 0 where
    pub same : y ≡ filling_as y
    pub wide : length words' ≡ length s.words
    pub control : Control k s.words words'
    pub found : AllFound k r.account.cycling.paint after (state_of k r.account.log).graph words'
    pub copies : Copies k after
    pub cleared : AllCleared k after r.account.pause
    pub grid : Grid k r.account.tenancy before words'
    pub heads : (b : ℕ) → IsTrue (r.account.tenancy.garbage b) → at_address k words' b ≡ at_address k s.words b
    pub makings : (z : DomainView) → Area k before z → Making k s.words z → Making k words' z
    pub hunters : (z : DomainView) → Hunter k r.account.tenancy s.words z → Hunter k r.account.tenancy words' z
    pub owes : Owes k after y
    pub owe : (z : DomainView) → z.own.number ≢ x.own.number → Owes k before z → Owes k after z

  pub changes_again : (y : DomainView) (words' : List ℕ) → Changes y words' → Rule k record { words = words'; homes = s.homes; views = set s.views id (one k hist y) }
  changes_again y words' o =
      let g = my_good k s r id hist x at in
      let t = r.account.tenancy in
      let own_same : y.own ≡ x.own = ap (λ (z : DomainView). z.own) o.same in
      let number : y.own.number ≡ x.own.number = ap (λ (z : Own). z.number) own_same in
      let forth1 = forth before c p p2 lives label shape forward in
      let back1 = back before c p p2 lives label shape forward in
      let more1 = more before c p p2 lives label shape forward in
      let area = area_back k before after x back1 g.area in
      let making = o.makings x g.area g.making in
      let counts : (listed words' ≡ listed s.words) × (cursor words' ≡ cursor s.words) = (o.control 6 (omega arith), o.control 7 (omega arith)) in
      promotes_again k s r id hist x at promotes y words' after t r.account.homes record {
        same = o.same ∙ ap (copying_as k s r id hist x at promotes) (sym o.same);
        full = full_back k r.account.log before after t.holder t.fresh t.garbage r.account.homes r.account.cycling.kind back1 r.whole.full;
        garbage = garbage_here k s r id hist x at after words' (λ b dead. none_back before after b back1 (r.whole.cycle.leaves.dead b dead)) o.heads;
        holders = λ q. refl;
        no_more = ephe_back before after back1;
        wide = o.wide;
        control = o.control;
        found = o.found;
        placed = placed_back k before after back1 r.whole.placed;
        spread = spread_back k before after back1 r.whole.spread;
        more = more1;
        young = λ b q e _. let w = back1 b q e in (w.place, w.lives, w.label);
        copies = o.copies;
        cleared = o.cleared;
        pools = pools_same k t s.words words' o.control r.whole.pools;
        grid = grid_back k t before after words' back1 more1 o.grid;
        drawers = r.whole.drawers;
        room = room_words k after r.account.pause t.stock s.words words' (λ _. counts) (room_forth k before after r.account.pause t.stock s.words forth1 back1 r.whole.room);
        opened = opened_words k after s.words words' (λ _ _ _ _. counts.0) (opened_back k before after s.words back1 r.whole.opened);
        stood = stood_same k s r id hist x at promotes y number (ap (λ (z : Own). z.registers) own_same) (ap (λ (z : Own). z.serial) own_same) (ap (λ (z : Own). z.finalisers) own_same) after more1;
        area = subst (λ (z : Own). Area k after (record y { own = z })) (sym (ap (λ (z : DomainView). z.own) o.same)) record { room = area.room; free = area.free; classes = area.classes };
        making = making_as making;
        hunter = hunter_as k t words' x y number (ap (λ (z : DomainView). z.seen.hunt) o.same) (ap (λ (z : Own). z.looked) own_same) (ap (λ (z : DomainView). z.seen.free) o.same) (ap (λ (z : DomainView). z.seen.spare) o.same) (ap (λ (z : Own). z.prepared) own_same) (ap (λ (z : Own). length z.pending.items) own_same) (o.hunters x g.hunter);
        owes = o.owes;
        areas = λ z _ a. area_back k before after z back1 a;
        makings = λ z _ a m. o.makings z a m;
        hunters = λ z _ h. o.hunters z h;
        owe = o.owe;
      }
    where
      making_as : Making k words' x → Making k words' y
      making_as m = record {
        fits = λ j w got. subst (λ (z : Own). z.used + j + 1 < k.minor_words) (sym (ap (λ (z : DomainView). z.own) o.same)) (m.fits j w (ap (λ (l : List ℕ). slice_get l j) (sym (ap (λ (z : DomainView). z.seen.made) o.same)) ∙ got));
        written = λ j w got. subst (λ (z : Own). at_address k words' (base_of k z.number + z.used + 1 + j) ≡ w) (sym (ap (λ (z : DomainView). z.own) o.same)) (m.written j w (ap (λ (l : List ℕ). slice_get l j) (sym (ap (λ (z : DomainView). z.seen.made) o.same)) ∙ got));
      }
