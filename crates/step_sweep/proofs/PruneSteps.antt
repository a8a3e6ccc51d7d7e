-- A look at the head of a listed ephemeron in Sweep keeps the rule.
use Rattle.std.proofs.Common.{◌≡◌, ◌≢◌, ℕ, ◌+◌, ◌<◌, ◌⊎◌, false, true≢false, IsTrue, List, set, slice_get, Option, Some, None, sym, refl, ap, ◌∙◌, subst, inl, inr, ⊎_elim, arith}
use Rattle.std.proofs.lemmas.Bool.{cases_Bool}
use Rattle.std.proofs.lemmas.Option.{same_Some, none-some}
use mathlib.Core.Logic.{dite}
use native.Mathlib.Decide.{ℕ_discrete}
use mathlib.Core.Option.{some}
use lib.ListN.{get_elem?}
use Rattle.heap_words.specs.Remembered.Bounded.{Bounded}
use Rattle.model_core.specs.declared.entry.Entry.{Entry}
use Rattle.model_core.specs.declared.state.State as model
use Rattle.heap_rule.specs.declared.phase.Stage.{Stage}
use Rattle.heap_rule.specs.declared.config.Config.{Config}
use Rattle.heap_rule.specs.declared.phase.Kind.TheVariants.{Sweep, Clean, Run}
use Rattle.heap_rule.specs.declared.phase.Stage.TheVariants.{In}
use Rattle.heap_rule.specs.declared.view.DomainView.{DomainView}
use Rattle.heap_rule.specs.declared.view.Own.{Own}
use Rattle.heap_rule.specs.declared.view.Share.{Share}
use Rattle.heap_rule.specs.Cycles.{IsCollecting, Knowing, IsIdle}
use Rattle.heap_rule.specs.Ephemerons.{IsEpheAt, Listed, ephemeron_of}
use Rattle.heap_rule.specs.Layout.{at_address, before_heap}
use Rattle.heap_rule.specs.Places.{Place}
use Rattle.heap_rule.specs.Raw.{Closes, MayStep}
use Rattle.heap_rule.specs.Rule.{Good, Rule, Sharing, state_of}
use Rattle.heap_rule.specs.Token.{OwnFits}
use Rattle.heap_rule.specs.Views.{one}
use Rattle.step_marks.proofs.OfMarking.Learning.{load_may}
use Rattle.heap_rule.proofs.Keeps.{Words, hunter_as, my_good}
use Rattle.step_sweep.specs.Freeing.{Frees, IsColoured}
use Rattle.step_sweep.specs.Pruning.{CanPrune, PruneMay, PruneTold, Prunes, pruned_to, unlisted}
use Rattle.step_sweep.proofs.Owning.{looked_lives}
use Rattle.step_sweep.proofs.Reaping.{reaped_to, reaps}
use Rattle.step_sweep.proofs.Removals.{among, before, still_among, was, was_among}
use Rattle.step_sweep.proofs.Finding.{calm as not_copying, colour_of_dead, live_not_dead, waits}
use Rattle.step_sweep.proofs.SweepSteps.{sweeps_rule}
use Rattle.step_sweep.proofs.SweepWrites.{once_same}
use Rattle.heap_rule.proofs.Fits.{swept_fits}

-- where garbage may be freed no keys are emptied
no_clean : (stage : Stage) → Frees stage → stage ≡ In Clean → ⊥
no_clean stage frees cleans = ⊎_elim (λ (e : stage ≡ In Sweep). let clash : In Sweep ≡ In Clean = sym e ∙ cleans in cc) (λ (e : stage ≡ In Run). let clash : In Run ≡ In Clean = sym e ∙ cleans in cc) frees

module _ (k : Config) (s : Words) (r : Rule k s) (id : ℕ) (hist : List Entry) (x : DomainView) (at : get_elem? s.views id ≡ some (one k hist x)) (a i garbage : ℕ) (may : PruneMay x a i garbage) where
  open r.account use {live, tenancy as t, cycling as c}
  open x use {own.{number as d, ephemerons.{items}}, seen.{share as sh}}

  abbrev now : model.State
  now = state_of k r.account.log

  abbrev found : ℕ
  found = at_address k s.words a

  abbrev After : DomainView → Type 0
  After y = Rule k record { words = s.words; homes = s.homes; views = set s.views id (one k hist y) }

  good : Good k r.account s.words x
  good = my_good k s r id hist x at

  -- the ephemeron lives: none up to it is garbage
  clean : IsEpheAt live a → t.garbage a ≡ false
  clean e = ⊎_elim
      (λ (is : IsTrue (t.garbage a)). absurd (let clash : ◌≡◌ {A = Option Place} None (Some e.place) = sym (r.whole.cycle.leaves.dead a is) ∙ e.lives in cc))
      (λ (is : t.garbage a ≡ false). is)
      (cases_Bool (t.garbage a))

  none_dead : IsEpheAt live a → (j b : ℕ) → j < i + 1 → slice_get items j ≡ Some b → t.garbage b ≡ false
  none_dead e j b low got = dite (ℕ_discrete j i)
      (λ same. let here : b ≡ a = same_Some b a (sym got ∙ (ap (slice_get items) same ∙ may.listed)) in ap t.garbage here ∙ clean e)
      (λ other. good.sweeps.listed j b (let m : ℕ = x.own.swept.listed in let f : m ≡ i = may.next in let n : j ≢ i = other in let l : j < i + 1 = low in let g : j < m = omega arith in g) got)

  passes : IsEpheAt live a → After (record x { own = pruned_to i x.own })
  passes e = let w = good.sweeps in sweeps_rule k s r id hist x at (record x.own.swept { listed = i + 1 }) sh.reaping sh.swept record { listed = none_dead e; places = w.places; anew = λ _ up. absurd (true≢false (sym up ∙ waits k s r id hist x at may.stage)); reaps = w.reaps; below = w.below }

  -- it is garbage: it is listed no more
  abbrev shorter : Bounded ℕ
  shorter = (unlisted a i x.own).ephemerons

  abbrev y : DomainView
  y = record x { own = unlisted a i x.own }

  module _ (dead : IsTrue (t.garbage a)) where
    none : live a ≡ None
    none = r.whole.cycle.leaves.dead a dead

    -- an ephemeron at which the domain looks lives
    looks_alive : (b : ℕ) → ephemeron_of sh.scan ≡ Some b → (p : Place) × (live b ≡ Some p)
    looks_alive b e = ⊎_elim
        (λ (idle : IsIdle sh). absurd (none-some b (sym (ap (λ (z : Share). ephemeron_of z.scan) idle) ∙ e)))
        (λ (n : IsCollecting x.seen.stage × Knowing k live t.holder now.graph c.paint.marks s.words d x.own.registers sh). looked_lives live now.graph c.paint.marks sh.scan n.1.scan b e)
        good.sharing.knows

    -- whatever lives is another one
    apart : (b : ℕ) (p : Place) → live b ≡ Some p → b ≢ a
    apart b p lives same = let clash : ◌≡◌ {A = Option Place} None (Some p) = sym none ∙ (ap live (sym same) ∙ lives) in cc

    listed_own : Listed live t.holder t.garbage d shorter.items
    listed_own = let l = good.listed in record {
      all = λ q class slot is inside e. still_among items i a may.listed _ (apart _ e.place e.lives) (l.all q class slot is inside e);
      own = λ b is. l.own b (was_among items i a may.listed b is);
      lives = λ b is. l.lives b (was_among items i a may.listed b is);
    }

    sharing' : Sharing k (reaped_to k s r id hist x at live t.garbage c) s.words d x.own.registers x.own.finalisers shorter.items x.seen.stage sh
    sharing' = let g = good.sharing in record {
      telling = g.telling;
      leading = g.leading;
      knows = g.knows;
      adds = g.adds;
      looks = record {
        at_own = λ b e. let w = looks_alive b e in still_among items i a may.listed b (apart b w.0 w.1) (g.looks.at_own b e);
        cleans = λ w e. absurd (no_clean x.seen.stage may.stage (g.looks.cleans w e).stage_is);
        emptied_is = g.looks.emptied_is;
      };
      running = g.running;
      deciding = g.deciding;
    }

    removes : After y
    removes = reaps k s r id hist x at x.own.looked shorter x.own.swept sh live t.garbage c s.words record {
      wide = refl;
      control = λ j _ _ _ _. refl;
      calm = not_copying k s r id hist x at may.stage;
      kind = refl;
      subset = λ b p lives. lives;
      stood = λ z st. st;
      fields = λ z _ g. g.owes.fields;
      found = r.whole.found;
      grid = r.whole.grid;
      makings = λ z g. g.making;
      hunter = hunter_as k t s.words x y refl refl refl refl refl refl refl good.hunter;
      hunters = λ z _ g. g.hunter;
      cycle = r.whole.cycle;
      sharing = sharing';
      sharings = λ z _ _ g. g.sharing;
      listed_own = listed_own;
      listeds = λ z _ g. g.listed;
      left = r.whole.full.left;
      sweeps = let w = good.sweeps in record { listed = λ j b low got. w.listed j b low (sym (before items i a may.listed j (let m : ℕ = x.own.swept.listed in let f : m ≡ i = may.next in let l : j < m = low in let g : j < i = omega arith in g)) ∙ got); places = w.places; anew = w.anew; reaps = w.reaps; below = w.below };
      others_sweep = λ z _ _ g. g.sweeps;
    }

  means : garbage ≡ may.colours.garbage
  means = may.means

  pub prunes : (z : DomainView) × After z × PruneTold a i garbage x found z
  prunes = ⊎_elim
      (λ (e : IsEpheAt live a). (
        record x { own = pruned_to i x.own },
        passes e,
        record { told = inl (λ is. live_not_dead k s r id hist x at may.stage may.colours may.known a e.place e.lives (subst (λ (n : ℕ). IsColoured n found) means is), refl) },
      ))
      (λ (dead : IsTrue (t.garbage a)). (
        y,
        removes dead,
        record { told = inr (subst (λ (n : ℕ). IsColoured n found) (sym means) (colour_of_dead k s r id hist x at may.stage may.colours may.known a dead), refl) },
      ))
      (good.listed.lives a (among items i a may.listed))

pub prune_may : (k : Config) (x : DomainView) (word a i garbage : ℕ) → word ≡ before_heap k + a → PruneMay x a i garbage → MayStep k x word (λ n. n) (PruneTold a i garbage)
prune_may k x word a i garbage place may = load_may k x word a (PruneTold a i garbage) place (λ s r id hist at. prunes k s r id hist x at a i garbage may)

-- what the step tells of the list is what is made of it
module _ (k : Config) (x : DomainView) (found a i garbage : ℕ) (may : PruneMay x a i garbage) where
  still_fits : OwnFits k x.own → OwnFits k (unlisted a i x.own)
  still_fits fits = swept_fits k x.own (unlisted a i x.own).ephemerons x.own.swept (λ j b got. let w = was x.own.ephemerons.items i a may.listed j b got in fits.ephemerons w.0 b w.1) fits.swept fits

  written : (y : DomainView) → PruneTold a i garbage x found y → (after : Own) → Prunes a i garbage found x.own after → y.own ≡ after
  written y told after is = ⊎_elim
      (λ (u : (IsColoured garbage found → ⊥) × (y ≡ record x { own = pruned_to i x.own })). ⊎_elim
      (λ (w : (IsColoured garbage found → ⊥) × (after ≡ pruned_to i x.own)). ap (λ (z : DomainView). z.own) u.1 ∙ sym w.1)
      (λ (w : IsColoured garbage found × (after ≡ unlisted a i x.own)). absurd (u.0 w.0))
      is)
      (λ (u : IsColoured garbage found × (y ≡ record x { own = unlisted a i x.own })). ⊎_elim
      (λ (w : (IsColoured garbage found → ⊥) × (after ≡ pruned_to i x.own)). absurd (w.0 u.0))
      (λ (w : IsColoured garbage found × (after ≡ unlisted a i x.own)). ap (λ (z : DomainView). z.own) u.1 ∙ sym w.1)
      is)
      told.told

  view_or : (y : DomainView) → PruneTold a i garbage x found y → (y ≡ record x { own = pruned_to i x.own }) ⊎ (y ≡ record x { own = unlisted a i x.own })
  view_or y told = ⊎_elim (λ u. inl u.1) (λ u. inr u.1) told.told

  pub prune_closes : Closes k x found (PruneTold a i garbage) (CanPrune a i) (Prunes a i garbage found)
  prune_closes y fits told = record {
    can_write = (may.listed, may.next);
    written = written y told;
    fits = ⊎_elim
        (λ e. subst (OwnFits k) (sym (ap (λ (z : DomainView). z.own) e)) (swept_fits k x.own x.own.ephemerons (record x.own.swept { listed = i + 1 }) fits.ephemerons (record { pool = fits.swept.pool; slot = fits.swept.slot; top = fits.swept.top }) fits))
        (λ e. subst (OwnFits k) (sym (ap (λ (z : DomainView). z.own) e)) (still_fits fits))
        (view_or y told);
    once = ⊎_elim
        (λ e. once_same k x y (ap (λ (z : DomainView). z.seen.front) e) (ap (λ (z : DomainView). z.own.registers) e) (ap (λ (z : DomainView). z.own.used) e) (ap (λ (z : DomainView). z.own.serial) e))
        (λ e. once_same k x y (ap (λ (z : DomainView). z.seen.front) e) (ap (λ (z : DomainView). z.own.registers) e) (ap (λ (z : DomainView). z.own.used) e) (ap (λ (z : DomainView). z.own.serial) e))
        (view_or y told);
  }
