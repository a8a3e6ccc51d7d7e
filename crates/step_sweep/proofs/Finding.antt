-- What the head at an own place says to a domain that may free garbage.
use Rattle.std.proofs.Common.{◌≡◌, ◌≢◌, ℕ, ◌<◌, Bool, true, false, true≢false, cond, IsTrue, List, Some, sym, ap, ◌∙◌, subst, ⊎_elim}
use mathlib.Core.Option.{some}
use lib.ListN.{get_elem?}
use Rattle.model_core.specs.declared.entry.Entry.{Entry}
use Rattle.heap_words.specs.declared.colours.Colours.{Colours}
use Rattle.heap_words.specs.ColourWords.{IsPermutation}
use Rattle.heap_rule.specs.declared.config.Config.{Config}
use Rattle.heap_rule.specs.declared.phase.Kind.TheVariants.{Run, Sweep}
use Rattle.heap_rule.specs.declared.phase.Stage.TheVariants.{In}
use Rattle.heap_rule.specs.declared.view.DomainView.{DomainView}
use Rattle.heap_rule.specs.Copies.{Promoting}
use Rattle.heap_rule.specs.Cycles.{IsCollecting}
use Rattle.heap_rule.specs.Layout.{at_address}
use Rattle.heap_rule.specs.Places.{Paint, Place, Settled, colour_in}
use Rattle.heap_rule.specs.Pools.{blocks_of, owned, place_in}
use Rattle.heap_rule.specs.Rule.{Rule}
use Rattle.heap_rule.specs.Views.{one}
use Rattle.heap_rule.proofs.HeadLemmas.{packable_head}
use Rattle.heap_rule.proofs.Keeps.{Words, my_good}
use Rattle.heap_rule.proofs.PauseFacts.{run_promoting}
use Rattle.heap_rule.proofs.Stages.{waits_in}
use Rattle.step_marks.proofs.OfMarking.Colouring.{BareHead, bare_head}
use Rattle.step_marks.proofs.OfMarking.Learning.{not_promoting}
use Rattle.step_sweep.specs.Freeing.{Frees, IsColoured}
use Rattle.step_sweep.proofs.HeadColours.{no_colour, one_colour}

-- neither what is marked nor what isn't has the colour of garbage
no_garbage_colour : (c : Colours) (b : Bool) → IsPermutation c → cond b c.marked c.unmarked ≢ c.garbage
no_garbage_colour c true p e = p.garbage_differs (sym e)
no_garbage_colour c false p e = p.unmarked_differs e

module _ (k : Config) (s : Words) (r : Rule k s) (id : ℕ) (hist : List Entry) (x : DomainView) (at : get_elem? s.views id ≡ some (one k hist x)) (stage : Frees x.seen.stage) where
  -- nobody copies young blocks
  pub calm : Promoting r.account.pause → ⊥
  calm = ⊎_elim
      (λ (here : x.seen.stage ≡ In Sweep). not_promoting k s r id hist x at (subst IsCollecting (sym here) (λ none. none)))
      (λ (here : x.seen.stage ≡ In Run). run_promoting r.account.pause x here (my_good k s r id hist x at).staged)
      stage

  -- and the domain hasn't arrived
  pub waits : r.account.cycling.shares.arrived x.own.number ≡ false
  waits = ⊎_elim (λ (here : x.seen.stage ≡ In Sweep). waits_in k s r id hist x at Sweep here) (λ (here : x.seen.stage ≡ In Run). waits_in k s r id hist x at Run here) stage

  settled : Settled r.account.live
  settled = ⊎_elim (λ (h : Settled r.account.live). h) (λ (h : Promoting r.account.pause). absurd (calm h)) r.whole.settled

  -- the colours that the domain knows are those of the heads
  module _ (colours : Colours) (knows : x.seen.share.colours ≡ Some colours) where
    means_here : colours ≡ r.account.cycling.paint.colours
    means_here = (my_good k s r id hist x at).sharing.telling.colours colours knows

    pub colour_of_dead : (a : ℕ) → IsTrue (r.account.tenancy.garbage a) → IsColoured colours.garbage (at_address k s.words a)
    colour_of_dead a is = let h = r.whole.cycle.leaves.head a is in let c = r.account.cycling.paint.colours in record {
      shape = h.0.0;
      head = record { colour = c.garbage; scanned = h.1; fits = h.0.1; packable = packable_head h.0.0 c.garbage h.1 r.whole.cycle.meanings.garbage_fits h.0.1; packs = h.2 };
      colour_is = sym (ap (λ (z : Colours). z.garbage) means_here);
    }

    -- nothing that lives has the colour of garbage
    pub live_not_dead : (a : ℕ) (p : Place) → r.account.live a ≡ Some p → IsColoured colours.garbage (at_address k s.words a) → ⊥
    live_not_dead a p lives dead =
        let paint : Paint = r.account.cycling.paint in
        let b : BareHead paint p (at_address k s.words a) = bare_head paint p (at_address k s.words a) (settled a p lives) r.whole.cycle.meanings (r.whole.placed.fits a p lives).head (r.whole.found a p lives).head in
        let same : colour_in paint p.label ≡ colours.garbage = one_colour (colour_in paint p.label) colours.garbage (at_address k s.words a) (record { shape = p.shape; head = b.head; colour_is = b.colour }) dead in
        no_garbage_colour paint.colours (paint.marks.marked p.label) r.whole.cycle.meanings (same ∙ ap (λ (z : Colours). z.garbage) means_here)

    -- nor has the head at an own place where no garbage lies
    pub clean_place : (pool class slot : ℕ) → r.account.tenancy.holder pool ≡ owned x.own.number class → slot < blocks_of class → r.account.tenancy.garbage (place_in pool class slot) ≡ false → IsColoured colours.garbage (at_address k s.words (place_in pool class slot)) → ⊥
    clean_place pool class slot own inside clean dead = let a : ℕ = place_in pool class slot in ⊎_elim
        (λ (z : at_address k s.words a ≡ 0). no_colour colours.garbage (at_address k s.words a) dead z)
        (λ z. ⊎_elim
        (λ (u : (p : Place) × (r.account.live a ≡ Some p)). live_not_dead a u.0 u.1 dead)
        (λ u. ⊎_elim
        (λ (f : r.account.tenancy.prepared a ≡ Some x.own.number). calm (r.whole.drawers.prepared a x.own.number f).1)
        (λ (f : IsTrue (r.account.tenancy.garbage a)). true≢false (sym f ∙ clean))
        u)
        z)
        (r.whole.grid.places pool x.own.number class slot own inside)
