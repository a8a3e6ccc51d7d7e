-- A load of the colours keeps the rule.
use Rattle.std.proofs.Common.{◌≡◌, ◌≢◌, ℕ, true, true≢false, List, set, Some, sym, refl, ◌∙◌}
use mathlib.Core.Option.{some}
use lib.ListN.{get_elem?}
use Rattle.atomic_table.specs.Table.{keeps}
use Rattle.model_core.specs.declared.entry.Entry.{Entry}
use Rattle.heap_rule.specs.declared.config.Config.{Config}
use Rattle.heap_rule.specs.declared.phase.Stage.{Stage}
use Rattle.heap_rule.specs.declared.phase.Stage.TheVariants.{In, Leads, Led, Gone}
use Rattle.heap_rule.specs.declared.view.DomainView.{DomainView}
use Rattle.heap_rule.specs.declared.view.Share.{Share}
use Rattle.heap_rule.specs.Cycles.{Cycling, MayLook}
use Rattle.heap_rule.specs.Raw.{MayStep}
use Rattle.heap_rule.specs.Rule.{Rule, Sharing}
use Rattle.heap_rule.specs.Views.{one}
use Rattle.heap_rule.proofs.Keeps.{Words, my_good, unmoved}
use Rattle.step_marks.specs.Marking.Looks.{with_share, ColoursTold}
use Rattle.step_marks.proofs.OfMarking.Learning.{learns, sharing_learnt}
use Rattle.heap_rule.proofs.Stages.{waits_in}

module _ (k : Config) (s : Words) (r : Rule k s) (id : ℕ) (hist : List Entry) (x : DomainView) (at : get_elem? s.views id ≡ some (one k hist x)) where
  abbrev c : Cycling
  c = r.account.cycling

  -- who may look and has arrived is domain 0
  first : (stage : Stage) → x.seen.stage ≡ stage → MayLook x.own.number stage → c.shares.arrived x.own.number ≡ true → x.own.number ≢ 0 → ⊥
  first (In kind) is may up other = true≢false (sym up ∙ waits_in k s r id hist x at kind is)
  first (Leads kind) is may up other = other may
  first (Led kind) is may up other = other may
  first (Gone kind) is may up other = may

  abbrev told_share : Share
  told_share = record x.seen.share { colours = Some c.paint.colours }

  colours_sharing : MayLook x.own.number x.seen.stage → Sharing k r.account s.words x.own.number x.own.registers x.own.finalisers x.own.ephemerons.items x.seen.stage told_share
  colours_sharing may = let sh = x.seen.share in let l = (my_good k s r id hist x at).sharing.leading in sharing_learnt k s r id hist x at (Some c.paint.colours) sh.armed sh.changed sh.blocks sh.reaping sh.swept
      (λ up other. absurd (first x.seen.stage refl may up other))
      (λ known e. let same : Some c.paint.colours ≡ Some known = e in cc)
      l.armed l.changed l.found_blocks

  colours_rule : MayLook x.own.number x.seen.stage → Rule k record { words = s.words; homes = s.homes; views = set s.views id (one k hist (with_share x told_share)) }
  colours_rule may = learns k s r id hist x at told_share (colours_sharing may) (my_good k s r id hist x at).sweeps

pub colours_may : (k : Config) (x : DomainView) → MayLook x.own.number x.seen.stage → MayStep k x 5 (λ n. n) (ColoursTold k)
colours_may k x may fits slots id hist s r _ at _ =
    let y : DomainView = with_share x (told_share k s r id hist x at) in (
      one k hist y,
      keeps,
      tt,
      unmoved k s 5 (set s.views id (one k hist y)) (colours_rule k s r id hist x at may),
      (record { colours = r.account.cycling.paint.colours; meanings = r.whole.cycle.meanings; word = r.whole.cycle.colours_are; inside = fits.finalisers.inside; view = refl }, refl),
    )
