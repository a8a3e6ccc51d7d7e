use Rattle.std.proofs.Common.{◌≡◌, ◌∙◌, false, pos, Bool, None, slice_get, sym, ap, subst}
use Rattle.do_spawn.specs.Expanding.{LooksAt}
use Rattle.do_spawn.proofs.Making.{words_of_registers}
use Rattle.run_turns.specs.declared.place.Place.TheVariants.{AsEver, Before}
use Rattle.run_turns.specs.declared.supply.Supply.TheVariants.{Section}
use Rattle.run_turns.specs.Runs.{RunView}
use Rattle.run_turns.specs.Sections.{awaited, awaited_flag}
use Rattle.run_turns.proofs.SectionTurns.{held_is_run, section_by, sees_is_run}
use Rattle.run_turns.proofs.sections.see_start.Goals as goal

pub invariant_of-run : goal.invariant_of-run
invariant_of-run c =
    let r : RunView = record { token = c.run.inside.domain; commands = c.run.inside.commands.items; next = c.run.inside.next; replies = c.run.inside.replies.items; ended = c.run.inside.ended; left = c.run.inside.left; asked = c.run.inside.asked; collected = c.run.inside.collected; progress = c.run.inside.progress; due = c.run.inside.due; hints = c.run.inside.hints; supply = c.run.inside.supply; place = c.run.inside.place; spare = c.run.inside.spare; ran = c.run.inside.ran.items } in
    let running : r.ended ≡ false = subst (λ (x : RunView). x.ended ≡ false) (sym c.run.view_is) c.requires.running in
    let left : r.left ≡ None = subst (λ (x : RunView). x.left ≡ None) (sym c.run.view_is) c.requires.left in
    let was : r.place ≡ Before = subst (λ (x : RunView). x.place ≡ Before) (sym c.run.view_is) c.requires.was in
    let sectioned : r.supply ≡ Section = section_by r c.run.invariant.0 (λ ever. let clash : Before ≡ AsEver = sym was ∙ ever in cc) in
    let looked = subst (λ (b : Bool). LooksAt c.args.heap.now r.token c.begun-seen.new.dom r.token.view.own.number (pos 1) b) c.if-seen.true c.begun-seen.ensures.looks in
    (sees_is_run c.args.heap.now r c.begun-seen.new.dom c.run.invariant.0 sectioned running left was looked (words_of_registers _ _ c.begun-seen.ensures.rest), c.run.invariant.1)

pub invariant_of-run-else-seen : goal.invariant_of-run-else-seen
invariant_of-run-else-seen c =
    let r : RunView = record { token = c.run.inside.domain; commands = c.run.inside.commands.items; next = c.run.inside.next; replies = c.run.inside.replies.items; ended = c.run.inside.ended; left = c.run.inside.left; asked = c.run.inside.asked; collected = c.run.inside.collected; progress = c.run.inside.progress; due = c.run.inside.due; hints = c.run.inside.hints; supply = c.run.inside.supply; place = c.run.inside.place; spare = c.run.inside.spare; ran = c.run.inside.ran.items } in
    let running : r.ended ≡ false = subst (λ (x : RunView). x.ended ≡ false) (sym c.run.view_is) c.requires.running in
    let left : r.left ≡ None = subst (λ (x : RunView). x.left ≡ None) (sym c.run.view_is) c.requires.left in
    let was : r.place ≡ Before = subst (λ (x : RunView). x.place ≡ Before) (sym c.run.view_is) c.requires.was in
    let sectioned : r.supply ≡ Section = section_by r c.run.invariant.0 (λ ever. let clash : Before ≡ AsEver = sym was ∙ ever in cc) in
    let looked = subst (λ (b : Bool). LooksAt c.args.heap.now r.token c.begun-seen.new.dom r.token.view.own.number (pos 1) b) c.if-seen.false c.begun-seen.ensures.looks in (
      held_is_run c.args.heap.now r c.begun-seen.new.dom c.run.invariant.0 sectioned running left r.token.view.own.number (ap (λ p. awaited p r.token.view.own.number (slice_get r.commands r.next)) was)
          (subst (λ p. LooksAt c.args.heap.now r.token c.begun-seen.new.dom r.token.view.own.number (awaited_flag p) false) (sym was) looked) (words_of_registers _ _ c.begun-seen.ensures.rest),
      c.run.invariant.1,
    )
