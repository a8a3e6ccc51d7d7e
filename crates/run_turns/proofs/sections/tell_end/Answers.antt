use Rattle.std.proofs.Common.{◌≡◌, ◌∙◌, ◌≤◌, false, length, None, sym, subst}
use Rattle.run_turns.specs.declared.place.Place.TheVariants.{AsEver, Within}
use Rattle.run_turns.specs.declared.supply.Supply.TheVariants.{Section}
use Rattle.run_turns.specs.Runs.{RunView}
use Rattle.run_turns.proofs.SectionTurns.{section_by, tells_is_run}
use Rattle.run_turns.proofs.sections.tell_end.Goals as goal

pub invariant_of-run : goal.invariant_of-run
invariant_of-run c =
    let r : RunView = record { token = c.run.inside.domain; commands = c.run.inside.commands.items; next = c.run.inside.next; replies = c.run.inside.replies.items; ended = c.run.inside.ended; left = c.run.inside.left; asked = c.run.inside.asked; collected = c.run.inside.collected; progress = c.run.inside.progress; due = c.run.inside.due; hints = c.run.inside.hints; supply = c.run.inside.supply; place = c.run.inside.place; spare = c.run.inside.spare; ran = c.run.inside.ran.items } in
    let running : r.ended ≡ false = subst (λ (x : RunView). x.ended ≡ false) (sym c.run.view_is) c.requires.running in
    let left : r.left ≡ None = subst (λ (x : RunView). x.left ≡ None) (sym c.run.view_is) c.requires.left in
    let was : r.place ≡ Within = subst (λ (x : RunView). x.place ≡ Within) (sym c.run.view_is) c.requires.was in
    let sectioned : r.supply ≡ Section = section_by r c.run.invariant.0 (λ ever. let clash : Within ≡ AsEver = sym was ∙ ever in cc) in
    let past : length r.commands ≤ r.next = subst (λ (x : RunView). length x.commands ≤ x.next) (sym c.run.view_is) c.requires.whole in
    let made = c.finish.ensures.makes in
    (tells_is_run c.args.heap.now r c.finish.new.dom c.run.invariant.0 sectioned running left was past made.steps made.makes made.are c.finish.ensures.rest, c.run.invariant.1)
