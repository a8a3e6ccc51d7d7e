use Rattle.std.proofs.Common.{◌∙◌, sym, subst}
use Rattle.heap_rule.specs.declared.phase.Note.TheVariants.{Want}
use Rattle.heap_rule.specs.Token.{IsIn}
use Rattle.run_turns.specs.Runs.{RunView}
use Rattle.run_turns.proofs.Looking.{looked_is_run}
use Rattle.run_turns.proofs.showing.show.Goals as goal

pub invariant_of-run : goal.invariant_of-run
invariant_of-run c =
    let r : RunView = record { token = c.run.inside.domain; commands = c.run.inside.commands.items; next = c.run.inside.next; replies = c.run.inside.replies.items; ended = c.run.inside.ended; left = c.run.inside.left; asked = c.run.inside.asked; collected = c.run.inside.collected; progress = c.run.inside.progress; due = c.run.inside.due; hints = c.run.inside.hints; supply = c.run.inside.supply; place = c.run.inside.place; spare = c.run.inside.spare; ran = c.run.inside.ran.items } in
    let here : IsIn r.token c.args.heap.now = subst (λ (x : RunView). IsIn x.token c.args.heap.now) (sym c.run.view_is) c.requires.here in
    (looked_is_run c.args.heap.now r c.shown_register.new.dom (Want c.wants.result.bits) c.run.invariant.0 here c.shown_register.ensures.here (c.shown_register.ensures.same ∙ c.wants.ensures.view), c.run.invariant.1)
