use Rattle.std.proofs.Common.{◌≡◌, None, sym, subst}
use Rattle.heap_rule.specs.declared.phase.Note.TheVariants.{Ended}
use Rattle.heap_rule.specs.Token.{IsIn}
use Rattle.run_turns.specs.Runs.{RunView}
use Rattle.run_turns.proofs.Turning.{noted_is_run}
use Rattle.run_turns.proofs.turns.rest.Goals as goal

pub invariant_of-run : goal.invariant_of-run
invariant_of-run c =
    let r : RunView = record { token = c.run.inside.domain; commands = c.run.inside.commands.items; next = c.run.inside.next; replies = c.run.inside.replies.items; ended = c.run.inside.ended; left = c.run.inside.left; asked = c.run.inside.asked; collected = c.run.inside.collected; progress = c.run.inside.progress; due = c.run.inside.due; hints = c.run.inside.hints; supply = c.run.inside.supply; place = c.run.inside.place; spare = c.run.inside.spare; ran = c.run.inside.ran.items } in
    let here : IsIn r.token c.args.heap.now = subst (λ (x : RunView). IsIn x.token c.args.heap.now) (sym c.run.view_is) c.requires.here in
    let left : r.left ≡ None = subst (λ (x : RunView). x.left ≡ None) (sym c.run.view_is) c.requires.left in
    (noted_is_run c.args.heap.now r c.ended_load-ended.new.dom (Ended c.ended_load-ended.result) c.run.invariant.0 left here c.ended_load-ended.ensures.here c.ended_load-ended.ensures.told.0, c.run.invariant.1)
