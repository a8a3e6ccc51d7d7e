use Rattle.std.proofs.Common.{ℕ, ◌<◌, ◌≤◌, length, sym, subst, ◌∙◌}
use Rattle.heap_rule.specs.declared.view.DomainView.{DomainView}
use Rattle.heap_rule.specs.declared.view.Held.TheVariants.{Queue}
use Rattle.gc_copy.proofs.HeldMoves.{loop_start, loop_step, loop_end, same_queued, queued_below, queue_long}
use Rattle.gc_copy.proofs.finalisers.move_queue.Goals as goal

pub loop-i-init : goal.loop-i-init
loop-i-init c = record { here = c.requires.here; moved = loop_start Queue same_queued c.args.heap.now.config c.args.dom.now.view c.requires.works c.requires.tied }

pub move_waiting-requires-clause-waits : goal.move_waiting-requires-clause-waits
move_waiting-requires-clause-waits c =
    let x : DomainView = c.args.dom.now.view in
    let y : DomainView = c.loop-i.dom.view in
    subst (λ (n : ℕ). c.loop-i.i < n) (c.queued-waiting.ensures ∙ sym (queue_long x.own.finalisers y.own.finalisers c.loop-i.invariant.moved.rest)) c.loop-i-test.true

pub loop-i-preserved : goal.loop-i-preserved
loop-i-preserved c = record {
  here = c.move_waiting.ensures.here;
  moved = loop_step Queue same_queued c.args.heap.now.config c.loop-i.i c.args.dom.now.view c.loop-i.dom.view c.move_waiting.new.dom.view c.loop-i.invariant.moved c.move_waiting.ensures.moved;
}

pub returns-clause-moved : goal.returns-clause-moved
returns-clause-moved c =
    let x : DomainView = c.args.dom.now.view in
    loop_end Queue same_queued c.args.heap.now.config (length x.own.finalisers.queue.items) c.loop-i.i x c.loop-i.dom.view (queued_below x.own.finalisers)
    (subst (λ (n : ℕ). n ≤ c.loop-i.i) c.queued-waiting.ensures c.loop-i-test.false) c.loop-i.invariant.moved
