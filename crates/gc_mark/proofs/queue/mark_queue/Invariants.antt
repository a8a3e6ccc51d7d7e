use Rattle.std.proofs.Common.{◌≡◌, ℕ, ◌<◌, Some}
use Rattle.heap_rule.specs.declared.view.Held.TheVariants.{Queue}
use Rattle.heap_rule.specs.Finalisers.{held_at}
use Rattle.heap_rule.specs.Token.{IsIn}
use Rattle.step_marks.specs.Marking.Marking.{OfQueue}
use Rattle.gc_mark.specs.Shares.{IsQueueRoot, owing, with_queue}
use Rattle.gc_mark.proofs.queue.mark_queue.Given as goal

abbrev pub ghost-mark_queued : goal.ghost-mark_queued
ghost-mark_queued a = OfQueue a.place

abbrev pub invariant-loop-place : goal.invariant-loop-place
invariant-loop-place l = record {
  here : IsIn l.dom l.heap;
  view : l.dom.view ≡ with_queue (owing l.darkened l.fn.dom.view) l.dom.view;
  known : l.dom.view.seen.share.colours ≡ Some l.colours;
  done : (i a : ℕ) → i < l.place → held_at l.fn.dom.view.own.finalisers (Queue i) ≡ Some a → IsQueueRoot l.dom.view i;
}
