use Rattle.std.proofs.Common.{◌≡◌, ℕ, ◌<◌, Some}
use Rattle.heap_rule.specs.declared.view.Held.TheVariants.{Queue}
use Rattle.heap_rule.specs.Finalisers.{held_at}
use Rattle.heap_rule.specs.Token.{IsIn}
use Rattle.step_marks.specs.Marking.Marking.{OfQueue}
use Rattle.gc_mark.specs.Decks.{HasNoted, NotesAlone, NotesAtMost, NotesNoMore, NotesOn}
use Rattle.gc_mark.specs.Shares.{IsQueueRoot, with_queue}
use Rattle.gc_mark.proofs.roots.mark_waiting.Given as goal

abbrev pub ghost-mark_queued : goal.ghost-mark_queued
ghost-mark_queued a = OfQueue a.place

abbrev pub invariant-loop-place : goal.invariant-loop-place
invariant-loop-place l = record {
  here : IsIn l.dom l.heap;
  view : l.dom.view ≡ with_queue l.fn.dom.view l.dom.view;
  known : l.dom.view.seen.share.colours ≡ Some l.colours;
  done : (i a : ℕ) → i < l.place → held_at l.fn.dom.view.own.finalisers (Queue i) ≡ Some a → IsQueueRoot l.dom.view i;
  notes : NotesOn l.fn.hints l.hints;
  noted : HasNoted l.fn.dom.view.seen.share.darkenings l.dom.view.seen.share.darkenings l.fn.hints l.hints;
  no_more : NotesNoMore l.fn.dom.view.seen.share.darkenings l.dom.view.seen.share.darkenings l.fn.hints l.hints;
  alone : NotesAlone l.fn.hints l.hints;
  few : NotesAtMost l.place l.fn.hints l.hints;
}
