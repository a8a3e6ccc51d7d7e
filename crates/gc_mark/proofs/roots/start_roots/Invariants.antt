use Rattle.std.proofs.Common.{◌≡◌, ℕ, ◌<◌, Some}
use Rattle.heap_words.specs.declared.value.Value.TheVariants.{Ref}
use Rattle.heap_rule.specs.Changes.{value_at}
use Rattle.heap_rule.specs.Token.{IsIn}
use Rattle.step_marks.specs.Marking.Marking.{Register}
use Rattle.gc_mark.specs.Decks.{HasNoted, NotesAlone, NotesAtMost, NotesNoMore, NotesOn}
use Rattle.gc_mark.specs.Shares.{IsRoot, with_roots}
use Rattle.gc_mark.proofs.roots.start_roots.Given as goal

abbrev pub ghost-mark_root : goal.ghost-mark_root
ghost-mark_root a = Register a.register

abbrev pub invariant-loop-register : goal.invariant-loop-register
invariant-loop-register l = record {
  here : IsIn l.dom l.heap;
  view : l.dom.view ≡ with_roots l.fn.dom.view l.dom.view;
  notes : NotesOn l.fn.hints l.hints;
  noted : HasNoted l.fn.dom.view.seen.share.darkenings l.dom.view.seen.share.darkenings l.fn.hints l.hints;
  no_more : NotesNoMore l.fn.dom.view.seen.share.darkenings l.dom.view.seen.share.darkenings l.fn.hints l.hints;
  alone : NotesAlone l.fn.hints l.hints;
  few : NotesAtMost l.register l.fn.hints l.hints;
  known : l.dom.view.seen.share.colours ≡ Some l.colours;
  done : (r a : ℕ) → r < l.register → value_at l.fn.dom.view.own.registers r ≡ Ref a → IsRoot l.dom.view r;
}
