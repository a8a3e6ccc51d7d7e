use Rattle.std.proofs.Common.{◌≡◌, ◌∷◌, replicate}
use Rattle.heap_rule.specs.Token.{IsIn}
use Rattle.heap_words.specs.Labels.{label_word}
use Rattle.do_alloc.proofs.young.allocation.write_block.Given as goal

abbrev pub ghost-head_store : goal.ghost-head_store
ghost-head_store g a = g.entry

abbrev pub invariant-loop-i : goal.invariant-loop-i
invariant-loop-i g l = record {
  here : IsIn l.dom l.heap;
  view : l.dom.view ≡ record l.fn.dom.view { seen = record l.fn.dom.view.seen { made = label_word l.label.domain l.label.serial ∷ replicate l.i 1 } };
}
