use Rattle.std.proofs.Common.{◌≡◌, ◌∷◌, [], ℕ, replicate}
use Rattle.heap_words.specs.Labels.{label_word}
use Rattle.heap_rule.specs.declared.view.Hunt.TheVariants.{Fills}
use Rattle.step_pools.specs.Takes.{with_hunt}
use Rattle.heap_rule.specs.Token.{IsIn}
use Rattle.do_alloc.proofs.pools.words.write_words.Given as goal

abbrev pub invariant-loop-i : goal.invariant-loop-i
invariant-loop-i l = record {
  here : IsIn l.dom l.heap;
  view : (pool class slot : ℕ) → l.fn.dom.view.seen.hunt ≡ Fills pool class slot [] → l.dom.view ≡ with_hunt l.fn.dom.view (Fills pool class slot (label_word l.label.domain l.label.serial ∷ replicate l.i l.word));
}
