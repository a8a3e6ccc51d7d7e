use Rattle.std.proofs.Common.{◌≡◌, ℕ}
use Rattle.heap_rule.specs.declared.view.Hunt.TheVariants.{Draws}
use Rattle.step_pools.specs.Takes.{with_hunt}
use Rattle.heap_rule.specs.Token.{IsIn}
use Rattle.do_alloc.proofs.pools.draw.clear.Given as goal

abbrev pub invariant-loop-slot : goal.invariant-loop-slot
invariant-loop-slot l = record {
  here : IsIn l.dom l.heap;
  view : (place : ℕ) → l.fn.dom.view.seen.hunt ≡ Draws place l.pool l.class 0 → l.dom.view ≡ with_hunt l.fn.dom.view (Draws place l.pool l.class l.slot);
}
