use Rattle.std.proofs.Common.{◌≡◌, []}
use Rattle.heap_rule.specs.Token.{IsIn}
use Rattle.step_marks.specs.Marking.Looks.{knowing_colours}
use Rattle.gc_mark.specs.Shares.{Marks, Noted, Walked}
use Rattle.gc_mark.proofs.rounds.walk_pools.Given as goal

abbrev pub invariant-loop-pool : goal.invariant-loop-pool
invariant-loop-pool l = record {
  here : IsIn l.dom l.heap;
  marks : Marks l.colours l.dom.view;
  walked : Walked (record { pool = l.pool; slot = 0 }) (knowing_colours l.fn.dom.view l.colours) l.dom.view;
  noted : Noted l.heap.config l.dom.view l.trail.items l.trail.lost;
  none : l.trail.items ≡ [];
}
