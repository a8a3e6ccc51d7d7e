use Rattle.std.proofs.Common.{◌+◌}
use Rattle.heap_rule.specs.Opening.{Fills}
use Rattle.heap_rule.proofs.layout.list_pools.Given as goal

abbrev pub invariant-loop-i : goal.invariant-loop-i
invariant-loop-i l = Fills l.initial.words l.words 11 l.i (λ j. j + 1)
