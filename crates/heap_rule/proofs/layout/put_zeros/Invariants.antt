use Rattle.heap_rule.specs.Opening.{Fills}
use Rattle.heap_rule.proofs.layout.put_zeros.Given as goal

abbrev pub invariant-loop-i : goal.invariant-loop-i
invariant-loop-i l = Fills l.initial.words l.words l.from l.i (λ _. 1)
