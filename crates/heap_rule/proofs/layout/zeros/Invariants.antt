use Rattle.std.proofs.Common.{◌≡◌, ◌*◌, replicate}
use Rattle.heap_rule.proofs.layout.zeros.Given as goal

abbrev pub invariant-loop : goal.invariant-loop
invariant-loop l = l.words.items ≡ replicate (l.counter * 512) 0
