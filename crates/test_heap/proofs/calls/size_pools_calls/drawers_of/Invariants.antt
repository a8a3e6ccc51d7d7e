use Rattle.std.proofs.Common.{All}
use Rattle.test_heap.specs.Calls.Fresh.{IsFresh}
use Rattle.test_heap.proofs.calls.size_pools_calls.drawers_of.Given as goal

abbrev pub invariant-loop : goal.invariant-loop
invariant-loop l = All (λ d. IsFresh l.heap d) l.domains.items
