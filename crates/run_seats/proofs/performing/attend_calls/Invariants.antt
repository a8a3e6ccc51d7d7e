use Rattle.std.proofs.Common.{◌≡◌}
use Rattle.run_seats.specs.Shared.Idling.{IsIdleIn, StaysIdle}
use Rattle.run_seats.specs.Idling.{KeepsHeap}
use Rattle.run_seats.proofs.performing.attend_calls.Given as goal

abbrev pub invariant-turns : goal.invariant-turns
invariant-turns g l = IsIdleIn l.heap l.run × StaysIdle l.initial.run l.run × (l.keeper ≡ l.initial.keeper) × ((l.keeper.pool ≡ l.along.pool.now) × KeepsHeap l.heap l.keeper.rests)
