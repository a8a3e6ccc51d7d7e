use Rattle.std.proofs.Common.{◌≡◌, ◌≤◌, length, false, None}
use Rattle.heap_rule.specs.Token.{IsIn}
use Rattle.run_turns.specs.declared.supply.Supply.TheVariants.{Closed}
use Rattle.heap_rule.specs.Limits.{sizes_in}
use Rattle.run_turns.specs.Runs.{AddsRan}
use Rattle.run_alone.specs.Idling.{StaysIdle}
use Rattle.step_finalisers.specs.Registering.{count_of}
use Rattle.run_alone.proofs.ending.end.Given as goal

abbrev pub invariant-turns : goal.invariant-turns
invariant-turns l = IsIn l.run.token l.heap × (l.run.supply ≡ Closed) × (l.run.left ≡ None) × (length l.run.commands ≤ l.run.next) × (l.run.ended ≡ false) × StaysIdle l.heap l.initial.run l.run × AddsRan (sizes_in l.heap.config) l.initial.run l.run

abbrev pub decreases-turns : goal.decreases-turns
decreases-turns l = count_of l.run.token.view.own.finalisers
