use Rattle.std.proofs.Common.{◌≡◌, ◌<◌, ◌≤◌, ◌^◌, length, None, ℕ}
use Rattle.run_turns.specs.Runs.{RunView}
use Rattle.run_replay.specs.Gathered.{HasRun}
use Rattle.run_replay.specs.Leveled.{AllHere}
use Rattle.run_replay.specs.Moves.{HaltsUpto}
use Rattle.run_replay.proofs.halting.halt_each.Given as goal

abbrev pub invariant-all : goal.invariant-all
invariant-all l = (l.at-end ≡ length l.fn.runs) × (l.at ≤ l.at-end) × AllHere l.heap l.fn.runs × HaltsUpto l.heap l.fn.runs l.runs l.at × ((d : ℕ) (r : RunView) → HasRun l.fn.runs d r → r.left ≡ None) × ((d : ℕ) (r : RunView) → HasRun l.fn.runs d r → r.token.view.own.arrivals < 2 ^ 60)
