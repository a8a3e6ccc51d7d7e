use Rattle.std.proofs.Common.{◌≡◌, ◌<◌, ℕ, length, true}
use Rattle.std.specs.Prelude.{slice_index_or}
use Rattle.run_threads.specs.Driven.{AllAre}
use Rattle.run_threads.proofs.rotation.turn_each.Given as goal

abbrev pub invariant-loop-trace : goal.invariant-loop-trace
invariant-loop-trace g l =
    ((k : ℕ) (d : _) → k < length l.initial.traces → g.T.Trace.follows (slice_index_or l.initial.traces k d) (slice_index_or l.traces k d))
    × ((k : ℕ) (d : _) → k < l.trace-index → l.all ≡ true → g.T.Trace.is_over (slice_index_or l.traces k d))
    × AllAre (g.T.Trace.shares l.shared) l.traces
