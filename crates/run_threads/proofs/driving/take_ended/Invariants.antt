use Rattle.std.proofs.Common.{◌≡◌, ◌<◌, ◌≤◌, ℕ, length, vec_capacity}
use Rattle.std.specs.Prelude.{slice_index_or}
use Rattle.run_threads.specs.Driven.{AllAre}
use Rattle.run_threads.specs.Placing.{Began, Stands}
use Rattle.run_threads.proofs.driving.take_ended.Given as goal

abbrev pub invariant-places : goal.invariant-places
invariant-places g l =
    (length l.traces.items ≡ l.at)
    × (vec_capacity l.traces ≡ vec_capacity l.initial.traces)
    × (length l.places ≡ length l.initial.places)
    × AllAre (g.T.Trace.shares l.shared) l.traces.items
    × AllAre g.T.Trace.is_over l.traces.items
    × AllAre (Stands g.T.Trace.shares g.T.Trace.is_over l.shared) l.places
    × ((k : ℕ) (e : _) → l.at ≤ k → k < l.count → slice_index_or l.places k e ≡ slice_index_or l.initial.places k e)
    × ((k : ℕ) (began : _) (d : _) (e : _) → k < l.at → Began g.T.Trace.follows began (slice_index_or l.initial.places k e) → g.T.Trace.follows began (slice_index_or l.traces.items k d))
