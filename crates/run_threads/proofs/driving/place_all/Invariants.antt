use Rattle.std.proofs.Common.{◌≡◌, ◌<◌, ◌≤◌, ℕ, length, vec_capacity}
use Rattle.std.specs.Prelude.{slice_index_or}
use Rattle.run_threads.specs.Driven.{AllAre}
use Rattle.run_threads.specs.Placing.{Began, Stands}
use Rattle.run_threads.proofs.driving.place_all.Given as goal

abbrev pub invariant-traces : goal.invariant-traces
invariant-traces g l =
    (length l.traces.items ≤ length l.initial.traces.items)
    × (vec_capacity l.traces ≡ vec_capacity l.initial.traces)
    × (length l.places ≡ length l.initial.places)
    × AllAre (Stands g.T.Trace.shares g.T.Trace.is_over l.shared) l.places
    × ((k : ℕ) (d : _) → k < length l.traces.items → slice_index_or l.traces.items k d ≡ slice_index_or l.initial.traces.items k d)
    × ((k : ℕ) (d : _) (e : _) → length l.traces.items ≤ k → k < length l.initial.traces.items → Began g.T.Trace.follows (slice_index_or l.initial.traces.items k d) (slice_index_or l.places k e))

abbrev pub decreases-traces : goal.decreases-traces
decreases-traces g l = length l.traces.items
