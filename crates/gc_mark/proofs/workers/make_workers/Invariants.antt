use Rattle.std.proofs.Common.{◌≡◌, ◌<◌, ℕ, vec_len}
use Rattle.std.specs.Prelude.{slice_index_or}
use Rattle.crossbeam_deque.specs.Handles.{worker_flavor}
use Rattle.gc_mark.proofs.workers.make_workers.Given as goal

abbrev pub invariant-loop-domain : goal.invariant-loop-domain
invariant-loop-domain l = (vec_len l.workers ≡ l._domain) × ((k : ℕ) (d : _) → k < l._domain → worker_flavor (slice_index_or l.workers.items k d) ≡ 1)
