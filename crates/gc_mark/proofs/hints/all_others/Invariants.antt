use Rattle.std.proofs.Common.{◌≡◌, ◌<◌, ◌+◌, ℕ, vec_len, length}
use Rattle.std.specs.Prelude.{slice_index_or}
use Rattle.gc_mark.proofs.hints.all_others.Given as goal

abbrev pub invariant-loop-domain : goal.invariant-loop-domain
invariant-loop-domain l = (vec_len l.all ≡ l.domain) × ((k : ℕ) (d : _) → k < l.domain → vec_len (slice_index_or l.all.items k d) + 1 ≡ length l.workers)
