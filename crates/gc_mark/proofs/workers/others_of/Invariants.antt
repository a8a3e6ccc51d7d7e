use Rattle.std.proofs.Common.{◌≡◌, ◌+◌, vec_len}
use Rattle.gc_mark.proofs.workers.others_of.Given as goal

abbrev pub invariant-below : goal.invariant-below
invariant-below l = vec_len l.others ≡ l.worker-index

abbrev pub invariant-above : goal.invariant-above
invariant-above l = vec_len l.others ≡ l.domain + l.worker-index
