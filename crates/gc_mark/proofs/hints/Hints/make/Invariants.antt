use Rattle.std.proofs.Common.{◌≡◌, ◌<◌, ◌+◌, ℕ, vec_len}
use Rattle.std.specs.Prelude.{slice_index_or}
use Rattle.crossbeam_deque.specs.Handles.{worker_flavor}
use Rattle.gc_mark.specs.Decks.{uncounted}
use Rattle.gc_mark.proofs.hints.Hints.make.Given as goal

abbrev pub invariant-loop-number : goal.invariant-loop-number
invariant-loop-number l =
    (vec_len l.all ≡ l.number)
    × ((k : ℕ) (d : _) → k < l.number → slice_index_or l.all.items k d ≡ uncounted k l.domains)
    × (vec_len l.workers + l.number ≡ l.domains)
    × (vec_len l.lists + l.number ≡ l.domains)
    × ((k : ℕ) (d : _) → k < vec_len l.workers → worker_flavor (slice_index_or l.workers.items k d) ≡ 1)
    × ((k : ℕ) (d : _) → k < vec_len l.lists → vec_len (slice_index_or l.lists.items k d) + 1 ≡ l.domains)
