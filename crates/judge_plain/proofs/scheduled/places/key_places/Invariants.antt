use Rattle.std.proofs.Common.{◌≡◌, not, filter}
use Rattle.std.specs.Prelude.{slice_get}
use Rattle.std.specs.List.{range_with_len}
use Rattle.model_core.specs.Graph.{has_label}
use Rattle.model_core.specs.Entries.{is_some_and}
use Rattle.judge_plain.proofs.scheduled.places.key_places.Given as goal

-- the places so far
abbrev pub invariant-places : goal.invariant-places
invariant-places l = l.places.items ≡ filter (λ p. is_some_and ((is_some_and (λ k. not (has_label l.live.items k)))) (slice_get l.keys p)) (range_with_len 0 l.place)
