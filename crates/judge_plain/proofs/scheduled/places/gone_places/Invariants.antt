use Rattle.std.proofs.Common.{◌≡◌, ◌&&◌, not, filter}
use Rattle.std.specs.Prelude.{slice_get}
use Rattle.std.specs.List.{list_all, range_with_len}
use Rattle.model_core.specs.Graph.{has_label, node_at}
use Rattle.model_core.specs.Entries.{ephe_holds, is_some_and}
use Rattle.judge_plain.proofs.scheduled.places.gone_places.Given as goal

-- the places so far
abbrev pub invariant-places : goal.invariant-places
invariant-places l = l.places.items ≡ filter (λ p. is_some_and ((λ f. not (has_label l.live.items f.label) && list_all (λ x. not (ephe_holds f.label (node_at l.graph x))) l.live.items)) (slice_get l.lasts p)) (range_with_len 0 l.place)
