use Rattle.std.proofs.Common.{◌≡◌, flat_map, take}
use Rattle.model_core.specs.Graph.{has_label}
use Rattle.model_core.specs.Reach.{edges_at}
use Rattle.judge_plain.proofs.reach.edges_from.Given as goal

-- what the labels so far keep alive
abbrev pub invariant-loop-l : goal.invariant-loop-l
invariant-loop-l l = l.edges.items ≡ flat_map (edges_at l.graph (has_label l.live.items)) (take l.l-index l.live.items)
