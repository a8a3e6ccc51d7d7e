use Rattle.std.proofs.Common.{◌≡◌, ◌++◌, filter_map, take}
use Rattle.model_core.specs.Graph.{label_of}
use Rattle.judge_plain.proofs.reach.add_values.Given as goal

-- the labels of the values so far
abbrev pub invariant-loop-value : goal.invariant-loop-value
invariant-loop-value l = l.labels.items ≡ l.fn.labels.items ++ filter_map label_of (take l.value-index l.values)
