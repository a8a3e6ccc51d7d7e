use Rattle.std.proofs.Common.{◌≡◌, drop}
use Rattle.model_core.specs.Graph.{node_at}
use Rattle.judge_plain.proofs.looks.node_of.Given as goal

-- no block so far has the label
abbrev pub invariant-loop-block : goal.invariant-loop-block
invariant-loop-block c = node_at (drop c.block-index c.graph) c.l ≡ node_at c.graph c.l
