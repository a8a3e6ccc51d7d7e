use Rattle.std.proofs.Common.{◌≡◌, ℕ, ◌<◌, false, get_or}
use Rattle.model_core.specs.declared.label.Label.{Label}
use Rattle.model_core.specs.declared.graph.Node.{Node}
use Rattle.model_core.specs.Graph.{same_label}
use Rattle.judge_plain.proofs.blocks.place_of.Given as goal

-- no block so far has the label
abbrev pub invariant-loop-i : goal.invariant-loop-i
invariant-loop-i l = (k : ℕ) (d : Label × Node) → k < l.i → same_label (get_or l.graph k d).0 l.l ≡ false
