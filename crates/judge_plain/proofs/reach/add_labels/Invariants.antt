use Rattle.std.proofs.Common.{◌≡◌, fold, take}
use Rattle.model_core.specs.Reach.{with_label}
use Rattle.judge_plain.proofs.reach.add_labels.Given as goal

-- the set with the labels so far
abbrev pub invariant-loop-l : goal.invariant-loop-l
invariant-loop-l l = l.live.items ≡ fold with_label l.fn.live.items (take l.l-index l.labels.items)
