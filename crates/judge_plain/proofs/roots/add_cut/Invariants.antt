use Rattle.std.proofs.Common.{◌≡◌, ◌++◌, filter_map, flat_map, take}
use Rattle.model_core.specs.Domains.{pending_label}
use Rattle.judge_plain.proofs.roots.add_cut.Given as goal

-- the labels of the queues so far
abbrev pub invariant-loop-queue : goal.invariant-loop-queue
invariant-loop-queue l = l.labels.items ≡ l.fn.labels.items ++ flat_map (filter_map pending_label) (take l.queue-index l.cut)
