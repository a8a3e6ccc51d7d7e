use Rattle.std.proofs.Common.{◌≡◌, ◌++◌, filter_map, take}
use Rattle.model_core.specs.Domains.{pending_label}
use Rattle.judge_plain.proofs.roots.add_pending.Given as goal

-- the labels so far
abbrev pub invariant-loop-pending : goal.invariant-loop-pending
invariant-loop-pending l = l.labels.items ≡ l.fn.labels.items ++ filter_map pending_label (take l.pending-index l.queue)
