use Rattle.std.proofs.Common.{◌≡◌, [], replicate}
use Rattle.judge_plain.proofs.opening.empty_queues.Given as goal

-- as many queues as turns
abbrev pub invariant-loop-i : goal.invariant-loop-i
invariant-loop-i l = l.queues.items ≡ replicate l._i []
