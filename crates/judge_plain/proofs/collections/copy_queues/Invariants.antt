use Rattle.std.proofs.Common.{◌≡◌, map, take}
use Rattle.judge_plain.proofs.collections.copy_queues.Given as goal

-- the queues so far
abbrev pub invariant-loop-domain : goal.invariant-loop-domain
invariant-loop-domain l = l.queues.items ≡ map (λ x. x.queue) (take l.domain-index l.domains)
