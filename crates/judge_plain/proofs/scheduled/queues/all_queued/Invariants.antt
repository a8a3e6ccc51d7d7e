use Rattle.std.proofs.Common.{◌≡◌, flat_map}
use Rattle.std.specs.List.{range_with_len}
use Rattle.model_traces.specs.Schedules.Scheduled.{dead_finals, queuing}
use Rattle.judge_plain.proofs.scheduled.queues.all_queued.Given as goal

-- the entries so far
abbrev pub invariant-domains : goal.invariant-domains
invariant-domains l = l.entries.items ≡ flat_map (λ k. queuing k (dead_finals l.heap k)) (range_with_len 0 l.d)
