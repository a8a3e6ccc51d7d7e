use Rattle.std.proofs.Common.{◌≡◌, ◌++◌, map, drop}
use Rattle.model_core.specs.Entries.{queued_beyond}
use Rattle.judge_plain.proofs.collections.queued_since.Given as goal

-- what is left to add
abbrev pub invariant-loop-i : goal.invariant-loop-i
invariant-loop-i l = l.labels.items ++ queued_beyond (map (λ x. x.queue) (drop l.i l.domains)) (drop l.i l.cut) ≡ queued_beyond (map (λ x. x.queue) l.domains) l.cut
