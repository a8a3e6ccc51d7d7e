use Rattle.std.proofs.Common.{◌≡◌, map, take}
use Rattle.judge_plain.proofs.scheduled.run.Run.begin.Given as goal

-- the sections so far
abbrev pub invariant-sections : goal.invariant-sections
invariant-sections l = map (λ s. s.now) l.left.items ≡ take l.d l.script.sections
