use Rattle.std.proofs.Common.{◌≡◌, fold, length, map, max, take}
use Rattle.judge_plain.proofs.scheduled.turns.longest.Given as goal

-- the most so far
abbrev pub invariant-sections : goal.invariant-sections
invariant-sections l = l.most ≡ fold max 0 (map length (take l.d l.script.sections))
