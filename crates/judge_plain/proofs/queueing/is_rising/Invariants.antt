use Rattle.std.proofs.Common.{◌≡◌, drop}
use Rattle.model_core.specs.Entries.{is_rising}
use Rattle.judge_plain.proofs.queueing.is_rising.Given as goal

-- the places so far rise
abbrev pub invariant-loop-i : goal.invariant-loop-i
invariant-loop-i l = is_rising (drop l.i l.places) ≡ is_rising l.places
