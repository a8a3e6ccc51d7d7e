use Rattle.std.proofs.Common.{◌≡◌, take}
use Rattle.judge_profiles.proofs.replies.are_same.Given as goal

abbrev pub invariant-loop-i : goal.invariant-loop-i
invariant-loop-i l = take l.i l.xs ≡ take l.i l.ys
