use Rattle.std.proofs.Common.{◌≡◌, ◌++◌, drop}
use Rattle.judge_profiles.specs.Shown.{replies_of}
use Rattle.judge_profiles.proofs.replies.replies_of.Given as goal

abbrev pub invariant-loop-act : goal.invariant-loop-act
invariant-loop-act l = l.replies.items ++ replies_of (drop l.act-index l.acts) ≡ replies_of l.acts
