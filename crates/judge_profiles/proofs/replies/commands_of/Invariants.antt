use Rattle.std.proofs.Common.{◌≡◌, ◌++◌, drop}
use Rattle.judge_profiles.specs.Shown.{commands_of}
use Rattle.judge_profiles.proofs.replies.commands_of.Given as goal

abbrev pub invariant-loop-act : goal.invariant-loop-act
invariant-loop-act l = l.commands.items ++ commands_of (drop l.act-index l.acts) ≡ commands_of l.acts
