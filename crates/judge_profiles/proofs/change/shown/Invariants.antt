use Rattle.std.proofs.Common.{◌≡◌, drop}
use Rattle.judge_profiles.specs.Shown.{changed_all}
use Rattle.judge_profiles.proofs.change.shown.Given as goal

abbrev pub invariant-loop-i : goal.invariant-loop-i
invariant-loop-i l = changed_all l.profile l.shown.items (drop l.i l.changes) ≡ changed_all l.profile l.acts l.changes
