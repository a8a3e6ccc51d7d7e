use Rattle.std.proofs.Common.{rules, ◌≡◌, ◌≤◌, ◌+◌, length, refl, slice_get, Some}
use Rattle.judge_profiles.proofs.ShownLemmas.{change_more, change_all}
use Rattle.judge_profiles.proofs.change.shown.Goals as goal

pub loop-i-preserved : goal.loop-i-preserved
loop-i-preserved c =
    let at : slice_get c.args.changes.now c.loop-i.i ≡ Some c.in-Some.one = search rules in
    change_more c.args.profile c.args.acts.now c.loop-i.shown.items c.change.new.acts.items c.args.changes.now c.loop-i.i (c.loop-i.i + 1) c.in-Some.one refl at (c.in_ok-change.ensures c.if-not-branch.false) c.loop-i.invariant
