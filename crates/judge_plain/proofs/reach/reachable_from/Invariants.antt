use Rattle.std.proofs.Common.{◌≡◌, [], fold}
use Rattle.model_core.specs.Reach.{with_label, grow_rounds}
use Rattle.judge_plain.proofs.reach.reachable_from.Given as goal

-- as many rounds as turns
abbrev pub invariant-loop-i : goal.invariant-loop-i
invariant-loop-i l = l.live.items ≡ grow_rounds l._i l.graph (fold with_label [] l.roots.items)
