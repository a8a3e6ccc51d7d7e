use Rattle.std.proofs.Common.{◌≡◌, ◌++◌, map, take}
use Rattle.judge_plain.proofs.roots.add_lasts.Given as goal

-- the labels so far
abbrev pub invariant-loop-f : goal.invariant-loop-f
invariant-loop-f l = l.labels.items ≡ l.fn.labels.items ++ map (λ f. f.label) (take l.f-index l.domain.lasts)
