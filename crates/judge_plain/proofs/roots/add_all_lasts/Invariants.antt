use Rattle.std.proofs.Common.{◌≡◌, ◌++◌, map, flat_map, take}
use Rattle.judge_plain.proofs.roots.add_all_lasts.Given as goal

-- the labels of the domains so far
abbrev pub invariant-loop-domain : goal.invariant-loop-domain
invariant-loop-domain l = l.labels.items ≡ l.fn.labels.items ++ flat_map (λ x. map (λ f. f.label) x.lasts) (take l.domain-index l.domains)
