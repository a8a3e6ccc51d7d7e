use Rattle.std.proofs.Common.{◌≡◌, ◌++◌, filter_map, flat_map, take}
use Rattle.model_core.specs.Graph.{label_of}
use Rattle.judge_plain.proofs.roots.add_registers.Given as goal

-- the labels of the domains so far
abbrev pub invariant-loop-domain : goal.invariant-loop-domain
invariant-loop-domain l = l.labels.items ≡ l.fn.labels.items ++ flat_map (λ x. filter_map label_of x.registers) (take l.domain-index l.domains)
