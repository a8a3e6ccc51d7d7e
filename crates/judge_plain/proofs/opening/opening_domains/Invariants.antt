use Rattle.std.proofs.Common.{◌≡◌, replicate}
use Rattle.model_core.specs.Domains.{opening_domain}
use Rattle.judge_plain.proofs.opening.opening_domains.Given as goal

-- as many domains as turns
abbrev pub invariant-loop-i : goal.invariant-loop-i
invariant-loop-i l = l.domains.items ≡ replicate l._i opening_domain
