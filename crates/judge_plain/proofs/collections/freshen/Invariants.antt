use Rattle.std.proofs.Common.{◌≡◌, ◌++◌, map, take, drop}
use Rattle.model_core.specs.Entries.{freshened}
use Rattle.judge_plain.proofs.collections.freshen.Given as goal

-- the domains so far have changed
abbrev pub invariant-loop-domain : goal.invariant-loop-domain
invariant-loop-domain l = l.domain-items ≡ map freshened (take l.domain-index l.fn.domains) ++ drop l.domain-index l.fn.domains
