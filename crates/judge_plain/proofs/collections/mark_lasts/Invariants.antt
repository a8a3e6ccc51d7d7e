use Rattle.std.proofs.Common.{◌≡◌, ◌++◌, map, take, drop}
use Rattle.model_core.specs.Entries.{with_lasts_open}
use Rattle.judge_plain.proofs.collections.mark_lasts.Given as goal

-- the domains so far have changed
abbrev pub invariant-loop-domain : goal.invariant-loop-domain
invariant-loop-domain l = l.domain-items ≡ map with_lasts_open (take l.domain-index l.fn.domains) ++ drop l.domain-index l.fn.domains
