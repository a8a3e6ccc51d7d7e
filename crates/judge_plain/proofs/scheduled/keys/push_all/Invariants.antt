use Rattle.std.proofs.Common.{◌≡◌}
use Rattle.judge_plain.specs.Scheduled.Wipes.{wipes_of}
use Rattle.judge_plain.proofs.OfScheduled.TakeLemmas.{labels_upto}
use Rattle.judge_plain.proofs.scheduled.keys.push_all.Given as goal

-- the entries so far
abbrev pub invariant-domains : goal.invariant-domains
invariant-domains c = c.entries.items ≡ wipes_of c.heap (labels_upto c.heap c.d)
