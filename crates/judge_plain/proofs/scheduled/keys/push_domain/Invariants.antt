use Rattle.std.proofs.Common.{◌≡◌, ◌++◌, map}
use Rattle.std.specs.List.{range_with_len}
use Rattle.judge_plain.specs.Scheduled.Wipes.{label_at, wipes_of}
use Rattle.judge_plain.proofs.scheduled.keys.push_domain.Given as goal

-- the entries so far
abbrev pub invariant-serials : goal.invariant-serials
invariant-serials c = c.entries.items ≡ c.fn.entries.items ++ wipes_of c.state (map (label_at c.domain) (range_with_len 1 c.before))
