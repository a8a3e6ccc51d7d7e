use Rattle.std.proofs.Common.{◌≡◌, flat_map, map, reverse}
use Rattle.std.specs.List.{range_with_len}
use Rattle.model_core.specs.declared.entry.Entry.TheVariants.{Last}
use Rattle.model_traces.specs.Schedules.Scheduled.{gone_lasts}
use Rattle.judge_plain.proofs.scheduled.lasts.all_lasts.Given as goal

-- the entries so far
abbrev pub invariant-domains : goal.invariant-domains
invariant-domains l = l.entries.items ≡ flat_map (λ k. map (λ p. Last k p) (reverse (gone_lasts l.heap k))) (range_with_len 0 l.d)
