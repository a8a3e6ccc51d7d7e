use Rattle.std.proofs.Common.{◌≡◌, replicate}
use Rattle.model_core.specs.declared.entry.Entry.TheVariants.{Ran}
use Rattle.judge_plain.proofs.scheduled.run.Run.run_finalisers.Given as goal

-- the entries so far
abbrev pub invariant-runs : goal.invariant-runs
invariant-runs l = l.entries.items ≡ replicate l._run (Ran l.domain)
