use Rattle.std.proofs.Common.{◌≡◌, length}
use Rattle.model_core.specs.History.{LegalFrom}
use Rattle.model_traces.specs.Schedules.Scheduled.{with_entries}
use Rattle.judge_plain.proofs.scheduled.run.Run.make_all.Given as goal

-- what is left is legal, and leads to what all lead to
abbrev pub invariant-entries : goal.invariant-entries
invariant-entries l = (with_entries l.self l.rest.items ≡ with_entries l.fn.self l.fn.entries.items) × LegalFrom l.self.state l.rest.items

abbrev pub decreases-entries : goal.decreases-entries
decreases-entries l = length l.rest.items
