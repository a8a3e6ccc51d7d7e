use Rattle.judge_plain.proofs.OfScheduled.DifferLemmas.{ended_differs}
use Rattle.judge_plain.proofs.scheduled.compare.first_difference.Goals as goal

pub returns-in_default : goal.returns-in_default
returns-in_default c = ended_differs c.bytes.line c.bytes.byte-index c.args.expected.now c.args.output.now c.bytes.rest.now c.bytes-test.true c.in_default.ensures.cases c.bytes.invariant.rest
