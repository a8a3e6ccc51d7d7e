use Rattle.run_replay.proofs.SlotLemmas.{slot_at}
use Rattle.run_replay.proofs.passing.sooner.Goals as goal

pub returns-clause-gone : goal.returns-clause-gone
returns-clause-gone c = λ r there. c.has_gone.ensures.yes c.if-not-has_gone.false r (slot_at c.args.runs.now c.args.other r there _ c.index-runs-other-2.is)
