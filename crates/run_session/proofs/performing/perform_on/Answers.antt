use Rattle.run_session.proofs.Driven.{finishes_makes}
use Rattle.run_session.proofs.performing.perform_on.Goals as goal

pub returns-clause-makes : goal.returns-clause-makes
returns-clause-makes c = finishes_makes c.args.heap.now c.in-Some.resting c.hand_in.new.run c.args.run.now c.finish_on.new.run c.args.command c.finish_on.result c.in-Some.is (c.hand_in.ensures.awaits c.in_default-hand_in.is) c.hand_in.ensures.ran c.hand_in.ensures.last c.finish_on.ensures.finishes
