use Rattle.run_joined.proofs.Meetings.{ends_last, legal_last, sizes_last}
use Rattle.run_joined.proofs.together.end_all.Goals as goal

pub invariant_of-result : goal.invariant_of-result
invariant_of-result c = legal_last c.args.runs.items c.one_history.new.runs.items c.pop.new.self.items c.in-Some.last c.into_parts-share.result.1 c.in_ok-one_history.ensures.met c.in-Some.ensures.items c.into_parts-share.ensures.run c.into_parts-share.ensures.here

pub returns-clause-legal : goal.returns-clause-legal
returns-clause-legal c = legal_last c.args.runs.items c.one_history.new.runs.items c.pop.new.self.items c.in-Some.last c.into_parts-share.result.1 c.in_ok-one_history.ensures.met c.in-Some.ensures.items c.into_parts-share.ensures.run c.into_parts-share.ensures.here

pub returns-clause-sizes : goal.returns-clause-sizes
returns-clause-sizes c = sizes_last c.args.runs.items c.one_history.new.runs.items c.pop.new.self.items c.in-Some.last c.into_parts-share.result.1 c.in_ok-one_history.ensures.met c.in-Some.ensures.items c.into_parts-share.ensures.run c.into_parts-share.ensures.here

pub returns-clause-ends : goal.returns-clause-ends
returns-clause-ends c = ends_last c.args.runs.items c.one_history.new.runs.items c.pop.new.self.items c.in-Some.last c.into_parts-share.result.1 c.in_ok-one_history.ensures.met c.in-Some.ensures.items c.into_parts-share.ensures.run c.requires.over
