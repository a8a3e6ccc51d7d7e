use Rattle.std.proofs.Common.{ap, arith, length}
use Rattle.heap_rule.specs.Limits.{sizes_in}
use Rattle.heap_rule.proofs.Ends.{popped}
use Rattle.heap_joined.proofs.Joining.{begin_last, legal_last, none_popped}
use Rattle.heap_joined.proofs.joined.join_all.Goals as goal

pub unreachable-requires : goal.unreachable-requires
unreachable-requires c = none_popped c.args.heap.now c.args.domains.items c.meet_all.new.domains.items c.args.heap.now.config c.requires.some c.meet_all.ensures.met (let cases = c.in_default.ensures.cases in let long = c.meet_all.new.domains.ok.0 in omega arith)

pub invariant_of-result : goal.invariant_of-result
invariant_of-result c = legal_last c.args.heap.now c.args.domains.items c.meet_all.new.domains.items c.pop.new.self.items c.in-Some.last c.meet_all.ensures.here c.meet_all.ensures.met c.in-Some.ensures.items

pub returns-clause-sizes : goal.returns-clause-sizes
returns-clause-sizes c = ap sizes_in (popped c.args.heap.now c.meet_all.new.domains.items c.pop.new.self.items c.in-Some.last c.in-Some.ensures.items c.meet_all.ensures.here).1.1

pub returns-clause-legal : goal.returns-clause-legal
returns-clause-legal c = legal_last c.args.heap.now c.args.domains.items c.meet_all.new.domains.items c.pop.new.self.items c.in-Some.last c.meet_all.ensures.here c.meet_all.ensures.met c.in-Some.ensures.items

pub returns-clause-fronts : goal.returns-clause-fronts
returns-clause-fronts c = begin_last c.args.heap.now c.args.domains.items c.meet_all.new.domains.items c.pop.new.self.items c.in-Some.last c.meet_all.ensures.met c.in-Some.ensures.items
