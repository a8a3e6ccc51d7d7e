use Rattle.heap_rule.specs.Token.{views_of}
use Rattle.heap_rule.proofs.Meetings.{levels, levels_leaves, met_all}
use Rattle.heap_rule.proofs.heap.Heap.meet_all.Goals as goal

pub raw_load_all-requires-clause-may : goal.raw_load_all-requires-clause-may
raw_load_all-requires-clause-may c = levels c.args.self.now.config (views_of c.args.domains.now.items) 0

pub raw_load_all-requires-clause-leaves : goal.raw_load_all-requires-clause-leaves
raw_load_all-requires-clause-leaves c = levels_leaves c.args.self.now.config (views_of c.args.domains.now.items)

pub returns-clause-met : goal.returns-clause-met
returns-clause-met c = met_all c.args.self.now.config c.args.self.now c.args.domains.now.items c.raw_load_all.new.domains.items c.raw_load_all.result c.requires.here c.raw_load_all.ensures.here c.raw_load_all.ensures.told
