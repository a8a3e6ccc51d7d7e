use Rattle.heap_rule.specs.Token.{views_of}
use Rattle.step_pauses.proofs.Looking.{look_all_leaves, look_all_may}
use Rattle.step_pauses.proofs.pausing.look_all.Goals as goal

pub raw_load_all-requires-clause-may : goal.raw_load_all-requires-clause-may
raw_load_all-requires-clause-may c = look_all_may c.args.heap.now.config (views_of c.args.domains.now.items) c.requires.gone

pub raw_load_all-requires-clause-leaves : goal.raw_load_all-requires-clause-leaves
raw_load_all-requires-clause-leaves c = look_all_leaves c.args.heap.now.config (views_of c.args.domains.now.items) c.requires.gone
