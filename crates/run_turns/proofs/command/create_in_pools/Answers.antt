use Rattle.run_turns.proofs.Pooling.{few_found}
use Rattle.run_turns.proofs.command.create_in_pools.Goals as goal

pub refuse-requires-clause-few : goal.refuse-requires-clause-few
refuse-requires-clause-few c = few_found c.args.heap.now.config c.in-Err._none.free c.args.dom.now.view c.create.new.dom.view c.in-Err.ensures.none.reserved
