use Rattle.model_core.specs.declared.command.Command.TheVariants.{Ephe}
use Rattle.heap_rule.specs.Running.{own_entry}
use Rattle.do_alloc.proofs.pools.ephemerons.create.Given as goal

abbrev pub ghost-write_ephemeron : goal.ghost-write_ephemeron
ghost-write_ephemeron a = own_entry a.dom.now (Ephe a.dst a.keys)
