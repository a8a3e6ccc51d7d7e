use Rattle.model_core.specs.declared.command.Command.TheVariants.{AllocMaj}
use Rattle.heap_rule.specs.Running.{own_entry}
use Rattle.do_alloc.proofs.pools.allocation.alloc_major.Given as goal

abbrev pub ghost-write_block : goal.ghost-write_block
ghost-write_block a = own_entry a.dom.now (AllocMaj a.dst a.tag a.fields)
