use Rattle.heap_rule.specs.Running.{own_entry}
use Rattle.do_alloc.specs.Young.Area.{young_command}
use Rattle.do_alloc.proofs.young.allocation.alloc_young.Given as goal

abbrev pub ghost-write_block : goal.ghost-write_block
ghost-write_block a = own_entry a.dom.now (young_command a.dst a.block.tag a.block.fields)
