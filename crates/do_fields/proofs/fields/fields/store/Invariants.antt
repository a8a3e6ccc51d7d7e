use Rattle.model_core.specs.declared.command.Command.TheVariants.{Store}
use Rattle.heap_rule.specs.Running.{own_entry}
use Rattle.do_fields.proofs.fields.fields.store.Given as goal

abbrev pub ghost-store_as : goal.ghost-store_as
ghost-store_as a = own_entry a.dom.now (Store a.block a.index a.item)
