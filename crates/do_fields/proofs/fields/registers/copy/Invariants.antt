use Rattle.model_core.specs.declared.command.Command.TheVariants.{Copy}
use Rattle.heap_rule.specs.Running.{own_entry}
use Rattle.do_fields.proofs.fields.registers.copy.Given as goal

abbrev pub ghost-copy_as : goal.ghost-copy_as
ghost-copy_as a = own_entry a.dom.now (Copy a.dst a.src)
