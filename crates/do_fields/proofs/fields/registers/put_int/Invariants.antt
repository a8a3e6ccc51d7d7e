use Rattle.model_core.specs.declared.command.Command.TheVariants.{PutInt}
use Rattle.heap_rule.specs.Running.{own_entry}
use Rattle.do_fields.proofs.fields.registers.put_int.Given as goal

abbrev pub ghost-put_int_as : goal.ghost-put_int_as
ghost-put_int_as a = own_entry a.dom.now (PutInt a.dst a.value)
