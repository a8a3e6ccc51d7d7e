use Rattle.model_core.specs.declared.command.Command.TheVariants.{Forget}
use Rattle.heap_rule.specs.Running.{own_entry}
use Rattle.do_fields.proofs.fields.registers.forget.Given as goal

abbrev pub ghost-forget_as : goal.ghost-forget_as
ghost-forget_as a = own_entry a.dom.now (Forget a.dst)
