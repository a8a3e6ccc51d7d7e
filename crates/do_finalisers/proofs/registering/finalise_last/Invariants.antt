use Rattle.model_core.specs.declared.command.Command.TheVariants.{FinaliseLast}
use Rattle.heap_rule.specs.Running.{own_entry}
use Rattle.do_finalisers.proofs.registering.finalise_last.Given as goal

abbrev pub ghost-finalise_last_as : goal.ghost-finalise_last_as
ghost-finalise_last_as a = own_entry a.dom.now (FinaliseLast a.item a.number)
