use Rattle.model_core.specs.declared.command.Command.TheVariants.{Finalise}
use Rattle.heap_rule.specs.Running.{own_entry}
use Rattle.do_finalisers.proofs.registering.finalise.Given as goal

abbrev pub ghost-finalise_as : goal.ghost-finalise_as
ghost-finalise_as a = own_entry a.dom.now (Finalise a.item a.number a.dst)
