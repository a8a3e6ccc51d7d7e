use Rattle.model_core.specs.declared.command.Command.TheVariants.{Cas}
use Rattle.heap_rule.specs.Running.{own_entry}
use Rattle.do_fields.proofs.fields.exchanging.cas.Given as goal

abbrev pub ghost-cas_as : goal.ghost-cas_as
ghost-cas_as a = own_entry a.dom.now (Cas a.block a.index a.expected a.item)
