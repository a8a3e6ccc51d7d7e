use Rattle.model_core.specs.declared.command.Command.TheVariants.{Load}
use Rattle.heap_rule.specs.Running.{own_entry}
use Rattle.do_fields.proofs.fields.fields.load.Given as goal

abbrev pub ghost-load_as : goal.ghost-load_as
ghost-load_as a = own_entry a.dom.now (Load a.dst a.src a.index)
