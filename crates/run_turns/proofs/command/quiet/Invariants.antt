use Rattle.heap_rule.specs.Running.{own_entry}
use Rattle.run_turns.proofs.command.quiet.Given as goal

abbrev pub ghost-quiet_as : goal.ghost-quiet_as
ghost-quiet_as a = own_entry a.dom.now a._command.now
