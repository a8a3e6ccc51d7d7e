use Rattle.run_turns.specs.Tries.{full_entry}
use Rattle.run_turns.proofs.command.full.Given as goal

abbrev pub ghost-full_as : goal.ghost-full_as
ghost-full_as a = full_entry a.dom.now a._command.now
