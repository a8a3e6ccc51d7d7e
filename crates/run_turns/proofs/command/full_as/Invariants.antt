use Rattle.run_turns.proofs.command.full_as.Given as goal

abbrev pub ghost-tick : goal.ghost-tick
ghost-tick g a = g.entry
