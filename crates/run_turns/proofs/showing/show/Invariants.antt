use Rattle.run_turns.proofs.showing.show.Given as goal

abbrev pub ghost-shown_register : goal.ghost-shown_register
ghost-shown_register a = a.r
