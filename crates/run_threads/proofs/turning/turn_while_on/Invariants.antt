use Rattle.run_threads.proofs.turning.turn_while_on.Given as goal

abbrev pub invariant-turns : goal.invariant-turns
invariant-turns g l = g.T.Trace.follows l.initial.trace l.trace × g.T.Trace.shares l.shared l.trace
