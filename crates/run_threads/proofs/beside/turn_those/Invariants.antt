use Rattle.run_threads.specs.Driven.{AllAre}
use Rattle.run_threads.specs.Placing.{AllBegan, Stands}
use Rattle.run_threads.proofs.beside.turn_those.Given as goal

abbrev pub invariant-places : goal.invariant-places
invariant-places g l = AllAre (Stands g.T.Trace.shares g.T.Trace.is_over l.shared) l.places × AllBegan g.T.Trace.follows l.initial.places l.places
