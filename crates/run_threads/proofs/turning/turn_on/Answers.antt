use Rattle.run_threads.proofs.turning.turn_on.Goals as goal

pub turns-init : goal.turns-init
turns-init g c = (g.met.T.Trace.follows_itself c.args.trace, c.requires)

pub turns-preserved : goal.turns-preserved
turns-preserved g c = (g.met.T.Trace.follows_on c.args.trace c.turns.trace c.turn_while_on-went.new.trace c.turns.invariant.0 c.turn_while_on-went.ensures.follows, c.turn_while_on-went.ensures.here)
