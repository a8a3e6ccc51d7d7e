use Rattle.run_threads.proofs.turning.turn_while_on.Goals as goal

pub turns-init : goal.turns-init
turns-init g c = (g.met.T.Trace.follows_itself c.args.trace.now, c.requires)

pub turns-preserved : goal.turns-preserved
turns-preserved g c = (g.met.T.Trace.follows_on _ _ _ c.turns.invariant.0 c.turn_once-went.ensures.follows, c.turn_once-went.ensures.here)
