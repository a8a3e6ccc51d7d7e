use Rattle.std.proofs.Common.{◌≡◌, vec_capacity}
use Rattle.run_threads.specs.Driven.{AllAre, AllFollow}
use Rattle.run_threads.proofs.rotation.rotate.Given as goal

abbrev pub invariant-turns : goal.invariant-turns
invariant-turns g l = AllFollow g.T.Trace.follows l.initial.traces.items l.traces.items × AllAre (g.T.Trace.shares l.shared) l.traces.items × (vec_capacity l.traces ≡ vec_capacity l.initial.traces)
