use Rattle.std.proofs.Common.{subst, sym}
use Rattle.heap_rule.specs.Running.{Runs}
use Rattle.do_spawn.proofs.Handing.{runs_seeing}
use Rattle.do_spawn.proofs.opening.hand_over.Goals as goal

pub load-requires-clause-runs : goal.load-requires-clause-runs
load-requires-clause-runs c =
    let m = c.meet-first.ensures.met in
    subst (Runs c.args.heap.now) (sym m.second_is) (runs_seeing c.args.heap.now c.args.other m.history c.requires.other m.second m.legal)
