use Rattle.std.proofs.Common.{rules}
use Rattle.run_threads.proofs.Drives.{all_are, driven}
use Rattle.run_threads.proofs.driving.drive.Goals as goal

pub scoped-requires : goal.scoped-requires
scoped-requires g c =
    let here = all_are (g.T.Trace.shares c.args.shared.now) c.args.traces.items c.requires.here in
    search (rules, here)

pub returns : goal.returns
returns g c = record { driven = driven g.T.Trace.shares g.T.Trace.follows g.T.Trace.is_over c.args.shared.now c.args.traces.items c.scoped.result.items (search rules) (search rules) (search rules) }
