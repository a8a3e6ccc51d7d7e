use Rattle.gc_sweep.proofs.Sweepings.{all_swept}
use Rattle.gc_sweep.proofs.sweeping.sweep_own.Goals as goal

pub returns-clause-swept : goal.returns-clause-swept
returns-clause-swept c = all_swept c.args.heap.now.config c.sweep_slice.result c.args.dom.now.view c.sweep_slice.new.dom.view c.config-limits.ensures.limits c.sweep_slice.ensures.swept
