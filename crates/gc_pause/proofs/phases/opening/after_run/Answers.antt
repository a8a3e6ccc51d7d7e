use Rattle.gc_pause.proofs.OfPhases.Opens.{run_opens}
use Rattle.gc_pause.proofs.phases.opening.after_run.Goals as goal

pub returns-clause-opens : goal.returns-clause-opens
returns-clause-opens c who = run_opens c.args.heap.now.config who c.args.dom.now.view c.set_cursor_back.new.dom.view c.set_cursor_back.ensures.noted c.set_cursor_back.ensures.same
