use Rattle.test_heap.proofs.OfCalls.FreshDomains.{noted_runs}
use Rattle.test_heap.proofs.calls.safepoint_calls.wanted.Goals as goal

pub returns : goal.returns
returns c = noted_runs c.args.heap.now c.args.dom.now c.wants.new.dom _ c.requires c.wants.ensures.here c.wants.ensures.view
