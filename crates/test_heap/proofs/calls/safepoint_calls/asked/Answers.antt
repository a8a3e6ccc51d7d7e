use Rattle.test_heap.proofs.OfCalls.FreshDomains.{noted_runs}
use Rattle.test_heap.proofs.calls.safepoint_calls.asked.Goals as goal

pub returns : goal.returns
returns c = noted_runs c.args.heap.now c.args.dom.now c.ask.new.dom _ c.requires c.ask.ensures.here c.ask.ensures.view
