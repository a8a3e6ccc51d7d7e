use Rattle.std.specs.Prelude.{Some}
use Rattle.std.proofs.lemmas.List.Elements.{All-pop}
use Rattle.test_heap.specs.Calls.Fresh.{IsFresh}
use Rattle.test_heap.proofs.calls.size_pools_calls.drawers_of.Goals as goal

pub invariant_of-push : goal.invariant_of-push
invariant_of-push c = record { runs = (All-pop (IsFresh c.args.heap.now) _ _ (Some c.in-Some.dom) c.in-Some.ensures.items c.loop.invariant).1.runs }

pub loop-preserved : goal.loop-preserved
loop-preserved c = (All-pop (IsFresh c.args.heap.now) _ _ (Some c.in-Some.dom) c.in-Some.ensures.items c.loop.invariant).0
