use Rattle.run_alone.proofs.Served.{begins_wishes, comes_back}
use Rattle.run_alone.proofs.pausing.come_back.Goals as goal

pub returns-clause-back : goal.returns-clause-back
returns-clause-back c = comes_back c.args.heap.now c.args.run c.pause.result c.requires.lone c.requires.calm c.pause.ensures.paused c.pause.ensures.ends

pub pause-requires-clause-begun : goal.pause-requires-clause-begun
pause-requires-clause-begun c = begins_wishes c.args.heap.now c.args.run c.requires.lone
