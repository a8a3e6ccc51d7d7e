use Rattle.std.proofs.Common.{arith}
use Rattle.run_threads.proofs.PutBack.{pushed_back}
use Rattle.run_threads.proofs.taking.put_back.Goals as goal

pub returns-clause-back : goal.returns-clause-back
returns-clause-back g c = pushed_back c.args.traces.now.items c.push_reserved.new.self.items c.swap.new.self.items c.args.at c.len-last.result c.args.trace (omega (arith, c.len-last.ensures)) c.push_reserved.ensures.items (omega (arith, c.swap.ensures.len)) c.swap.ensures.by_index
