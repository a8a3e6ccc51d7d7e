use Rattle.weak_direct.proofs.SharedLemmas.{now_tried}
use Rattle.weak_direct.proofs.shared.SharedRunDirect.perform.Goals as goal

pub returns-in-Ok-clause-tried : goal.returns-in-Ok-clause-tried
returns-in-Ok-clause-tried c = now_tried c.args.self.now.heap c.args.self.now.run c.make_now-made.new.self.run c.args.c c.shows_here.ensures.here c.in-Ok.reply c.in-Ok.ensures.answers
