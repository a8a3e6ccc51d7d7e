use Rattle.std.proofs.Common.{rules, arith}
use Rattle.std.specs.VecDeque.{deque_len}
use Rattle.heap_words.proofs.OfRemembered.Turning.{turned_right, turned_left}
use Rattle.heap_words.proofs.remembered.queue.turn.Goals as goal

pub returns-then-from-to-clause-same : goal.returns-then-from-to-clause-same
returns-then-from-to-clause-same g c = turned_right c.args.items.now.items c.rotate_right.new.self.items (deque_len c.args.items.now) c.args.from c.args.to (search rules) (omega (arith, c.if-from-to.true)) c.requires.to c.rotate_right.ensures.items

pub returns-else-from-to-clause-same : goal.returns-else-from-to-clause-same
returns-else-from-to-clause-same g c = turned_left c.args.items.now.items c.rotate_left.new.self.items (deque_len c.args.items.now) c.args.from c.args.to (search rules) (omega (arith, c.if-from-to.false)) c.requires.from c.rotate_left.ensures.items
