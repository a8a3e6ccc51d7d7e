use Rattle.gc_copy.proofs.HeldMoves.{all_moved}
use Rattle.gc_copy.proofs.finalisers.move_finalisers.Goals as goal

pub returns-clause-moved : goal.returns-clause-moved
returns-clause-moved c = all_moved c.args.heap.now.config c.args.dom.now.view c.move_finals.new.dom.view c.move_lasts.new.dom.view c.move_queue.new.dom.view c.move_finals.ensures.moved c.move_lasts.ensures.moved c.move_queue.ensures.moved
