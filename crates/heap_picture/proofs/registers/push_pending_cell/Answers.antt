use Rattle.std.proofs.Common.{append_assoc}
use Rattle.heap_picture.proofs.registers.push_pending_cell.Goals as goal

pub returns-in-Last : goal.returns-in-Last
returns-in-Last c = rw c.in-Last.is (simp append_assoc c.write-in-Last.ensures.bytes)
