use Rattle.std.proofs.Common.{append_assoc}
use Rattle.heap_picture.proofs.registers.push_final_note.Goals as goal

pub returns : goal.returns
returns c = simp append_assoc c.write.ensures.bytes
