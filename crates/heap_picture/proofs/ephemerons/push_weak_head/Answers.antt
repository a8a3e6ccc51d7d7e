use Rattle.std.proofs.Common.{append_assoc}
use Rattle.heap_picture.proofs.ephemerons.push_weak_head.Goals as goal

pub returns : goal.returns
returns c = simp append_assoc c.write.ensures.bytes
