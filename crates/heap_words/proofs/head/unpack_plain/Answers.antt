use Rattle.std.proofs.Common.{arith}
use Rattle.heap_words.proofs.HeadLemmas.{unpacks_none}
use Rattle.heap_words.proofs.head.unpack_plain.Goals as goal

pub returns-in_default : goal.returns-in_default
returns-in_default c = unpacks_none _ (omega arith) (omega arith) c.in_default.ensures
