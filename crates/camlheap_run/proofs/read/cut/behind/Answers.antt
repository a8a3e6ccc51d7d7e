use Rattle.std.proofs.Common.{sym, ◌∙◌, arith}
use Rattle.std.proofs.lemmas.Slice.Eq.{bytes_eq-Decides}
use Rattle.camlheap_run.proofs.ReaderLemmas.{part_behind}
use Rattle.camlheap_run.proofs.read.cut.behind.Goals as goal

pub returns-then-eq-clause-part : goal.returns-then-eq-clause-part
returns-then-eq-clause-part c = part_behind c.args.text.now c.args.part.now c.args.at _ (omega arith) ((bytes_eq-Decides _ c.args.part.now).0 (sym c.eq.ensures ∙ c.if-eq.true))
