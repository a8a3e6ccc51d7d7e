use Rattle.std.proofs.Common.{append_assoc, ◌∙◌, arith}
use Rattle.camlheap_run.proofs.StatusLemmas.{same_behind}
use Rattle.camlheap_run.proofs.status.put_fault.Goals as goal

pub returns-in-Order-clause-front : goal.returns-in-Order-clause-front
returns-in-Order-clause-front c = simp (append_assoc, c.put_line-in-Order.ensures.front, c.in-Order.is)

pub returns-in-Range-clause-rest : goal.returns-in-Range-clause-rest
returns-in-Range-clause-rest c =
    let number = c.put_number-at.ensures.rest ∙ same_behind c.put_line-at.result c.put_number-at.result _ _ c.put_line-at.ensures.rest c.put_number-at.ensures.start in
    c.put.ensures.rest ∙ same_behind c.put_number-at.result c.put.result _ _ number (omega arith)
