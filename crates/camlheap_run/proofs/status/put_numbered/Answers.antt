use Rattle.std.proofs.Common.{◌∙◌, arith}
use Rattle.camlheap_run.proofs.StatusLemmas.{same_behind}
use Rattle.camlheap_run.proofs.status.put_numbered.Goals as goal

pub returns-clause-rest : goal.returns-clause-rest
returns-clause-rest c =
    let number = c.put_number-at.ensures.rest ∙ same_behind c.put-at.result c.put_number-at.result _ _ c.put-at.ensures.rest c.put_number-at.ensures.start in
    c.put.ensures.rest ∙ same_behind c.put_number-at.result c.put.result _ _ number (omega arith)
