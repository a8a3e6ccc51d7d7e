use Rattle.std.proofs.Common.{◌++◌, ◌∙◌, take, ap, List, ℕ, arith}
use Rattle.camlheap_run.proofs.PageLemmas.{front_of_part}
use Rattle.camlheap_run.proofs.write.page.put_line.Goals as goal

pub returns-clause-front : goal.returns-clause-front
returns-clause-front c =
    front_of_part c.args.page.now c.put_at_front.new.room c.args.at _ c.put_at_front.result (omega arith) (omega arith)
    ∙ ap (λ (l : List ℕ). take c.args.at c.args.page.now ++ l) c.put_at_front.ensures.text
