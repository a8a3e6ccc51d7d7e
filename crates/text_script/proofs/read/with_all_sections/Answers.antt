use Rattle.std.proofs.Common.{ap, ◌∙◌, ◌++◌, [], replicate, arith}
use Rattle.text_script.proofs.read.with_all_sections.Goals as goal

pub returns-clause-ok : goal.returns-clause-ok
returns-clause-ok c = c.loop.invariant.filled ∙ ap (λ n. record c.args.script { sections = c.args.script.sections ++ replicate n [] }) (omega arith)
