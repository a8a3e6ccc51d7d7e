use Rattle.std.proofs.Common.{◌∙◌, ap, sym}
use Rattle.heap_rule.specs.declared.phase.Progress.{Progress}
use Rattle.gc_pause.proofs.OfPhases.Opens.{sweep_answers, sweep_begins}
use Rattle.gc_pause.proofs.phases.opening.after_sweep.Goals as goal

pub returns-then-progress-2-clause-opens : goal.returns-then-progress-2-clause-opens
returns-then-progress-2-clause-opens c = sweep_answers c.args.heap.now.config c.args.decider c.args.dom.now.view (sym (ap (λ (p : Progress). p.unswept) c.requires.knows) ∙ c.if-progress.false) (sym (ap (λ (p : Progress). p.whole) c.requires.knows) ∙ c.if-progress-2.true)

pub returns-else-progress-2-clause-opens : goal.returns-else-progress-2-clause-opens
returns-else-progress-2-clause-opens c = sweep_begins c.args.heap.now.config c.args.decider c.args.dom.now.view (sym (ap (λ (p : Progress). p.unswept) c.requires.knows) ∙ c.if-progress.false) (sym (ap (λ (p : Progress). p.whole) c.requires.knows) ∙ c.if-progress-2.false)
