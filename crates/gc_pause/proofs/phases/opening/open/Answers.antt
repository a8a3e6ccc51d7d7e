use Rattle.std.proofs.Common.{sym, subst}
use Rattle.heap_rule.specs.declared.phase.Kind.{Kind}
use Rattle.heap_rule.specs.declared.phase.Kind.TheVariants.{Reset, Queued, Lasts}
use Rattle.gc_pause.specs.Phases.Leading.{Opens}
use Rattle.gc_pause.proofs.OfPhases.Opens.{promote_opens, decide_opens, clean_opens}
use Rattle.gc_pause.proofs.phases.opening.open.Goals as goal

pub returns-in-Promote-clause-opens : goal.returns-in-Promote-clause-opens
returns-in-Promote-clause-opens c = subst (λ (last : Kind). Opens c.args.heap.now.config c.args.decider c.args.dom.now.view c.args.dom.now.view last Reset) (sym c.in-Promote.is) (promote_opens c.args.heap.now.config c.args.decider c.args.dom.now.view)

pub returns-in-Decide-clause-opens : goal.returns-in-Decide-clause-opens
returns-in-Decide-clause-opens c = subst (λ (last : Kind). Opens c.args.heap.now.config c.args.decider c.args.dom.now.view c.args.dom.now.view last Queued) (sym c.in-Decide.is) (decide_opens c.args.heap.now.config c.args.decider c.args.dom.now.view)

pub returns-in-Clean-clause-opens : goal.returns-in-Clean-clause-opens
returns-in-Clean-clause-opens c = subst (λ (last : Kind). Opens c.args.heap.now.config c.args.decider c.args.dom.now.view c.args.dom.now.view last Lasts) (sym c.in-Clean.is) (clean_opens c.args.heap.now.config c.args.decider c.args.dom.now.view)

pub returns-in-Run-clause-opens : goal.returns-in-Run-clause-opens
returns-in-Run-clause-opens c = subst (λ (last : Kind). Opens c.args.heap.now.config c.args.decider c.args.dom.now.view c.after_run.new.dom.view last c.after_run.result) (sym c.in-Run.is) (c.after_run.ensures.opens c.args.decider)

pub returns-in-Mark-clause-opens : goal.returns-in-Mark-clause-opens
returns-in-Mark-clause-opens c = subst (λ (last : Kind). Opens c.args.heap.now.config c.args.decider c.args.dom.now.view c.after_mark.new.dom.view last c.after_mark.result) (sym c.in-Mark.is) (c.after_mark.ensures.opens c.args.decider)

pub returns-in-Rounds-clause-opens : goal.returns-in-Rounds-clause-opens
returns-in-Rounds-clause-opens c = subst (λ (last : Kind). Opens c.args.heap.now.config c.args.decider c.args.dom.now.view c.after_rounds.new.dom.view last c.after_rounds.result) (sym c.in-Rounds.is) (c.after_rounds.ensures.opens c.args.decider)

pub returns-in-Queued-clause-opens : goal.returns-in-Queued-clause-opens
returns-in-Queued-clause-opens c = subst (λ (last : Kind). Opens c.args.heap.now.config c.args.decider c.args.dom.now.view c.after_queued.new.dom.view last c.after_queued.result) (sym c.in-Queued.is) (c.after_queued.ensures.opens c.args.decider)

pub returns-in-Answer-clause-opens : goal.returns-in-Answer-clause-opens
returns-in-Answer-clause-opens c = subst (λ (last : Kind). Opens c.args.heap.now.config c.args.decider c.args.dom.now.view c.after_answer.new.dom.view last c.after_answer.result) (sym c.in-Answer.is) (c.after_answer.ensures.opens c.args.decider)
