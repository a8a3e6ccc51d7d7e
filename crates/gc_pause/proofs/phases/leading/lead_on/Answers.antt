use Rattle.std.proofs.Common.{◌∙◌, ap, sym, subst}
use Rattle.heap_rule.specs.declared.phase.Progress.{Progress}
use Rattle.step_pauses.specs.Pauses.{progress_after}
use Rattle.gc_pause.specs.Phases.Measure.{IsNearer}
use Rattle.gc_pause.proofs.OfPhases.Leads.{leads_on}
use Rattle.gc_pause.proofs.OfPhases.Measure.{leads_nearer}
use Rattle.gc_pause.proofs.phases.leading.lead_on.Goals as goal

pub returns-clause-leads : goal.returns-clause-leads
returns-clause-leads c = leads_on c.args.heap.now.config c.args.decider c.args.dom.now.view c.open-next.new.dom.view c.name.new.dom.view c.arrive.new.dom.view c.args.last c.open-next.result c.requires.leads.odd c.open-next.ensures.opens c.name.ensures.named c.arrive.ensures.view

pub returns-clause-nearer : goal.returns-clause-nearer
returns-clause-nearer c =
    subst (λ (p : Progress × Progress). IsNearer c.args.heap.now.config c.args.last c.open-next.result p.0 p.1 c.args.dom.now.view.seen.share.unmarked c.arrive.new.dom.view.seen.share.unmarked)
    (λ i. (sym c.requires.knows i, sym (c.progress_after.ensures ∙ ap (progress_after c.args.last c.open-next.result) c.requires.knows) i))
    (leads_nearer c.args.heap.now.config c.args.decider c.args.dom.now.view c.arrive.new.dom.view c.args.last c.open-next.result (returns-clause-leads c))
