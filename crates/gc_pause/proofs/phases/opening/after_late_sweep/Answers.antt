use Rattle.std.proofs.Common.{◌∙◌, ap, sym}
use Rattle.heap_rule.specs.declared.config.Config.{Config}
use Rattle.heap_rule.specs.declared.phase.Kind.TheVariants.{Sweep}
use Rattle.gc_pause.specs.Phases.Leading.{begins}
use Rattle.gc_pause.proofs.OfPhases.Opens.{leads_list, late_begins, late_runs}
use Rattle.gc_pause.proofs.phases.opening.after_late_sweep.Goals as goal

pub list_free-free-requires-clause-leader : goal.list_free-free-requires-clause-leader
list_free-free-requires-clause-leader c = leads_list c.args.dom.now.view Sweep c.requires.first c.requires.odd ((λ e. cc), λ e. cc)

pub returns-then-begins-clause-opens : goal.returns-then-begins-clause-opens
returns-then-begins-clause-opens c =
    let k = c.args.heap.now.config in
    late_begins k c.args.decider c.args.dom.now.view c.list_free-free.new.dom.view c.wants-found.new.dom.view c.wants-found.result.bits c.list_free-free.result c.list_free-free.ensures.lists c.list_free-free.ensures.list c.wants-found.ensures.view c.requires.unswept
    (ap (λ (l : Config). begins l c.args.decider c.wants-found.result.bits c.list_free-free.result) (sym c.config.ensures.value) ∙ (sym c.begins.ensures ∙ c.if-begins.true))

pub returns-else-begins-clause-opens : goal.returns-else-begins-clause-opens
returns-else-begins-clause-opens c =
    let k = c.args.heap.now.config in
    late_runs k c.args.decider c.args.dom.now.view c.list_free-free.new.dom.view c.wants-found.new.dom.view c.wants-found.result.bits c.list_free-free.result c.list_free-free.ensures.lists c.list_free-free.ensures.list c.wants-found.ensures.view c.requires.unswept
    (ap (λ (l : Config). begins l c.args.decider c.wants-found.result.bits c.list_free-free.result) (sym c.config.ensures.value) ∙ (sym c.begins.ensures ∙ c.if-begins.false))
