use Rattle.std.proofs.Common.{◌∙◌, ap, refl, sym, true}
use Rattle.heap_rule.specs.declared.phase.Kind.TheVariants.{Roots}
use Rattle.heap_rule.specs.declared.view.DomainView.{DomainView}
use Rattle.gc_pause.proofs.OfPhases.Opens.{leads_list, roots_end, roots_run}
use Rattle.gc_pause.proofs.phases.opening.after_roots.Goals as goal

pub before_run-requires-clause-leader : goal.before_run-requires-clause-leader
before_run-requires-clause-leader c =
    let told = c.wants-found.ensures.view in
    leads_list c.wants-found.new.dom.view Roots (ap (λ (x : DomainView). x.own.number) told ∙ c.requires.first) (ap (λ (x : DomainView). x.seen.stage) told ∙ c.requires.odd) ((λ e. cc), λ e. cc)

pub returns-then-completes-clause-opens : goal.returns-then-completes-clause-opens
returns-then-completes-clause-opens c = roots_end c.args.heap.now.config c.args.decider c.args.dom.now.view c.wants-found.new.dom.view c.wants-found.result.bits c.wants-found.ensures.view (sym c.completes.ensures ∙ c.if-completes.true)

pub returns-else-completes-clause-opens : goal.returns-else-completes-clause-opens
returns-else-completes-clause-opens c =
    roots_run c.args.heap.now.config c.args.decider c.args.dom.now.view c.wants-found.new.dom.view c.before_run.new.dom.view true c.before_run.result c.before_run.ensures.lists c.before_run.ensures.list c.wants-found.result.bits c.wants-found.ensures.view (sym c.completes.ensures ∙ c.if-completes.false) refl
