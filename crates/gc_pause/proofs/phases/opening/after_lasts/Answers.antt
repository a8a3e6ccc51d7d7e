use Rattle.std.proofs.Common.{◌∙◌, ap, sym}
use Rattle.heap_rule.specs.declared.phase.Kind.TheVariants.{Lasts}
use Rattle.heap_rule.specs.declared.view.DomainView.{DomainView}
use Rattle.gc_pause.proofs.OfPhases.Opens.{leads_list, lasts_frees, lasts_run, wished_view}
use Rattle.gc_pause.proofs.phases.opening.after_lasts.Goals as goal

pub before_run-requires-clause-leader : goal.before_run-requires-clause-leader
before_run-requires-clause-leader c =
    let k = c.args.heap.now.config in
    let x = c.args.dom.now.view in
    let y = c.wants-found.new.dom.view in
    let view = wished_view k c.args.decider x _ _ y _ _ _ c.colours_now-colours.ensures.knows c.colours_store.ensures.told c.wants-found.ensures.view in
    leads_list y Lasts (ap (λ (v : DomainView). v.own.number) view ∙ c.requires.first) (ap (λ (v : DomainView). v.seen.stage) view ∙ c.requires.odd) ((λ e. cc), λ e. cc)

pub returns-then-completes-clause-opens : goal.returns-then-completes-clause-opens
returns-then-completes-clause-opens c = lasts_frees c.args.heap.now.config c.args.decider c.args.dom.now.view _ _ _ _ _ _ c.colours_now-colours.ensures.knows c.colours_store.ensures.told c.wants-found.ensures.view c.clear_counts.new.dom.view (sym c.completes.ensures ∙ c.if-completes.true) c.clear_counts.ensures.cleared

pub returns-else-completes-clause-opens : goal.returns-else-completes-clause-opens
returns-else-completes-clause-opens c =
    let k = c.args.heap.now.config in
    let x = c.args.dom.now.view in
    lasts_run k c.args.decider x _ _ _ _ _ _ c.colours_now-colours.ensures.knows c.colours_store.ensures.told c.wants-found.ensures.view c.before_run.new.dom.view c.before_run.result (sym c.completes.ensures ∙ c.if-completes.false) c.before_run.ensures.lists c.before_run.ensures.list
