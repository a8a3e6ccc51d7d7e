use Rattle.std.proofs.Common.{sym, ap}
use Rattle.heap_rule.specs.declared.view.Swept.{Swept}
use Rattle.gc_sweep.proofs.Prunings.{fewer, pruned_on}
use Rattle.gc_sweep.proofs.pruning.prune_list.Goals as goal

pub pruning-preserved : goal.pruning-preserved
pruning-preserved c = record {
  here = c.prune_load.ensures.here;
  pruned = pruned_on c.args.garbage c.ephemeron_at-at.result c.swept-next.result.listed c.prune_load.result c.args.dom.now.view c.pruning.dom.view c.prune_load.new.dom.view c.pruning.invariant.pruned (sym c.ephemeron_at-at.ensures.item) (sym (ap (λ (s : Swept). s.listed) c.swept-next.ensures.value)) c.prune_load.ensures.told;
}

pub pruning-smaller : goal.pruning-smaller
pruning-smaller c = fewer c.args.garbage c.ephemeron_at-at.result c.swept-next.result.listed c.prune_load.result c.args.dom.now.view c.pruning.dom.view c.prune_load.new.dom.view c.pruning.invariant.pruned (sym c.ephemeron_at-at.ensures.item) (sym (ap (λ (s : Swept). s.listed) c.swept-next.ensures.value)) c.prune_load.ensures.told
