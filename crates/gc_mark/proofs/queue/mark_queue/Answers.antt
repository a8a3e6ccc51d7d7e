use Rattle.std.proofs.Common.{◌∙◌, ap}
use Rattle.heap_rule.specs.declared.phase.Kind.TheVariants.{Queued}
use Rattle.heap_rule.specs.declared.view.DomainView.{DomainView}
use Rattle.gc_mark.proofs.queue.mark_queue.Goals as goal

pub changed_store-requires-clause-may : goal.changed_store-requires-clause-may
changed_store-requires-clause-may c = record {
  kind = Queued;
  stage = ap (λ (z : DomainView). z.seen.stage) c.loop-place.invariant.view ∙ c.requires.stage;
  changing = tt;
  owes = ap (λ (z : DomainView). z.seen.share.owes) c.loop-place.invariant.view ∙ c.if-darkened.true;
}
