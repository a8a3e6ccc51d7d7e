-- A domain that acts goes on acting: for the layers above, which make several steps in one call.
use Rattle.std.proofs.Common.{ℕ, ap, ◌∙◌}
use Rattle.model_core.specs.Domains.{domain_at, opening}
use Rattle.model_core.proofs.Histories.FrontLemmas.{keeps_front}
use Rattle.heap_rule.specs.declared.config.Config.{Config}
use Rattle.heap_rule.specs.declared.view.DomainView.{DomainView}
use Rattle.heap_rule.specs.Limits.{sizes_in}
use Rattle.heap_rule.specs.Rule.{state_of}
use Rattle.heap_rule.specs.Standing.{Acts, Looked}

-- after a look
pub looked_acts : (k : Config) (x y : DomainView) → Looked k x y → Acts k x → Acts k y
looked_acts k x y looked acts =
    let kept = keeps_front (opening (sizes_in k)) x.own.number y.seen.front x.seen.front looked.seen in
    record {
      goes_on = ap (λ (n : ℕ). (domain_at (state_of k y.seen.front) n).ended) (ap (λ (z : DomainView). z.own.number) looked.view) ∙ (kept.ended ∙ acts.goes_on);
      runs = ap (λ (z : DomainView). z.seen.stage) looked.view ∙ acts.runs;
      paid = ap (λ (z : DomainView). z.seen.share.weak) looked.view ∙ acts.paid;
      unqueued = ap (λ (z : DomainView). z.own.finalisers.queue.items) looked.view ∙ acts.unqueued;
    }
