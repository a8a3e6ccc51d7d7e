-- What a domain sees of its queue of finalisers.
use Rattle.std.specs.Prelude.{◌≡◌, ℕ, length}
use Rattle.model_core.specs.Domains.{domain_at}
use Rattle.heap_rule.specs.declared.config.Config.{Config}
use Rattle.heap_rule.specs.declared.view.DomainView.{DomainView}
use Rattle.heap_rule.specs.Rule.{state_of}

-- the domain is as it was, and its queue is as long as in the state after its front
pub record QueueTold (k : Config) (x : DomainView) (found : ℕ) (y : DomainView) : Type 0 where
  pub view : y ≡ x
  pub queue : length (domain_at (state_of k x.seen.front) x.own.number).queue ≡ length x.own.finalisers.queue.items
