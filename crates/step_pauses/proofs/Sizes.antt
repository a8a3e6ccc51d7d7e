-- Each history leaves as many domains as the heap has.
use Rattle.std.proofs.Common.{◌≡◌, List, length, ap, ◌∙◌}
use Rattle.model_core.specs.declared.entry.Entry.{Entry}
use Rattle.model_core.specs.declared.state.Sizes.{Sizes}
use Rattle.model_core.specs.Domains.{opening, IsWithinLimits}
use Rattle.model_core.proofs.Histories.ShapeAfterLemmas.{shaped-history}
use Rattle.heap_rule.specs.declared.config.Config.{Config}
use Rattle.heap_rule.specs.Limits.{sizes_in}
use Rattle.heap_rule.specs.Rule.{state_of}
use Rattle.model_core.proofs.Histories.SizesLemmas.{sizes_after}

-- each domain of the heap is one of the state's
pub domains_of : (k : Config) (log : List Entry) → IsWithinLimits (sizes_in k) → length (state_of k log).domains ≡ k.domains
domains_of k log limits = (shaped-history (sizes_in k) log limits).domain_count ∙ ap (λ (z : Sizes). z.domains) (sizes_after (opening (sizes_in k)) log)
