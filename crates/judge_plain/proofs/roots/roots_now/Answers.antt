use Rattle.std.proofs.Common.{List, ap, sym, ◌∙◌, ◌++◌, flat_map, filter_map}
use Rattle.model_core.specs.declared.label.Label.{Label}
use Rattle.model_core.specs.declared.state.DomainState.{DomainState}
use Rattle.model_core.specs.Graph.{label_of}
use Rattle.model_core.specs.Domains.{pending_label}
use Rattle.model_core.proofs.Graphs.ListLemmas.{flat_map-map}
use Rattle.judge_plain.proofs.roots.roots_now.Goals as goal

pub returns : goal.returns
returns c =
    let s = c.args.state.now in
    let registers : List Label = flat_map (λ x. filter_map label_of x.registers) s.domains in
    let queued : List Label = flat_map (λ x. filter_map pending_label x.queue) s.domains in
    let first = c.in_ok-add_registers.ensures ∙ ap (λ t. t ++ registers) c.new-labels.ensures.items in
    c.in_ok-add_queues.ensures ∙ ap (λ t. t ++ queued) first
    ∙ ap (λ t. registers ++ t) (sym (flat_map-map (filter_map pending_label) (λ (x : DomainState). x.queue) s.domains))
