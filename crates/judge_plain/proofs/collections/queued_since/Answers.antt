use Rattle.std.proofs.Common.{◌≡◌, ◌<◌, ◌+◌, ◌++◌, List, map, drop, length, get_or, slice_get, ap, sym, ◌∙◌, append_assoc}
use Rattle.model_core.specs.declared.label.Label.{Label}
use Rattle.model_core.specs.declared.state.DomainState.{DomainState}
use Rattle.model_core.specs.Entries.{queued_after, queued_beyond}
use Rattle.judge_plain.proofs.PlaceLemmas.{queued_one_queue}
use Rattle.judge_plain.proofs.collections.queued_since.Goals as goal

pub loop-i-preserved : goal.loop-i-preserved
loop-i-preserved c =
    let xs = c.args.domains.now in
    let cut = c.args.cut.now in
    let i = c.loop-i.i in
    let x : DomainState = c.domain-item.result in
    let labels : List Label = c.loop-i.labels.items in
    let list : c.deref-domain-items.result.now ≡ xs = c.deref-domain-items.ensures.value ∙ c.domains.view_is in
    let within : i < length xs = rw list at c.loop-i-test.true in
    let here : x ≡ get_or xs i x = rw list at c.domain-item.is in
    let rest : List Label = queued_beyond (map (λ (y : DomainState). y.queue) (drop (i + 1) xs)) (drop (i + 1) cut) in
    ap (λ t. t ++ rest) c.in_ok-add_since.ensures ∙ append_assoc labels (queued_after x.queue (slice_get cut i)) rest
    ∙ ap (λ t. labels ++ t) (sym (queued_one_queue xs cut i x within here)) ∙ c.loop-i.invariant
