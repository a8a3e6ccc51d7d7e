use Rattle.std.proofs.Common.{◌≡◌, length, get_or, set, ap, ◌∙◌, arith}
use Rattle.model_core.specs.Entries.{with_lasts_open}
use Rattle.judge_plain.proofs.PlaceLemmas.{changed_more}
use Rattle.judge_plain.proofs.collections.mark_lasts.Goals as goal

pub loop-domain-preserved : goal.loop-domain-preserved
loop-domain-preserved c =
    let count : c.len.result ≡ length (get_or c.loop-domain.domain-items c.loop-domain.domain-index c.domain-item.result).lasts = c.len.ensures ∙ omega (arith, c.lasts.inside.items.ok.0, ap length c.lasts.view_is) in
    (λ j. set c.loop-domain.domain-items c.loop-domain.domain-index (record (get_or c.loop-domain.domain-items c.loop-domain.domain-index c.domain-item.result) { low = count j }))
    ∙ changed_more with_lasts_open c.args.domains.now c.loop-domain.domain-items c.loop-domain.domain-index c.domain-item.result (omega (arith, ap length (c.deref_mut-domain-items.ensures.value ∙ c.domains.view_is))) c.loop-domain.invariant c.domain-item.is
