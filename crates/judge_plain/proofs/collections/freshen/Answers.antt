use Rattle.std.proofs.Common.{length, ap, ◌∙◌, arith}
use Rattle.model_core.specs.Entries.{freshened}
use Rattle.judge_plain.proofs.PlaceLemmas.{changed_more}
use Rattle.judge_plain.proofs.collections.freshen.Goals as goal

pub loop-domain-preserved : goal.loop-domain-preserved
loop-domain-preserved c =
    changed_more freshened c.args.domains.now c.loop-domain.domain-items c.loop-domain.domain-index c.domain-item.result
    (omega (arith, ap length (c.deref_mut-domain-items.ensures.value ∙ c.domains.view_is))) c.loop-domain.invariant c.domain-item.is
