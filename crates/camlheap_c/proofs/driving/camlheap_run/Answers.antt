use Rattle.std.proofs.Common.{◌≡◌, ◌∙◌, ap, subst}
use Rattle.run_seats.specs.Shared.Sharing.{SharedView}
use Rattle.camlheap_c.specs.declared.handle.CamlheapDomain.{CamlheapDomain}
use Rattle.camlheap_c.specs.Exported.{TakesSome}
use Rattle.camlheap_c.proofs.driving.camlheap_run.Goals as goal

pub returns-clause-some : goal.returns-clause-some
returns-clause-some c full =
    let lent : c.lend-run.result.now ≡ c.args.handle.now.value = c.lend-run.ensures.value ∙ ap (λ (h : CamlheapDomain). h.value) c.is_full.ensures.1 in
    let e = c.turns_of.ensures in
    subst (λ (v : SharedView). TakesSome v c.turns_of.new.run c.args.reply.now c.turns_of.new.reply c.turns_of.result) lent
    (record { heap = e.heap; further = e.further; answers = e.goes_on; idle = e.idle; few = e.told; last = e.last; ended = e.ended; ran = e.ran })
