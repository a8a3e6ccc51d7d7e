use Rattle.std.proofs.Common.{subst, arith}
use Rattle.camlheap_run.specs.declared.write.tellers.Teller.{Teller}
use Rattle.camlheap_run.specs.Telling.{teller_text}
use Rattle.text_ends.specs.Writing.{AppendsFront}
use Rattle.text_ends.proofs.WritingLemmas.{front_is_written}
use Rattle.camlheap_run.proofs.WritingLemmas.{front_of_second, text_at}
use Rattle.camlheap_run.proofs.write.tellers.write_tellers.Goals as goal

pub returns-in_err-write_teller-clause-bytes : goal.returns-in_err-write_teller-clause-bytes
returns-in_err-write_teller-clause-bytes g c =
    let item : Teller = c.teller-item.result in
    let cut = text_at teller_text c.args.tellers.now c.tellers.teller-index item (omega arith) in
    let part = front_of_second _ _ _ _ _ _ _ cut c.tellers.invariant.bytes
    (subst (λ (t : Teller). AppendsFront (g.K.Sink.written c.tellers.out) (g.K.Sink.written c.write_teller.new.out) (teller_text t)) c.teller-item.is c.in_err-write_teller.ensures.bytes) in
    front_is_written _ _ _ _ c.from_residual.ensures.0 part
