use Rattle.std.proofs.Common.{subst, arith}
use Rattle.run_turns.specs.Runs.{RunView}
use Rattle.text_ends.specs.Writing.{AppendsFront}
use Rattle.camlheap_run.specs.Writing.{run_text}
use Rattle.text_ends.proofs.WritingLemmas.{front_is_written}
use Rattle.camlheap_run.proofs.WritingLemmas.{front_of_second, text_at}
use Rattle.camlheap_run.proofs.write.report.write_report.Goals as goal

pub returns-in_err-write_run-clause-bytes : goal.returns-in_err-write_run-clause-bytes
returns-in_err-write_run-clause-bytes g c =
    let item : RunView = c.run-item.result in
    let cut = text_at (run_text c.args.report) c.args.runs.now c.runs.run-index item (omega arith) in
    let part = front_of_second _ _ _ _ _ _ _ cut c.runs.invariant.bytes
    (subst (λ (r : RunView). AppendsFront (g.K.Sink.written c.runs.out) (g.K.Sink.written c.write_run.new.out) (run_text c.args.report r)) c.run-item.is c.in_err-write_run.ensures.bytes) in
    front_is_written _ _ _ _ c.from_residual.ensures.0 part
