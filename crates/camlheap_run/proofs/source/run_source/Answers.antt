use Rattle.std.proofs.Common.{◌≡◌, sym, ap, inl, subst, ◌∙◌}
use Rattle.camlheap_run.specs.declared.status.Status.TheVariants.{Script}
use Rattle.text_script.specs.declared.version.Version.TheVariants.{Three}
use Rattle.text_script.specs.Faults.{first_fault}
use Rattle.camlheap_run.specs.Reading.{IsFirst, ReadsFirstFault}
use Rattle.camlheap_run.proofs.ReadingLemmas.{told_fault}
use Rattle.camlheap_run.proofs.source.run_source.Goals as goal

pub returns-in-Err-Refused-clause-refused : goal.returns-in-Err-Refused-clause-refused
returns-in-Err-Refused-clause-refused g c = λ f told sure.
    let reads = c.in-Err-Refused.ensures.refused c.in-Err-Refused.fault (cc c.in-Err-Refused.field-0-is) in
    let first = told_fault (IsFirst (first_fault Three c.args.sizes.now.domains)) _ _ reads.0.bytes f reads.0.are_read told in
    let same : c.in-Err-Refused.fault ≡ f = cc (sym reads.0.first ∙ first) in
    rw c.in-Err-Refused.field-0-is (inl (ap Script same))

pub returns-in-Err-Refused-clause-script : goal.returns-in-Err-Refused-clause-script
returns-in-Err-Refused-clause-script g c = λ f is.
    let same : c.in-Err-Refused.fault ≡ f = cc in
    subst (λ x. ReadsFirstFault (IsFirst (first_fault Three c.args.sizes.now.domains)) (g.S.Source.left c.args.src.now) (g.S.Source.left c.script_of.new.src) x) same (c.in-Err-Refused.ensures.refused c.in-Err-Refused.fault (cc c.in-Err-Refused.field-0-is))

pub returns-in-Ok-clause-cut : goal.returns-in-Ok-clause-cut
returns-in-Ok-clause-cut g c = λ ended stopped. record { script = c.in-Ok.script; reads = c.in-Ok.ensures.script; writes = c.run_script.ensures.cut ended stopped }

pub returns-in-Err-Refused-clause-complete : goal.returns-in-Err-Refused-clause-complete
returns-in-Err-Refused-clause-complete g c = λ s told sure written. absurd (c.in-Err-Refused.ensures.only_faults s c.in-Err-Refused.fault told (cc c.in-Err-Refused.field-0-is))

pub returns-in-Ok-clause-done : goal.returns-in-Ok-clause-done
returns-in-Ok-clause-done g c = λ ended done. record { script = c.in-Ok.script; reads = c.in-Ok.ensures.script; writes = c.run_script.ensures.done ended done }
