use Rattle.table_text.specs.Faults.{first_fault}
use Rattle.table_text.specs.Sections.Faults.{first_sections_fault}
use Rattle.camlheap_run.proofs.ReadingLemmas.{tells_more, tells_one}
use Rattle.camlheap_run.proofs.SourceLemmas.{done_or_memory, either_refused, is_more, is_one, of_several, read_more, read_one, refused_status, told_more, told_one}
use Rattle.camlheap_run.proofs.source.run_table_source.Goals as goal

pub returns-in-Ok-clause-refused : goal.returns-in-Ok-clause-refused
returns-in-Ok-clause-refused g c = λ f told sure. let given = c.in-Ok.ensures.only_texts f (told_one c.args.sizes.now.domains _ f c.if-sizes-eq1.true told) in cc given

pub returns-in-Err-clause-script : goal.returns-in-Err-clause-script
returns-in-Err-clause-script g c = λ f is.
    let same = refused_status c.in-Err.why c.nothing_read.result f c.nothing_read.ensures is in
    read_one c.args.sizes.now.domains _ _ f c.if-sizes-eq1.true (c.in-Err.ensures.refused f (cc same))

pub returns-in-Err-clause-complete : goal.returns-in-Err-clause-complete
returns-in-Err-clause-complete g c = λ told sure written.
    let text = tells_one c.args.sizes.now.domains _ (is_one c.args.sizes.now.domains c.if-sizes-eq1.true) told in
    done_or_memory c.in-Err.why c.nothing_read.result c.nothing_read.ensures (λ e. sure (c.in-Err.ensures.fault (cc e))) (λ f e. c.in-Err.ensures.only_faults text.0 f text.1 (cc e))

pub returns-in-Err-clause-refused : goal.returns-in-Err-clause-refused
returns-in-Err-clause-refused g c = λ f told sure.
    let first = told_one c.args.sizes.now.domains _ f c.if-sizes-eq1.true told in
    either_refused first_fault _ _ c.in-Err.why c.nothing_read.result f c.nothing_read.ensures (λ e. sure (c.in-Err.ensures.fault (cc e))) (λ h e. c.in-Err.ensures.refused h (cc e)) first

pub returns-in-Ok-sections_of-clause-done : goal.returns-in-Ok-sections_of-clause-done
returns-in-Ok-sections_of-clause-done g c = λ ended is.
    of_several c.args.sizes.now.domains _ _ c.if-sizes-eq1.false (record { text = c.in-Ok-sections_of.text; reads = c.in-Ok-sections_of.ensures.text; does = c.run_together.ensures.done ended is })

pub returns-in-Ok-sections_of-clause-cut : goal.returns-in-Ok-sections_of-clause-cut
returns-in-Ok-sections_of-clause-cut g c = λ ended is.
    of_several c.args.sizes.now.domains _ _ c.if-sizes-eq1.false (record { text = c.in-Ok-sections_of.text; reads = c.in-Ok-sections_of.ensures.text; does = c.run_together.ensures.cut ended is })

pub returns-in-Ok-sections_of-clause-refused : goal.returns-in-Ok-sections_of-clause-refused
returns-in-Ok-sections_of-clause-refused g c = λ f told sure. let given = c.in-Ok-sections_of.ensures.only_texts f (told_more c.args.sizes.now.domains _ f c.if-sizes-eq1.false told) in cc given

pub returns-in-Err-sections_of-clause-script : goal.returns-in-Err-sections_of-clause-script
returns-in-Err-sections_of-clause-script g c = λ f is.
    let same = refused_status c.in-Err-sections_of.why c.nothing_read-in-Err-sections_of.result f c.nothing_read-in-Err-sections_of.ensures is in
    read_more c.args.sizes.now.domains _ _ f c.if-sizes-eq1.false (c.in-Err-sections_of.ensures.refused f (cc same))

pub returns-in-Err-sections_of-clause-complete : goal.returns-in-Err-sections_of-clause-complete
returns-in-Err-sections_of-clause-complete g c = λ told sure written.
    let text = tells_more c.args.sizes.now.domains _ (is_more c.args.sizes.now.domains c.if-sizes-eq1.false) told in
    done_or_memory c.in-Err-sections_of.why c.nothing_read-in-Err-sections_of.result c.nothing_read-in-Err-sections_of.ensures (λ e. sure (c.in-Err-sections_of.ensures.fault (cc e))) (λ f e. c.in-Err-sections_of.ensures.only_faults text.0 f text.1 (cc e))

pub returns-in-Err-sections_of-clause-refused : goal.returns-in-Err-sections_of-clause-refused
returns-in-Err-sections_of-clause-refused g c = λ f told sure.
    let first = told_more c.args.sizes.now.domains _ f c.if-sizes-eq1.false told in
    either_refused (first_sections_fault c.args.sizes.now.domains) _ _ c.in-Err-sections_of.why c.nothing_read-in-Err-sections_of.result f c.nothing_read-in-Err-sections_of.ensures (λ e. sure (c.in-Err-sections_of.ensures.fault (cc e))) (λ h e. c.in-Err-sections_of.ensures.refused h (cc e)) first
