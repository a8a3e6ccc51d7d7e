use Rattle.table_text.specs.Faults.{first_fault}
use Rattle.camlheap_run.specs.Reading.{IsFirst}
use Rattle.camlheap_run.proofs.ReadingLemmas.{not_refused, told_fault, told_table}
use Rattle.camlheap_run.proofs.read.texts.table_of.Goals as goal

pub returns-clause-only_faults : goal.returns-clause-only_faults
returns-clause-only_faults g c = λ s f told refused.
    let read = rw (← c.deref.ensures.value) at c.in-Ok.ensures.bytes in
    not_refused s c.in-Err.fault f c.no_script.result c.no_script.ensures (cc) (c.in-Err.ensures.only s (told_table _ _ _ s read told))

pub returns-in-Ok-read_table-clause-only_texts : goal.returns-in-Ok-read_table-clause-only_texts
returns-in-Ok-read_table-clause-only_texts g c = λ f told.
    let read = rw (← c.deref.ensures.value) at c.in-Ok.ensures.bytes in
    let given = c.in-Ok-read_table.ensures.refused f (told_fault (IsFirst first_fault) _ _ _ f read told) in cc given
