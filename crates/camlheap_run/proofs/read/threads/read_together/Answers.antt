use Rattle.camlheap_run.proofs.ReaderLemmas.{together_spelled}
use Rattle.camlheap_run.proofs.read.threads.read_together.Goals as goal

pub returns-in-Ok : goal.returns-in-Ok
returns-in-Ok g c =
    let cut = rw c.as_slice.ensures.value at (rw c.in-Some.is at c.in_ok-version.ensures) in
    let said = rw c.in-Some-2.is at c.in_ok-sections.ensures in
    let d = c.drive-readers.ensures.driven in
    together_spelled c.args.domains c.args.text.now.items c.in-Some.field-0 c.drive-readers.result.items c.in-Some-2.sections.items c.in-Ok.script cut
    (record { count = d.count; here = d.here; further = d.further; over = d.over }) said c.in-Ok.ensures.version c.in-Ok.ensures.joined c.in-Ok.ensures.few
