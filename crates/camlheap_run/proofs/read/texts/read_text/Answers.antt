use Rattle.std.proofs.Common.{Ok, arith}
use Rattle.text_script.specs.declared.version.Version.TheVariants.{Three}
use Rattle.text_script.proofs.OnlyLemmas.{only_read, refused_by}
use Rattle.camlheap_run.proofs.read.texts.read_text.Goals as goal

pub returns-in-Ok-Some-clause-only : goal.returns-in-Ok-Some-clause-only
returns-in-Ok-Some-clause-only g c =
    let found = rw c.in-Ok-Some.field-0-is at c.in-Ok-Some.ensures in
    only_read Three c.args.domains c.args.text.now.items (Ok c.in-Ok-Some.script) (omega arith) found tt

pub returns-in-Ok-Some-clause-refused : goal.returns-in-Ok-Some-clause-refused
returns-in-Ok-Some-clause-refused g c =
    let found = rw c.in-Ok-Some.field-0-is at c.in-Ok-Some.ensures in
    refused_by Three c.args.domains c.args.text.now.items (Ok c.in-Ok-Some.script) (omega arith) found tt
