use Rattle.text_script.specs.declared.version.Version.TheVariants.{Three}
use Rattle.text_script.specs.Faults.{first_fault}
use Rattle.camlheap_run.specs.Reading.{IsFirst}
use Rattle.camlheap_run.proofs.ReadingLemmas.{not_refused, told_fault, told_script}
use Rattle.camlheap_run.proofs.read.texts.script_of.Goals as goal

pub returns-clause-only_faults : goal.returns-clause-only_faults
returns-clause-only_faults g c = λ s f told refused.
    not_refused s c.in-Err.fault f c.no_script.result c.no_script.ensures (cc) (c.in-Err.ensures.only s (told_script _ _ _ _ s c.in-Ok.ensures.bytes told))

pub returns-in-Ok-read_text-clause-only_scripts : goal.returns-in-Ok-read_text-clause-only_scripts
returns-in-Ok-read_text-clause-only_scripts g c = λ f told.
    let given = c.in-Ok-read_text.ensures.refused f (told_fault (IsFirst (first_fault Three c.args.domains)) _ _ _ f c.in-Ok.ensures.bytes told) in cc given
