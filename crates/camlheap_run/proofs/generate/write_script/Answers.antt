use Rattle.std.proofs.Common.{sym, codes, length}
use Rattle.model_core.specs.Output.{line}
use Rattle.camlheap_run.specs.Generating.{sections_text}
use Rattle.camlheap_run.proofs.GeneratingLemmas.{spelling_is}
use Rattle.text_ends.proofs.WritingLemmas.{front_is_written}
use Rattle.camlheap_run.proofs.WritingLemmas.{front_as, front_of_first, written_as, writes_both}
use Rattle.camlheap_run.proofs.generate.write_script.Goals as goal

pub returns-in_err-write_all-clause-bytes : goal.returns-in_err-write_all-clause-bytes
returns-in_err-write_all-clause-bytes g c =
    let part = front_of_first _ _ (line (codes "heap 1")) (sections_text c.args.script.now.sections (length c.args.script.now.sections)) c.in_err-write_all.ensures.bytes in
    front_is_written _ _ _ _ c.from_residual.ensures.0 (front_as _ _ _ _ (sym (spelling_is c.args.script.now.sections)) part)

pub returns-clause-bytes : goal.returns-clause-bytes
returns-clause-bytes g c =
    let both = writes_both _ _ _ _ (line (codes "heap 1")) (sections_text c.args.script.now.sections (length c.args.script.now.sections)) c.in_ok-write_all.ensures.bytes c.write_sections.ensures.bytes in
    written_as _ _ _ _ _ (sym (spelling_is c.args.script.now.sections)) both
