use Rattle.text_ends.proofs.WritingLemmas.{front_is_written}
use Rattle.camlheap_run.proofs.WritingLemmas.{front_of_first, writes_both}
use Rattle.camlheap_run.proofs.table.replies.write_section.Goals as goal

pub returns-in_err-write_heading-clause-bytes : goal.returns-in_err-write_heading-clause-bytes
returns-in_err-write_heading-clause-bytes g c = front_is_written _ _ _ _ c.from_residual.ensures.0 (front_of_first _ _ _ _ c.in_err-write_heading.ensures.bytes)

pub returns-clause-bytes : goal.returns-clause-bytes
returns-clause-bytes g c = writes_both _ _ _ _ _ _ c.in_ok-write_heading.ensures.bytes c.write_answers.ensures.bytes
