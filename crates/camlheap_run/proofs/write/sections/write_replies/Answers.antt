use Rattle.std.proofs.Common.{◌++◌, ◌∙◌, sym, take, append_assoc}
use Rattle.std.proofs.KnownBytes.{Appends-trans}
use Rattle.std.specs.Slice.Iter.{chunks_rest}
use Rattle.model_core.specs.Output.{line, reply_text, printed}
use Rattle.text_ends.proofs.WritingLemmas.{front_is_written}
use Rattle.camlheap_run.proofs.WritingLemmas.{front_of_second, text_by_parts}
use Rattle.camlheap_run.proofs.write.sections.write_replies.Goals as goal

pub pages-preserved : goal.pages-preserved
pages-preserved g c =
    let before = c.pages.invariant in
    let text = take c.put_lines-length.result c.put_lines-length.new.page in
    let parts = text_by_parts (λ r. line (reply_text r)) c.args.replies.now (chunks_rest c.pages.some-iterator) c.in-Some.some.now (chunks_rest c.next.new.self) before.done text
    before.whole c.in-Some.ensures.steps.1.0 c.put_lines-length.ensures.front in record {
      size = c.in-Some.ensures.steps.0 ∙ before.size;
      calm = c.in_ok-write_all.ensures.cause.calm ∙ before.calm;
      done = before.done ++ text;
      bytes = Appends-trans _ _ _ before.done text before.bytes c.in_ok-write_all.ensures.bytes;
      whole = append_assoc before.done text (printed (chunks_rest c.next.new.self)) ∙ sym parts;
    }

pub returns-in_err-write_all-clause-bytes : goal.returns-in_err-write_all-clause-bytes
returns-in_err-write_all-clause-bytes g c =
    let before = c.pages.invariant in
    let text = take c.put_lines-length.result c.put_lines-length.new.page in
    let parts = text_by_parts (λ r. line (reply_text r)) c.args.replies.now (chunks_rest c.pages.some-iterator) c.in-Some.some.now (chunks_rest c.next.new.self) before.done text
    before.whole c.in-Some.ensures.steps.1.0 c.put_lines-length.ensures.front in
    front_is_written _ _ _ _ c.from_residual.ensures.0 (front_of_second _ _ _ before.done text _ (printed (chunks_rest c.next.new.self)) parts before.bytes c.in_err-write_all.ensures.bytes)
