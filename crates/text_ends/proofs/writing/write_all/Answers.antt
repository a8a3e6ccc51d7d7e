use Rattle.std.proofs.Common.{◌∙◌, arith}
use Rattle.std.proofs.lemmas.Grind.{common_steps}
use Rattle.std.proofs.lemmas.List.{take_rest}
use Rattle.std.proofs.Math.Seq.{take-add}
use Rattle.std.proofs.KnownBytes.{Appends-trans}
use Rattle.text_ends.proofs.WritingLemmas.{front_at_fault, front_is_written}
use Rattle.text_ends.proofs.writing.write_all.Goals as goal

pub writing-preserved : goal.writing-preserved
writing-preserved g c =
    let both = Appends-trans _ _ _ _ _ c.writing.invariant.bytes c.in_ok-count.ensures.bytes in record {
      calm = c.in_ok-count.ensures.cause.calm ∙ c.writing.invariant.calm;
      inside = grind (arith, common_steps);
      bytes = rw (take-add c.writing.at c.in_ok-count.count c.args.text.now) (rw (take_rest c.args.text.now c.writing.at) at both);
    }

pub returns-in_err-count-clause-bytes : goal.returns-in_err-count-clause-bytes
returns-in_err-count-clause-bytes g c =
    front_is_written _ _ _ c.args.text.now c.from_residual.ensures.0 (front_at_fault _ _ _ c.args.text.now c.writing.at c.writing.invariant.bytes c.in_err-count.ensures.bytes)
