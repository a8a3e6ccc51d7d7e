use Rattle.std.proofs.Common.{◌∙◌, sym, subst, List, ℕ, arith}
use Rattle.std.specs.Io.KnownBytes.{Appends}
use Rattle.std.proofs.KnownBytes.{Appends-trans}
use Rattle.camlheap_run.proofs.GeneratingLemmas.{sections_cut, sections_more}
use Rattle.text_ends.proofs.WritingLemmas.{front_is_written}
use Rattle.camlheap_run.proofs.WritingLemmas.{front_of_second}
use Rattle.camlheap_run.proofs.generate.write_sections.Goals as goal

pub sections-preserved : goal.sections-preserved
sections-preserved g c =
    let both = Appends-trans _ _ _ _ _ c.sections.invariant.bytes c.in_ok-write_section.ensures.bytes in record {
      calm = c.in_ok-write_section.ensures.cause.calm ∙ c.sections.invariant.calm;
      bytes = subst (λ (l : List ℕ). Appends (g.K.Sink.written c.args.out.now) (g.K.Sink.written c.write_section.new.out) l) (sym (sections_more c.args.script.now.sections c.sections.domain)) both;
    }

pub returns-in_err-write_section-clause-bytes : goal.returns-in_err-write_section-clause-bytes
returns-in_err-write_section-clause-bytes g c =
    let cut = sections_cut c.args.script.now.sections c.sections.domain _ (omega arith) in
    front_is_written _ _ _ _ c.from_residual.ensures.0 (front_of_second _ _ _ _ _ _ _ cut c.sections.invariant.bytes c.in_err-write_section.ensures.bytes)
