use Rattle.std.proofs.Common.{ap, List, ◌++◌}
use Rattle.model_core.specs.declared.command.Command.{Command}
use Rattle.model_core.specs.Output.{line}
use Rattle.text_script.specs.Spelling.{heading_text}
use Rattle.camlheap_run.specs.Generating.{commands_text}
use Rattle.text_ends.proofs.WritingLemmas.{front_is_written}
use Rattle.camlheap_run.proofs.WritingLemmas.{front_of_first, written_as, writes_both}
use Rattle.camlheap_run.proofs.generate.write_section.Goals as goal

pub returns-in_err-write_heading-clause-bytes : goal.returns-in_err-write_heading-clause-bytes
returns-in_err-write_heading-clause-bytes g c = front_is_written _ _ _ _ c.from_residual.ensures.0 (front_of_first _ _ _ _ c.in_err-write_heading.ensures.bytes)

pub returns-clause-bytes : goal.returns-clause-bytes
returns-clause-bytes g c =
    let text = ap (λ (cs : List Command). line (heading_text c.args.domain) ++ commands_text cs) c.section.ensures in
    written_as _ _ _ _ _ text (writes_both _ _ _ _ (line (heading_text c.args.domain)) (commands_text c.section.result.now) c.in_ok-write_heading.ensures.bytes c.write_commands.ensures.bytes)
