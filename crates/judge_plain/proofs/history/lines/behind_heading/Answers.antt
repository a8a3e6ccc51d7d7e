use Rattle.model_core.specs.Output.{line}
use Rattle.text_script.specs.Spelling.{heading_text}
use Rattle.judge_plain.proofs.OfHistory.ExactLemmas.{no_line}
use Rattle.judge_plain.proofs.history.lines.behind_heading.Goals as goal

pub returns-clause-none : goal.returns-clause-none
returns-clause-none c =
    no_line c.behind.result c.args.bytes.now c.print_heading-length.new.out (line (heading_text c.args.domain)) _ c.print_heading-length.result c.print_heading-length.ensures.text c.print_heading-length.ensures.length c.behind.ensures.none
