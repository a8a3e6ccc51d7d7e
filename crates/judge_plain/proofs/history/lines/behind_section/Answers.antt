use Rattle.model_core.specs.Output.{line, printed}
use Rattle.text_script.specs.Spelling.{heading_text}
use Rattle.judge_plain.proofs.OfHistory.ExactLemmas.{section_none}
use Rattle.judge_plain.proofs.history.lines.behind_section.Goals as goal

pub returns-clause-none : goal.returns-clause-none
returns-clause-none c =
    section_none c.behind_replies.result c.args.bytes.now c.in_ok-rest.rest.now (line (heading_text c.args.domain)) (printed c.args.replies.now) c.in_ok-rest.ensures.some c.behind_replies.ensures.none
