use Rattle.std.proofs.Common.{rules, ◌∙◌, sym, drop, take}
use Rattle.text_script.proofs.LineLemmas.{heading_read, first_kept}
use Rattle.text_script.proofs.line.heading_at.Goals as goal

pub returns-clause-said : goal.returns-clause-said
returns-clause-said c =
    heading_read (drop c.args.at c.args.bytes.now) (take 1 c.in_ok-row.row.numbers) (drop c.in_ok-row.row.next c.args.bytes.now) _ c.in_ok-row.ensures.value (search rules ∙ sym (first_kept c.in_ok-row.row.numbers))
