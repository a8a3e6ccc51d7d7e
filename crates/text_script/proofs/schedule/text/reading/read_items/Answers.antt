use Rattle.std.proofs.Common.{rules, arith, ℕ, ◌∙◌, ap, Some, ◌+◌}
use Rattle.text_script.proofs.OfSchedule.OfText.ReadingLemmas.{all_read, line_wrong, line_missing, item_taken}
use Rattle.text_script.proofs.schedule.text.reading.read_items.Goals as goal

pub returns-then-is_end-clause-found : goal.returns-then-is_end-clause-found
returns-then-is_end-clause-found c = all_read c.args.domains c.args.bytes.now c.args.behind.now c.lines.list.items c.lines.rest.now c.in-Some.text.now c.in-Some.tail.now c.lines.invariant c.in-Some.ensures.value (search rules)

pub returns-in_default-next_item-clause-fault : goal.returns-in_default-next_item-clause-fault
returns-in_default-next_item-clause-fault c =
    line_wrong c.args.domains c.args.bytes.now c.args.behind.now c.lines.list.items c.lines.rest.now c.in-Some.text.now c.in-Some.tail.now c.lines.invariant c.in-Some.ensures.value (search rules) (search rules)
    ∙ ap (λ (n : ℕ). Some (n + 2)) (search rules)

pub lines-preserved : goal.lines-preserved
lines-preserved c = item_taken c.args.domains c.args.bytes.now c.args.behind.now c.lines.list.items c.push.new.self.items c.in-Some-next_item.item c.lines.rest.now c.in-Some.text.now c.in-Some.tail.now (omega arith) c.lines.invariant c.in-Some.ensures.value (search rules) (search rules) (search rules)

pub returns-clause-fault : goal.returns-clause-fault
returns-clause-fault c =
    line_missing c.args.domains c.args.bytes.now c.args.behind.now c.lines.list.items c.lines.rest.now c.lines.invariant c.in_default.ensures.value ∙ ap (λ (n : ℕ). Some (n + 2)) (search rules)
