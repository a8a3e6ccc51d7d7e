use Rattle.std.proofs.Common.{rules, ℕ, sym, subst, IfErr}
use Rattle.std.specs.Prelude.{Option}
use Rattle.text_script.specs.Schedule.Text.Faults.{IsFaultUnlessMemory}
use Rattle.text_script.proofs.OfSchedule.OfText.ReadingLemmas.{no_line, other_first, right_first}
use Rattle.text_script.proofs.schedule.text.reading.schedule_or_fault.Goals as goal

pub returns-in_default-clause-fault : goal.returns-in_default-clause-fault
returns-in_default-clause-fault c = no_line c.args.domains c.args.bytes.now c.in_default.ensures.value

pub returns-then-not-is_first_line-clause-fault : goal.returns-then-not-is_first_line-clause-fault
returns-then-not-is_first_line-clause-fault c = other_first c.args.domains c.args.bytes.now c.in-Some.first.now c.in-Some.behind.now c.in-Some.ensures.value (search rules)

pub read_items-requires : goal.read_items-requires
read_items-requires c = (right_first c.args.domains c.args.bytes.now c.in-Some.first.now c.in-Some.behind.now c.in-Some.ensures.value (search rules)).0

pub returns-clause-fault : goal.returns-clause-fault
returns-clause-fault c =
    let first = right_first c.args.domains c.args.bytes.now c.in-Some.first.now c.in-Some.behind.now c.in-Some.ensures.value (search rules) in
    subst (λ (o : Option ℕ). IfErr c.read_items.result (λ e. IsFaultUnlessMemory e o)) (sym first.1) c.read_items.ensures.fault
