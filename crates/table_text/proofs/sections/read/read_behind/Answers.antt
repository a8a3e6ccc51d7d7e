use Rattle.std.proofs.Common.{arith, ◌∙◌}
use Rattle.table_text.proofs.OfSections.ReadLemmas.{ended, ended_well, is_first, read_on, stopped_or_memory}
use Rattle.table_text.proofs.sections.read.read_behind.Goals as goal

pub returns-in-Err-clause-fault : goal.returns-in-Err-clause-fault
returns-in-Err-clause-fault c =
    stopped_or_memory c.args.domains c.args.behind.now c.lines.rest.now c.in-Some.text.now c.in-Some.tail.now c.lines.sections c.in-Err.fault c.lines.invariant.read c.in-Some.ensures.value c.in-Err.ensures.fault

pub lines-preserved : goal.lines-preserved
lines-preserved c =
    let read = read_on c.args.domains c.args.behind.now c.lines.rest.now c.in-Some.text.now c.in-Some.tail.now c.lines.sections c.take_text.new.sections (omega arith) c.lines.invariant.read c.in-Some.ensures.value c.in_default-take_text.ensures.taken in
    record { read = read; few = read.within.few_sections; room = omega (arith, read.within.few_lines) }

pub returns-in-Err-end_of-clause-fault : goal.returns-in-Err-end_of-clause-fault
returns-in-Err-end_of-clause-fault c =
    is_first _ _ (ended c.args.domains c.args.behind.now c.lines.rest.now c.lines.sections c.lines.invariant.read c.in_default.ensures.value ∙ c.in-Err-end_of.ensures.fault)

pub returns-in-Ok-clause-found : goal.returns-in-Ok-clause-found
returns-in-Ok-clause-found c = ended_well c.args.domains c.args.behind.now c.lines.rest.now c.lines.sections c.lines.invariant.read c.in-Ok.ensures.fine
