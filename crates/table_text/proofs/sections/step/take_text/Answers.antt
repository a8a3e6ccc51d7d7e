use Rattle.std.proofs.Common.{arith}
use Rattle.table_text.proofs.OfSections.TextLemmas.{heading_faults, heading_takes, line_faults}
use Rattle.table_text.proofs.sections.step.take_text.Goals as goal

pub returns-in-Some-clause-taken : goal.returns-in-Some-clause-taken
returns-in-Some-clause-taken c =
    heading_takes c.take_heading.result c.args.domains c.args.sections.now c.take_heading.new.sections c.args.text.now c.in-Some.number (omega arith) c.in-Some.ensures c.take_heading.ensures.fine c.take_heading.ensures.opened

pub returns-in-Some-clause-fault : goal.returns-in-Some-clause-fault
returns-in-Some-clause-fault c =
    heading_faults c.take_heading.result c.args.domains c.args.sections.now c.args.text.now c.in-Some.number (omega arith) c.in-Some.ensures c.take_heading.ensures.fault

pub returns-in-None-clause-fault : goal.returns-in-None-clause-fault
returns-in-None-clause-fault c = line_faults c.take_line.result c.args.domains c.args.sections.now c.args.text.now c.in-None.ensures c.take_line.ensures.fault
