use Rattle.std.proofs.Common.{arith}
use Rattle.text_script.proofs.OfSchedule.OfText.OnlyLemmas.{only_read, refused_by}
use Rattle.text_script.proofs.schedule.text.reading.read_schedule.Goals as goal

pub returns-clause-only : goal.returns-clause-only
returns-clause-only c = only_read c.args.domains c.args.bytes.now c.schedule_or_fault.result (omega arith) c.schedule_or_fault.ensures.found c.schedule_or_fault.ensures.fault

pub returns-clause-refused : goal.returns-clause-refused
returns-clause-refused c = refused_by c.args.domains c.args.bytes.now c.schedule_or_fault.result (omega arith) c.schedule_or_fault.ensures.found c.schedule_or_fault.ensures.fault
