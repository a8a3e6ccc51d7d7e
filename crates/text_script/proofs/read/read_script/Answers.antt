use Rattle.std.proofs.Common.{arith}
use Rattle.text_script.proofs.OnlyLemmas.{only_read, refused_by}
use Rattle.text_script.proofs.read.read_script.Goals as goal

pub returns-clause-only : goal.returns-clause-only
returns-clause-only c = only_read c.args.newest c.args.domains c.args.bytes.now c.script_or_fault.result (omega arith) c.script_or_fault.ensures.found c.script_or_fault.ensures.fault

pub returns-clause-refused : goal.returns-clause-refused
returns-clause-refused c = refused_by c.args.newest c.args.domains c.args.bytes.now c.script_or_fault.result (omega arith) c.script_or_fault.ensures.found c.script_or_fault.ensures.fault
