use Rattle.std.proofs.Common.{rules}
use Rattle.camlheap_run.specs.Status.{line_of}
use Rattle.camlheap_run.proofs.StatusLemmas.{front_and_rest}
use Rattle.camlheap_run.proofs.status.fault_line.Goals as goal

pub returns-in-Usage-clause-text : goal.returns-in-Usage-clause-text
returns-in-Usage-clause-text c = front_and_rest c.put.result c.put.new.out c.args.out.now (line_of c.args.status.now) (search rules) c.put.ensures.rest

pub returns-in-Script-clause-text : goal.returns-in-Script-clause-text
returns-in-Script-clause-text c = front_and_rest c.put_fault.result c.put_fault.new.out c.args.out.now (line_of c.args.status.now) (search rules) c.put_fault.ensures.rest

pub returns-in-ReadFault-clause-text : goal.returns-in-ReadFault-clause-text
returns-in-ReadFault-clause-text c = front_and_rest c.put-in-ReadFault.result c.put-in-ReadFault.new.out c.args.out.now (line_of c.args.status.now) (search rules) c.put-in-ReadFault.ensures.rest

pub returns-in-WriteFault-clause-text : goal.returns-in-WriteFault-clause-text
returns-in-WriteFault-clause-text c = front_and_rest c.put-in-WriteFault.result c.put-in-WriteFault.new.out c.args.out.now (line_of c.args.status.now) (search rules) c.put-in-WriteFault.ensures.rest

pub returns-in-Memory-clause-text : goal.returns-in-Memory-clause-text
returns-in-Memory-clause-text c = front_and_rest c.put-in-Memory.result c.put-in-Memory.new.out c.args.out.now (line_of c.args.status.now) (search rules) c.put-in-Memory.ensures.rest

pub returns-in-Schedule-clause-text : goal.returns-in-Schedule-clause-text
returns-in-Schedule-clause-text c = front_and_rest c.put_numbered.result c.put_numbered.new.out c.args.out.now (line_of c.args.status.now) (search rules) c.put_numbered.ensures.rest

pub returns-in-NotReplayable-clause-text : goal.returns-in-NotReplayable-clause-text
returns-in-NotReplayable-clause-text c = front_and_rest c.put_numbered-in-NotReplayable.result c.put_numbered-in-NotReplayable.new.out c.args.out.now (line_of c.args.status.now) (search rules) c.put_numbered-in-NotReplayable.ensures.rest
