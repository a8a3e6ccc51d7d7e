use Rattle.std.proofs.Common.{arith}
use Rattle.text_script.proofs.OfSchedule.OfText.ReplayLemmas.{only_replay, replay_refused}
use Rattle.text_script.proofs.schedule.text.replay.read_replay.Goals as goal

pub returns-clause-only : goal.returns-clause-only
returns-clause-only c = only_replay c.args.domains c.args.pools c.args.bytes.now (omega arith) c.replay_or_fault.result c.replay_or_fault.ensures.found c.replay_or_fault.ensures.fault

pub returns-clause-refused : goal.returns-clause-refused
returns-clause-refused c = replay_refused c.args.domains c.args.pools c.args.bytes.now (omega arith) c.replay_or_fault.result c.replay_or_fault.ensures.found c.replay_or_fault.ensures.fault
