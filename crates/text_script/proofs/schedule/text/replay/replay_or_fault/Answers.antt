use Rattle.std.proofs.Common.{rules}
use Rattle.text_script.proofs.schedule.text.replay.replay_or_fault.Goals as goal

pub returns-in_err-schedule-clause-fault : goal.returns-in_err-schedule-clause-fault
returns-in_err-schedule-clause-fault c = let fault = c.in_err-schedule.ensures.fault c.args.pools in search (rules, fault)

pub returns-in-Err-clause-fault : goal.returns-in-Err-clause-fault
returns-in-Err-clause-fault c = record {
  few = search rules;
  items = c.in_ok-schedule.schedule;
  place = c.in_ok-schedule.place;
  schedule = c.in_ok-schedule.ensures.found;
  script = c.in_ok-script.script;
  spelled = c.in_ok-script.ensures.found;
  reason = (c.in-Err.ensures.refused c.in-Err.field-0.why).0 (search rules);
}
