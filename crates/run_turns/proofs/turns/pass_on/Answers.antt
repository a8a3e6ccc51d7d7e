use Rattle.run_turns.proofs.GoingLemmas.{past_goes}
use Rattle.run_turns.proofs.MeetingLemmas.{passes_on}
use Rattle.run_turns.proofs.turns.pass_on.Goals as goal

pub returns-in_default-pass_by : goal.returns-in_default-pass_by
returns-in_default-pass_by c = record {
  here = c.pass_by.ensures.here;
  answer = passes_on c.args.decider c.args.heap.now c.args.run.now c.pass_by.new.run c.pass_by.result c.pass_by.ensures.answer c.in_default-pass_by.not-Waits;
  goes_on = past_goes c.args.decider c.args.heap.now c.args.run.now c.pass_by.new.run c.pass_by.result c.pass_by.ensures.answer c.shows_faithful.ensures;
}
