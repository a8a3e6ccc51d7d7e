use Rattle.gc_pause.specs.declared.phases.decider.Decider.TheVariants.{Wishes}
use Rattle.run_turns.proofs.GoingLemmas.{run_goes, resumed_goes, past_goes}
use Rattle.run_turns.proofs.turns.turn_on.Goals as goal

pub returns-in_default-clause-goes_on : goal.returns-in_default-clause-goes_on
returns-in_default-clause-goes_on c = run_goes c.args.heap.now c.args.run.now c.turn_running.new.run c.turn_running.result c.turn_running.ensures.answer c.turn_running.ensures.over

pub returns-in-Runs-clause-goes_on : goal.returns-in-Runs-clause-goes_on
returns-in-Runs-clause-goes_on c = resumed_goes c.args.heap.now c.args.run.now c.pass_by.new.run c.turn_running-in-Runs.new.run c.turn_running-in-Runs.result c.in-Runs.ensures.answer c.turn_running-in-Runs.ensures.answer c.turn_running-in-Runs.ensures.over

pub returns-in-Arrived-clause-goes_on : goal.returns-in-Arrived-clause-goes_on
returns-in-Arrived-clause-goes_on c = past_goes Wishes c.args.heap.now c.args.run.now c.pass_by.new.run c.pass_by.result c.pass_by.ensures.answer c.shows_faithful.ensures
