use Rattle.std.proofs.Common.{◌∙◌}
use Rattle.heap_picture.proofs.PlaysLemmas.{plays_more, played_step}
use Rattle.heap_picture.proofs.play.play.Goals as goal

pub loop-command-preserved : goal.loop-command-preserved
loop-command-preserved c = record {
  plays = plays_more c.args.heap.now c.loop-command.heap c.play_command.new.heap c.args.commands.now c.loop-command.command-index _ c.loop-command-test.true c.loop-command.invariant.plays c.in_ok-play_command.ensures.plays;
  state = played_step c.loop-command.heap c.play_command.new.heap c.args.commands.now c.loop-command.command-index _ c.loop-command-test.true c.in_ok-play_command.ensures.state ∙ c.loop-command.invariant.state;
}
