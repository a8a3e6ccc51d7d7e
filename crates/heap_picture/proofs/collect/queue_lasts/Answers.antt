use Rattle.std.proofs.Common.{[], ◌-◌, ◌∙◌, arith}
use Rattle.heap_picture.proofs.PlaysLemmas.{plays_both, lasts_step}
use Rattle.heap_picture.proofs.collect.queue_lasts.Goals as goal

pub loop-place-preserved : goal.loop-place-preserved
loop-place-preserved c = record {
  plays = plays_both c.args.heap.now c.loop-place.heap c.queue_last.new.heap [] [] c.loop-place.invariant.plays c.in_ok-queue_last.ensures.plays;
  state = lasts_step c.args.fates.now c.loop-place.heap c.queue_last.new.heap c.loop-place.place (c.loop-place.place - 1) (omega arith) c.in_ok-queue_last.ensures.state ∙ c.loop-place.invariant.state;
}
