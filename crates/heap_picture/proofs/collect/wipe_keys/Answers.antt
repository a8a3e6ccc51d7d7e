use Rattle.std.proofs.Common.{[], ap, ◌∙◌, add-one}
use Rattle.heap_picture.specs.Steps.{wiped_at}
use Rattle.heap_picture.proofs.PlaysLemmas.{plays_both}
use Rattle.heap_picture.proofs.collect.wipe_keys.Goals as goal

pub loop-place-preserved : goal.loop-place-preserved
loop-place-preserved c = record {
  plays = plays_both c.args.heap.now c.loop-place.heap c.wipe_at.new.heap [] [] c.loop-place.invariant.plays c.in_ok-wipe_at.ensures.plays;
  state = rw (add-one c.loop-place.place) (c.in_ok-wipe_at.ensures.state ∙ ap (λ s. wiped_at c.args.fates.now s c.loop-place.place) c.loop-place.invariant.state);
}
