use Rattle.std.proofs.Common.{[], ap, ◌∙◌, add-one}
use Rattle.model_core.specs.declared.entry.Entry.TheVariants.{Ran}
use Rattle.model_core.specs.Entries.{next}
use Rattle.heap_picture.proofs.PlaysLemmas.{plays_both}
use Rattle.heap_picture.proofs.play.run_queued.Goals as goal

pub loop-i-preserved : goal.loop-i-preserved
loop-i-preserved c = record {
  plays = plays_both c.args.heap.now c.loop-i.heap c.follow.new.heap [] [] c.loop-i.invariant.plays c.in_ok-follow.ensures.plays;
  state = rw (add-one c.loop-i._i) (c.in_ok-follow.ensures.state ∙ ap (λ s. next s (Ran 0)) c.loop-i.invariant.state);
}
