use Rattle.std.proofs.Common.{◌∙◌}
use Rattle.gc_mark.proofs.slices.steal_among.Goals as goal

pub steal-requires-clause-other : goal.steal-requires-clause-other
steal-requires-clause-other g c = λ e. (c.requires.others c.loop-from.from c.loop-from.auto.from c.loop-from-test.true).0 (e ∙ c.loop-from.invariant.tries.deck.number)
