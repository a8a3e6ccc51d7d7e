use Rattle.std.proofs.Common.{[], ◌∷◌}
use Rattle.model_core.specs.declared.command.Command.TheVariants.{FullMajor}
use Rattle.heap_picture.proofs.PlaysLemmas.{plays_both, plays_then}
use Rattle.heap_picture.proofs.play.full_major.Goals as goal

pub returns-clause-plays : goal.returns-clause-plays
returns-clause-plays c =
    let made = plays_both c.args.heap.now c.collect.new.heap c.make.new.heap [] (FullMajor ∷ []) c.in_ok-collect.ensures.plays c.in_ok-make.ensures.plays in
    plays_then c.follow.result c.args.heap.now c.make.new.heap c.follow.new.heap (FullMajor ∷ []) [] made c.follow.ensures.plays
