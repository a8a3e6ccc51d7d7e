use Rattle.std.proofs.Common.{[], ◌∷◌}
use Rattle.heap_picture.proofs.PlaysLemmas.{plays_then}
use Rattle.heap_picture.proofs.play.make_after_asking.Goals as goal

pub returns-in_ok-major-in-Major-clause-plays : goal.returns-in_ok-major-in-Major-clause-plays
returns-in_ok-major-in-Major-clause-plays c = plays_then c.make.result c.args.heap.now c.major.new.heap c.make.new.heap [] (c.args.command ∷ []) c.in_ok-major-in-Major.ensures.plays c.make.ensures.plays
