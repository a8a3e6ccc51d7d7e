use Rattle.std.proofs.Common.{[], ◌∷◌}
use Rattle.heap_picture.proofs.PlaysLemmas.{plays_then}
use Rattle.heap_picture.proofs.play.play_command.Goals as goal

pub returns-clause-plays : goal.returns-clause-plays
returns-clause-plays c = plays_then c.make_after_asking.result c.args.heap.now c.run_queued.new.heap c.make_after_asking.new.heap [] (c.args.command ∷ []) c.in_ok-run_queued.ensures.plays c.make_after_asking.ensures.plays
