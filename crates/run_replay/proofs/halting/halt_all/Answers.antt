use Rattle.std.proofs.Common.{◌∙◌, ap}
use Rattle.run_turns.specs.Runs.{RunView}
use Rattle.run_replay.proofs.LevelLemmas.{level_here}
use Rattle.run_replay.proofs.Pace.{few_before}
use Rattle.run_replay.proofs.halting.halt_all.Goals as goal

pub halt_each-requires-clause-here : goal.halt_each-requires-clause-here
halt_each-requires-clause-here c = level_here c.args.heap.now c.args.runs.now c.meet.new.runs c.requires.here c.meet.ensures.leveled

pub halt_each-requires-clause-running : goal.halt_each-requires-clause-running
halt_each-requires-clause-running c = λ d r there. let m = c.meet.ensures.leveled.more d r there in ap (λ (x : RunView). x.left) m.2.is ∙ c.requires.running d m.0 m.1

pub halt_each-requires-clause-few : goal.halt_each-requires-clause-few
halt_each-requires-clause-few c =
    let l = c.meet.ensures.leveled in
    let first = c.requires.here.filled 0 c.requires.some in
    few_before c.args.runs.now c.meet.new.runs l l.are (λ d r there. let m = l.more d r there in ap (λ (x : RunView). x.left) m.2.is ∙ c.requires.running d m.0 m.1) first.0 first.1 (c.requires.few first.0 first.1)
