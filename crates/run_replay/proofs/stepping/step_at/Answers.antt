use Rattle.std.proofs.Common.{◌≡◌, ◌∙◌, ℕ, ap, arith, subst}
use Rattle.run_turns.specs.Runs.{RunView}
use Rattle.run_replay.specs.Gathered.{HasRun}
use Rattle.run_replay.proofs.Joining.{level_few}
use Rattle.run_replay.proofs.LevelLemmas.{level_here}
use Rattle.run_replay.proofs.stepping.step_at.Goals as goal

pub step_alone-requires-clause-here : goal.step_alone-requires-clause-here
step_alone-requires-clause-here c = level_here c.args.heap.now c.args.runs.now c.meet.new.runs c.requires.here c.meet.ensures.leveled

pub step_alone-requires-clause-running : goal.step_alone-requires-clause-running
step_alone-requires-clause-running c = λ r there. let m = c.meet.ensures.leveled.more c.args.at r there in ap (λ (x : RunView). x.left) m.2.is ∙ c.requires.running m.0 m.1

pub step_alone-requires-clause-goes_on : goal.step_alone-requires-clause-goes_on
step_alone-requires-clause-goes_on c = λ r there. let m = c.meet.ensures.leveled.more c.args.at r there in ap (λ (x : RunView). x.ended) m.2.is ∙ c.requires.goes_on m.0 m.1

pub step_alone-requires-clause-few : goal.step_alone-requires-clause-few
step_alone-requires-clause-few c = level_few c.args.heap.now c.args.runs.now c.meet.new.runs c.requires.few c.meet.ensures.leveled

pub meet-requires-clause-running : goal.meet-requires-clause-running
meet-requires-clause-running c = λ one r there.
    let within = c.requires.inside in
    let first : 0 ≡ c.args.at = omega (arith, one, within) in
    c.requires.running r (subst (λ (n : ℕ). HasRun c.args.runs.now n r) first there)
