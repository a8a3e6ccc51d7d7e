use Rattle.std.proofs.Common.{rules, ◌≡◌, ◌≤◌, ◌+◌, length, refl, slice_get, Some}
use Rattle.judge_outputs.proofs.OfSections.TurnLemmas.{runs_first, runs_more, runs_last}
use Rattle.judge_outputs.proofs.sections.check.are_answered.Goals as goal

pub loop-i-init : goal.loop-i-init
loop-i-init c = runs_first c.args.domains c.args.turns.now c.in_ok-machine.machine c.in_ok-machine.ensures

pub loop-i-preserved : goal.loop-i-preserved
loop-i-preserved c =
    let step = c.in_ok-make_turn.ensures c.if-not-branch.false in
    let at : slice_get c.args.turns.now c.loop-i.i ≡ Some c.in-Some-Ok.turn = search rules in
    runs_more c.args.domains c.args.turns.now c.loop-i.i (c.loop-i.i + 1) c.loop-i.machine c.make_turn.new.machine c.in-Some-Ok.turn refl at step c.loop-i.invariant

pub returns : goal.returns
returns c = λ _.
    let few : length c.args.turns.now ≤ c.loop-i.i = search rules in
    runs_last c.args.domains c.args.turns.now c.loop-i.i c.loop-i.machine few c.loop-i.invariant
