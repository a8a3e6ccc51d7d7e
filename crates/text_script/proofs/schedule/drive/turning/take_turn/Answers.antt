use Rattle.std.proofs.Common.{refl, subst, sym, ◌∙◌, ◌≤◌, true, arith}
use Rattle.text_script.specs.Schedule.Drive.Together.{Has}
use Rattle.text_script.proofs.OfSchedule.OfDrive.Ending.{ended_none, nearer, waiting_few}
use Rattle.text_script.specs.Schedule.Drive.Spending.{SpentInTurn, asked_at}
use Rattle.text_script.proofs.OfSchedule.OfDrive.Spending.{spent_few, spent_on}
use Rattle.text_script.proofs.OfSchedule.OfDrive.Turns.{calm_but, calm_rests, has_at, no_turn, turn_begins}
use Rattle.text_script.proofs.schedule.drive.turning.take_turn.Goals as goal

pub returns-then-has_ended-clause-taken : goal.returns-then-has_ended-clause-taken
returns-then-has_ended-clause-taken g c p follow =
    no_turn (g.T.TogetherRuns.shares c.args.runs.now) (g.T.TogetherRuns.seen c.args.runs.now) p c.args.at c.requires.inside c.shows_shared.ensures.shared follow
    (subst (λ b. Has (λ x. x.ended) b (g.T.TogetherRuns.seen c.args.runs.now) c.args.at) c.if-has_ended.true c.has_ended.ensures)

pub turns-init : goal.turns-init
turns-init g c =
    let going = subst (λ b. Has (λ x. x.ended) b (g.T.TogetherRuns.seen c.args.runs.now) c.args.at) c.if-has_ended.false c.has_ended.ensures in
    record {
      sizes = refl;
      count = refl;
      commands = refl;
      calm = calm_but (g.T.TogetherRuns.seen c.args.runs.now) c.args.at c.requires.calm;
      goes_on = going;
      rested = calm_rests (g.T.TogetherRuns.seen c.args.runs.now) c.args.at c.requires.calm;
      waits = omega arith;
      others = λ e other. refl;
      midst = λ p follow. turn_begins (g.T.TogetherRuns.shares c.args.runs.now) (g.T.TogetherRuns.seen c.args.runs.now) p c.args.at c.requires.inside c.shows_shared.ensures.shared follow going;
      spent = let same : g.T.TogetherRuns.spare c.args.runs.now ≤ g.T.TogetherRuns.spare c.args.runs.now = omega arith in subst (λ b. SpentInTurn b (g.T.TogetherRuns.spare c.args.runs.now) (g.T.TogetherRuns.spare c.args.runs.now)) (sym (c.requires.calm.none c.args.at)) same;
    }

pub returns-then-step_on-clause-taken : goal.returns-then-step_on-clause-taken
returns-then-step_on-clause-taken g c p follow = c.step_on.ensures.advances.turns p (c.turns.invariant.midst p follow) c.if-step_on.true

pub returns-then-has_ended-clause-one : goal.returns-then-has_ended-clause-one
returns-then-has_ended-clause-one g c =
    let v = g.T.TogetherRuns.seen c.args.runs.now in
    let none = ended_none v c.args.at (has_at (λ x. x.ended) true v c.args.at (subst (λ b. Has (λ x. x.ended) b v c.args.at) c.if-has_ended.true c.has_ended.ensures)) in
    record {
      fewer = λ n few. omega (arith, none);
      others = λ e other. refl;
    }

pub turns-preserved : goal.turns-preserved
turns-preserved g c =
    let a = c.step_on.ensures.advances in
    let was = c.turns.invariant in
    record {
      sizes = a.sizes ∙ was.sizes;
      count = a.count ∙ was.count;
      commands = a.commands ∙ was.commands;
      calm = a.calm;
      goes_on = a.goes_on c.if-step_on.false;
      rested = c.step_on.ensures.rested c.if-step_on.false;
      waits = let one = a.waits c.if-step_on.false in let two = was.waits in omega (arith, one, two);
      others = λ e other. a.others e other ∙ was.others e other;
      midst = λ p follow. a.stays p (was.midst p follow) c.if-step_on.false;
      spent = spent_on (asked_at (g.T.TogetherRuns.seen c.turns.runs) c.args.at) (asked_at (g.T.TogetherRuns.seen c.step_on.new.runs) c.args.at) (g.T.TogetherRuns.spare c.args.runs.now) (g.T.TogetherRuns.spare c.turns.runs) (g.T.TogetherRuns.spare c.step_on.new.runs) was.spent (c.step_on.ensures.spends c.if-step_on.false);
    }

pub returns-then-step_on-clause-one : goal.returns-then-step_on-clause-one
returns-then-step_on-clause-one g c =
    let a = c.step_on.ensures.advances in
    let was = c.turns.invariant in
    record {
      fewer = λ n few. let one = a.falls c.if-step_on.true in let two = was.waits in omega (arith, one, two, few);
      others = λ e other. a.others e other ∙ was.others e other;
    }

pub turns-smaller : goal.turns-smaller
turns-smaller g c =
    let v = g.T.TogetherRuns.seen c.turns.runs in
    let w = g.T.TogetherRuns.seen c.step_on.new.runs in
    nearer v w c.args.at (c.step_on.ensures.nears c.if-step_on.false) (waiting_few w c.args.at c.shows_shared-in-turns.ensures.stands)

pub step_on-requires-clause-room : goal.step_on-requires-clause-room
step_on-requires-clause-room g c =
    let room = c.requires.room in
    let spent = spent_few (asked_at (g.T.TogetherRuns.seen c.turns.runs) c.args.at) (g.T.TogetherRuns.spare c.args.runs.now) (g.T.TogetherRuns.spare c.turns.runs) c.turns.invariant.spent in
    omega (arith, room, spent)

pub returns-then-step_on-clause-spends : goal.returns-then-step_on-clause-spends
returns-then-step_on-clause-spends g c =
    let last = c.step_on.ensures.spends_last c.if-step_on.true in
    let spent = spent_few (asked_at (g.T.TogetherRuns.seen c.turns.runs) c.args.at) (g.T.TogetherRuns.spare c.args.runs.now) (g.T.TogetherRuns.spare c.turns.runs) c.turns.invariant.spent in
    omega (arith, last, spent)
