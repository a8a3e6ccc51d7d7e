use Rattle.std.proofs.Common.{refl, inl, inr, ◌∙◌, arith}
use Rattle.text_script.proofs.OfSchedule.OfDrive.Spending.{needs_asked, ran_asked}
use Rattle.text_script.proofs.OfSchedule.OfDrive.Turns.{advances_then, asks_nears, ran_nears, ran_rests, turned_made, turned_needs, turned_ran, turned_waits}
use Rattle.text_script.proofs.schedule.drive.turning.step_on.Goals as goal

pub pause_for-requires-clause-calm : goal.pause_for-requires-clause-calm
pause_for-requires-clause-calm g c =
    let first = turned_needs (g.T.TogetherRuns.shares c.args.runs.now) (g.T.TogetherRuns.shares c.turn-stepped.new.self) _ _ c.args.at c.requires.calm c.requires.goes_on c.shows_shared.ensures.shared c.in-Needs.complete c.in-Needs.ensures.turned in
    first.calm

pub pause_for-requires-clause-goes_on : goal.pause_for-requires-clause-goes_on
pause_for-requires-clause-goes_on g c =
    let first = turned_needs (g.T.TogetherRuns.shares c.args.runs.now) (g.T.TogetherRuns.shares c.turn-stepped.new.self) _ _ c.args.at c.requires.calm c.requires.goes_on c.shows_shared.ensures.shared c.in-Needs.complete c.in-Needs.ensures.turned in
    first.goes_on refl

pub pause_for-requires-clause-waits : goal.pause_for-requires-clause-waits
pause_for-requires-clause-waits g c =
    turned_waits (g.T.TogetherRuns.shares c.args.runs.now) (g.T.TogetherRuns.shares c.turn-stepped.new.self) _ _ c.args.at c.requires.calm c.requires.goes_on c.shows_shared.ensures.shared c.in-Needs.complete c.in-Needs.ensures.turned

pub returns-in-Ran-clause-advances : goal.returns-in-Ran-clause-advances
returns-in-Ran-clause-advances g c = turned_ran (g.T.TogetherRuns.shares c.args.runs.now) (g.T.TogetherRuns.shares c.turn-stepped.new.self) _ _ c.args.at c.requires.calm c.requires.goes_on c.shows_shared.ensures.shared c.in-Ran.ensures.turned

pub returns-in-Made-clause-advances : goal.returns-in-Made-clause-advances
returns-in-Made-clause-advances g c = turned_made (g.T.TogetherRuns.shares c.args.runs.now) (g.T.TogetherRuns.shares c.turn-stepped.new.self) _ _ c.args.at c.requires.calm c.requires.goes_on c.shows_shared.ensures.shared c.in-Made.ensures.turned

pub returns-in-Needs-clause-advances : goal.returns-in-Needs-clause-advances
returns-in-Needs-clause-advances g c =
    let first = turned_needs (g.T.TogetherRuns.shares c.args.runs.now) (g.T.TogetherRuns.shares c.turn-stepped.new.self) _ _ c.args.at c.requires.calm c.requires.goes_on c.shows_shared.ensures.shared c.in-Needs.complete c.in-Needs.ensures.turned in
    advances_then (g.T.TogetherRuns.shares c.args.runs.now) (g.T.TogetherRuns.shares c.turn-stepped.new.self) (g.T.TogetherRuns.shares c.pause_for.new.runs) _ _ _ c.args.at c.in-Needs.complete first c.pause_for.ensures.advances

pub returns-in-Ran-clause-nears : goal.returns-in-Ran-clause-nears
returns-in-Ran-clause-nears g c none =
    ran_nears (g.T.TogetherRuns.shares c.args.runs.now) (g.T.TogetherRuns.shares c.turn-stepped.new.self) _ _ c.args.at c.requires.calm c.requires.goes_on c.shows_shared.ensures.shared c.in-Ran.ensures.turned

pub returns-in-Needs-clause-nears : goal.returns-in-Needs-clause-nears
returns-in-Needs-clause-nears g c none =
    let asks = asks_nears (g.T.TogetherRuns.shares c.args.runs.now) (g.T.TogetherRuns.shares c.turn-stepped.new.self) _ _ c.args.at c.requires.calm c.requires.goes_on c.shows_shared.ensures.shared c.in-Needs.complete c.in-Needs.ensures.turned c.requires.rested none in
    let rank = c.pause_for.ensures.advances.rank none in
    inl (omega (arith, asks, rank))

pub returns-in-Ran-clause-spends : goal.returns-in-Ran-clause-spends
returns-in-Ran-clause-spends g c none = inl (ran_asked (g.T.TogetherRuns.shares c.args.runs.now) (g.T.TogetherRuns.shares c.turn-stepped.new.self) _ _ c.args.at c.in-Ran.ensures.turned, c.turn-stepped.ensures.spares)

pub returns-in-Needs-clause-spends : goal.returns-in-Needs-clause-spends
returns-in-Needs-clause-spends g c none =
    let needs = needs_asked (g.T.TogetherRuns.shares c.args.runs.now) (g.T.TogetherRuns.shares c.turn-stepped.new.self) _ _ c.args.at c.in-Needs.complete c.requires.rested c.in-Needs.ensures.turned none in
    let before = c.turn-stepped.ensures.spares in
    let spends = c.pause_for.ensures.spends in
    inr (needs.0, c.pause_for.ensures.asked needs.2 ∙ needs.1, omega (arith, before, spends))

pub returns-in-Ran-clause-rested : goal.returns-in-Ran-clause-rested
returns-in-Ran-clause-rested g c none =
    ran_rests (g.T.TogetherRuns.shares c.args.runs.now) (g.T.TogetherRuns.shares c.turn-stepped.new.self) _ _ c.args.at c.requires.calm c.requires.goes_on c.shows_shared.ensures.shared c.in-Ran.ensures.turned c.requires.rested
