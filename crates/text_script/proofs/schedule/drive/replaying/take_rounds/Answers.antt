use Rattle.std.proofs.Common.{◌≡◌, ◌∙◌, ◌+◌, ◌*◌, ◌<◌, ◌≤◌, ℕ, length, rules, subst, sym, refl, arith}
use Rattle.std.specs.List.{range_with_len}
use Rattle.model_traces.specs.Schedules.Scheduled.{take_round, take_rounds}
use Rattle.text_script.specs.Schedule.Drive.Following.{AllFollow, IsPlayed}
use Rattle.text_script.specs.Schedule.Drive.Spending.{most_in_round}
use Rattle.text_script.proofs.OfSchedule.OfDrive.Ending.{all_over}
use Rattle.text_script.proofs.OfSchedule.OfDrive.Rounds.{one_more_number, rounds_played}
use Rattle.text_script.proofs.OfSchedule.OfDrive.Spending.{round_more, rounds_few}
use Rattle.text_script.proofs.schedule.drive.replaying.take_rounds.Goals as goal

pub rounds-preserved : goal.rounds-preserved
rounds-preserved g c = record {
  count = c.take_round.ensures.count ∙ c.rounds.invariant.count;
  sizes = c.take_round.ensures.sizes ∙ c.rounds.invariant.sizes;
  commands = c.take_round.ensures.commands ∙ c.rounds.invariant.commands;
  calm = c.take_round.ensures.calm;
  within = λ n few. c.take_round.ensures.fewer n (c.rounds.invariant.within (n + 1) (λ d. let one = few d in omega (arith, one)));
  taken = λ p played follow.
      subst (λ q. AllFollow (g.T.TogetherRuns.seen c.take_round.new.runs) (g.T.TogetherRuns.shares c.take_round.new.runs) q) (sym (one_more_number (λ q n. take_round q) p c.rounds.counter))
      (c.take_round.ensures.taken (take_rounds c.rounds.counter p)
      (subst (λ z. IsPlayed z (take_rounds c.rounds.counter p)) (sym c.rounds.invariant.sizes) (rounds_played (g.T.TogetherRuns.seen c.args.runs.now).sizes p (range_with_len 0 c.rounds.counter) played))
      (c.rounds.invariant.taken p played follow));
  spends =
      let a = c.rounds.invariant.spends in
      let each : ℕ = most_in_round (length (g.T.TogetherRuns.seen c.args.runs.now).runs) in
      let b : g.T.TogetherRuns.spare c.rounds.runs ≤ g.T.TogetherRuns.spare c.take_round.new.runs + each = subst (λ n. g.T.TogetherRuns.spare c.rounds.runs ≤ g.T.TogetherRuns.spare c.take_round.new.runs + most_in_round n) c.rounds.invariant.count c.take_round.ensures.spends in
      let one = round_more c.rounds.counter each in
      omega (arith, a, b, one);
}

pub take_round-requires-clause-room : goal.take_round-requires-clause-room
take_round-requires-clause-room g c =
    let room = c.requires.room in
    let a = c.rounds.invariant.spends in
    let each : ℕ = most_in_round (length (g.T.TogetherRuns.seen c.args.runs.now).runs) in
    let below : c.rounds.counter < c.args.rounds = search rules in
    let few = rounds_few c.rounds.counter c.args.rounds each below in
    let here : each < g.T.TogetherRuns.spare c.rounds.runs = omega (arith, room, a, few) in
    subst (λ n. most_in_round n < g.T.TogetherRuns.spare c.rounds.runs) (sym c.rounds.invariant.count) here

pub returns-clause-spends : goal.returns-clause-spends
returns-clause-spends g c =
    let all : c.rounds.counter ≡ c.args.rounds = search rules in
    subst (λ n. g.T.TogetherRuns.spare c.args.runs.now ≤ g.T.TogetherRuns.spare c.rounds.runs + n * most_in_round (length (g.T.TogetherRuns.seen c.args.runs.now).runs)) all c.rounds.invariant.spends

pub returns-clause-taken : goal.returns-clause-taken
returns-clause-taken g c p played follow =
    let all : c.rounds.counter ≡ c.args.rounds = search rules in
    subst (λ n. AllFollow (g.T.TogetherRuns.seen c.rounds.runs) (g.T.TogetherRuns.shares c.rounds.runs) (take_rounds n p)) all (c.rounds.invariant.taken p played follow)

pub rounds-init : goal.rounds-init
rounds-init g c = record {
  count = refl;
  sizes = refl;
  commands = refl;
  calm = c.requires.calm;
  within = λ n few d. let one = few d in omega (arith, one);
  taken = λ p played follow. follow;
  spends = let none : 0 * most_in_round (length (g.T.TogetherRuns.seen c.args.runs.now).runs) ≡ 0 = omega arith in omega (arith, none);
}

pub returns-clause-ended : goal.returns-clause-ended
returns-clause-ended g c few =
    let all : c.rounds.counter ≡ c.args.rounds = search rules in
    all_over (g.T.TogetherRuns.seen c.rounds.runs) (c.rounds.invariant.within 0 (λ d. let one = few d in omega (arith, one, all)))
