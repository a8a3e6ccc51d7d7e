use Rattle.std.proofs.Common.{◌∙◌, ◌≡◌, ◌≢◌, ◌<◌, ◌≤◌, ◌+◌, fold, length, rules, subst, sym, ap, refl, ⊎_elim, arith}
use Rattle.std.proofs.lemmas.Bool.{cases_eq, cases_lt}
use Rattle.std.specs.List.{range_with_len}
use Rattle.model_traces.specs.Schedules.Scheduled.{take_turn}
use Rattle.text_script.specs.Schedule.Drive.Ending.{turns_at}
use Rattle.text_script.specs.Schedule.Drive.Following.{AllFollow}
use Rattle.text_script.proofs.OfSchedule.OfDrive.Ending.{past_none}
use Rattle.text_script.proofs.OfSchedule.OfDrive.Rounds.{one_more_number, round_is}
use Rattle.text_script.proofs.schedule.drive.replaying.take_round.Goals as goal

pub domains-preserved : goal.domains-preserved
domains-preserved g c = record {
  sizes = c.take_turn.ensures.sizes ∙ c.domains.invariant.sizes;
  count = c.take_turn.ensures.count ∙ c.domains.invariant.count;
  commands = c.take_turn.ensures.commands ∙ c.domains.invariant.commands;
  calm = c.take_turn.ensures.calm;
  through = λ n few d below.
      ⊎_elim
      (λ (same : d ≡ c.domains.at).
      subst (λ k. turns_at (g.T.TogetherRuns.seen c.take_turn.new.runs) k ≤ n) (sym same)
      (c.take_turn.ensures.one.fewer n (subst (λ k. k ≤ n + 1) (sym (c.domains.invariant.rest c.domains.at (omega arith))) (few c.domains.at))))
      (λ (other : d ≢ c.domains.at). subst (λ k. k ≤ n) (sym (c.take_turn.ensures.one.others d other)) (c.domains.invariant.through n few d (omega (arith, below, other))))
      (cases_eq d c.domains.at);
  rest = λ d from. c.take_turn.ensures.one.others d (omega (arith, from)) ∙ c.domains.invariant.rest d (omega (arith, from));
  taken = λ p follow.
      subst (λ q. AllFollow (g.T.TogetherRuns.seen c.take_turn.new.runs) (g.T.TogetherRuns.shares c.take_turn.new.runs) q) (sym (one_more_number take_turn p c.domains.at))
      (c.take_turn.ensures.taken (fold take_turn p (range_with_len 0 c.domains.at)) (c.domains.invariant.taken p follow));
  spends = let a = c.domains.invariant.spends in let b = c.take_turn.ensures.spends in omega (arith, a, b);
}

pub take_turn-requires-clause-room : goal.take_turn-requires-clause-room
take_turn-requires-clause-room g c =
    let room = c.requires.room in
    let a = c.domains.invariant.spends in
    let below : c.domains.at < length (g.T.TogetherRuns.seen c.args.runs.now).runs = search (rules, c.count-at-end.ensures) in
    omega (arith, room, a, below)

pub returns-clause-spends : goal.returns-clause-spends
returns-clause-spends g c =
    let a = c.domains.invariant.spends in
    let all : c.domains.at ≡ length (g.T.TogetherRuns.seen c.args.runs.now).runs = search (rules, c.count-at-end.ensures) in
    omega (arith, a, all)

pub returns-clause-taken : goal.returns-clause-taken
returns-clause-taken g c p played follow =
    let all : c.domains.at ≡ (g.T.TogetherRuns.seen c.args.runs.now).sizes.domains = search (rules, c.shows_shared.ensures.stands.count, c.count-at-end.ensures) in
    subst (λ q. AllFollow (g.T.TogetherRuns.seen c.domains.runs) (g.T.TogetherRuns.shares c.domains.runs) q)
    (ap (λ n. fold take_turn p (range_with_len 0 n)) all ∙ round_is (g.T.TogetherRuns.seen c.args.runs.now).sizes p played)
    (c.domains.invariant.taken p follow)

pub domains-init : goal.domains-init
domains-init g c = record {
  sizes = refl;
  count = refl;
  commands = refl;
  calm = c.requires.calm;
  through = λ n few d below. absurd (omega (arith, below));
  rest = λ d from. refl;
  taken = λ p follow. follow;
  spends = omega arith;
}

pub returns-clause-fewer : goal.returns-clause-fewer
returns-clause-fewer g c n few d =
    let v = g.T.TogetherRuns.seen c.domains.runs in
    let all : c.domains.at ≡ length v.runs = search (rules, c.domains.invariant.count, c.count-at-end.ensures) in
    ⊎_elim
    (λ (below : d < c.domains.at). c.domains.invariant.through n few d below)
    (λ (past : c.domains.at ≤ d). let none = past_none v d (subst (λ k. k ≤ d) all past) in omega (arith, none))
    (cases_lt d c.domains.at)
