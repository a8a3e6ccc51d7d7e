use Rattle.std.proofs.Common.{◌≡◌, ◌∙◌, ◌<◌, fold, length, rules, subst, sym, take, take_all, arith}
use Rattle.std.proofs.lemmas.List.Sums.{fold_more}
use Rattle.model_traces.specs.Schedules.Scheduled.{take_item}
use Rattle.text_script.specs.Schedule.Drive.Following.{AllFollow}
use Rattle.text_script.proofs.schedule.drive.replaying.take_items.Goals as goal

pub loop-item-preserved : goal.loop-item-preserved
loop-item-preserved g c = record {
  sizes = c.take_item.ensures.sizes ∙ c.loop-item.invariant.sizes;
  count = c.take_item.ensures.count ∙ c.loop-item.invariant.count;
  commands = c.take_item.ensures.commands ∙ c.loop-item.invariant.commands;
  calm = c.take_item.ensures.calm;
  none = λ d. let a = c.loop-item.invariant.none d in let b = c.take_item.ensures.none d in omega (arith, a, b);
  taken = λ p follow.
      subst (λ q. AllFollow (g.T.TogetherRuns.seen c.take_item.new.runs) (g.T.TogetherRuns.shares c.take_item.new.runs) q) (sym (fold_more take_item p c.args.items.now c.loop-item.item-index _ (search rules)))
      (c.take_item.ensures.taken (fold take_item p (take c.loop-item.item-index c.args.items.now)) (c.loop-item.invariant.taken p follow));
  spends = let a = c.loop-item.invariant.spends in let b = c.take_item.ensures.spends in omega (arith, a, b);
}

pub take_item-requires-clause-room : goal.take_item-requires-clause-room
take_item-requires-clause-room g c =
    let room = c.requires.room in
    let a = c.loop-item.invariant.spends in
    let below : c.loop-item.item-index < length c.args.items.now = search rules in
    omega (arith, room, a, below)

pub returns-clause-spends : goal.returns-clause-spends
returns-clause-spends g c =
    let a = c.loop-item.invariant.spends in
    let all : length c.args.items.now ≡ c.loop-item.item-index = search rules in
    omega (arith, a, all)

pub returns-clause-taken : goal.returns-clause-taken
returns-clause-taken g c p follow =
    let all : take c.loop-item.item-index c.args.items.now ≡ c.args.items.now = take_all c.loop-item.item-index c.args.items.now (search rules) in
    subst (λ xs. AllFollow (g.T.TogetherRuns.seen c.loop-item.runs) (g.T.TogetherRuns.shares c.loop-item.runs) (fold take_item p xs)) all (c.loop-item.invariant.taken p follow)
