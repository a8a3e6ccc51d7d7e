use Rattle.std.proofs.Common.{◌≡◌, ◌∙◌, ap, sym, subst, fold, refl, arith}
use Rattle.model_core.specs.declared.state.Sizes.{Sizes}
use Rattle.model_core.specs.History.{replies}
use Rattle.model_traces.specs.Schedules.Scheduled.{Played, begun, take_item, take_rounds}
use Rattle.text_script.specs.Schedule.Drive.Following.{IsPlayed}
use Rattle.text_script.specs.Schedule.Drive.Pausing.{lefts}
use Rattle.text_script.proofs.OfSchedule.OfDrive.Ending.{within_rounds}
use Rattle.text_script.proofs.OfSchedule.OfDrive.Rounds.{begins, items_played}
use Rattle.text_script.proofs.schedule.drive.replaying.replay.Goals as goal

pub returns-clause-replies : goal.returns-clause-replies
returns-clause-replies g c h here d =
    let z : Sizes = (g.T.TogetherRuns.seen c.args.runs.now).sizes in
    let start : Played = begun z (lefts (g.T.TogetherRuns.seen c.args.runs.now)) in
    let through : Played = fold take_item start c.args.items.now in
    let items = c.take_items.ensures.taken start (begins (g.T.TogetherRuns.shares c.args.runs.now) (g.T.TogetherRuns.seen c.args.runs.now) c.requires.fresh) in
    let played : IsPlayed (g.T.TogetherRuns.seen c.take_items.new.runs).sizes through = subst (λ y. IsPlayed y through) (sym c.take_items.ensures.sizes) (items_played z start c.args.items.now refl) in
    let follow = c.take_rounds.ensures.taken through played items h here in
    let all : Played = take_rounds c.rounds_of-rounds.result through in
    let sizes : (g.T.TogetherRuns.seen c.take_rounds.new.runs).sizes ≡ z = c.take_rounds.ensures.sizes ∙ c.take_items.ensures.sizes in
    ap (λ (y : Sizes). replies y h d) (sym sizes) ∙ sym (follow.agrees.replies d) ∙ ap (λ (y : Sizes). replies y all.history d) sizes
    ∙ ap (λ n. replies z (take_rounds n through).history d) c.rounds_of-rounds.ensures

pub returns-clause-over : goal.returns-clause-over
returns-clause-over g c = record {
  sizes = c.take_rounds.ensures.sizes ∙ c.take_items.ensures.sizes;
  commands = c.take_rounds.ensures.commands ∙ c.take_items.ensures.commands;
  calm = c.take_rounds.ensures.calm;
  ended = c.take_rounds.ensures.ended (λ d.
      let few = within_rounds (g.T.TogetherRuns.seen c.args.runs.now) d in
      let none = c.take_items.ensures.none d in
      let rounds = c.rounds_of-rounds.ensures in
      omega (arith, few, none, rounds));
}
