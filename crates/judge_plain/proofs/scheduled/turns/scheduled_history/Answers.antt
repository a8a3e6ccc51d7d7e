use Rattle.judge_plain.proofs.OfScheduled.TurnLemmas.{begun_way, items_way}
use Rattle.judge_plain.proofs.scheduled.turns.scheduled_history.Goals as goal

pub take_items-requires : goal.take_items-requires
take_items-requires c = begun_way c.args.sizes.now c.args.script.now.sections c.in_ok-run.run' c.requires.limits c.requires.sections c.requires.plain c.in_ok-run.ensures

pub take_rounds-requires : goal.take_rounds-requires
take_rounds-requires c =
    let way = begun_way c.args.sizes.now c.args.script.now.sections c.in_ok-run.run' c.requires.limits c.requires.sections c.requires.plain c.in_ok-run.ensures in
    items_way c.args.items.now c.in_ok-run.run' c.take_items.new.run way c.in_ok-take_items.ensures
