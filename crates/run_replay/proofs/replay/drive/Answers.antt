use Rattle.run_replay.proofs.Gathering.{all_run, taken}
use Rattle.run_replay.proofs.replay.drive.Goals as goal

pub apart-requires-clause-running : goal.apart-requires-clause-running
apart-requires-clause-running c = all_run c.replay.new.runs c.replay.ensures.over.calm.run

pub returns : goal.returns
returns c runs is untouched =
    taken c.args.gathered c.replay.new.runs runs c.args.items.now c.apart.result.0 c.apart.result.1.items is untouched c.replay.ensures.over.sizes c.replay.ensures.over.commands c.replay.ensures.over.ended c.shows_whole.ensures c.replay.ensures.replies
    c.apart.ensures.heap c.apart.ensures.apart
