use Rattle.run_alone.proofs.Wished.{looks_first}
use Rattle.run_alone.proofs.wishing.look_first.Goals as goal

pub returns : goal.returns
returns c = record {
  looks = looks_first c.args.heap.now c.args.run.now c.turn.new.run c.config-limits.ensures.limits c.requires.lone c.requires.runs c.requires.unasked c.requires.some c.turn.ensures.here c.shows_faithful.ensures c.turn.ensures.stretch c.turn.ensures.goes_on c.turn.result c.turn.ensures.answer;
}
