use Rattle.std.proofs.Common.{◌∙◌, ap}
use Rattle.run_plays.specs.Plays.{seat_of}
use Rattle.run_plays.proofs.Seats.{set_count, set_same}
use Rattle.run_plays.proofs.plays.play_round.Goals as goal

pub returns-in_err-play_one : goal.returns-in_err-play_one
returns-in_err-play_one g c = record {
  seats = set_same (λ ch. seat_of ch.player) c.loop-i.chairs.items c.loop-i.i c.play_one.new.chair c.index_mut.result.now (c.play_one.ensures.seat ∙ ap (λ ch. seat_of ch.player) c.index_mut.ensures.value) ∙ c.loop-i.invariant.seats;
}

pub loop-i-preserved : goal.loop-i-preserved
loop-i-preserved g c = record {
  seats = set_same (λ ch. seat_of ch.player) c.loop-i.chairs.items c.loop-i.i c.play_one.new.chair c.index_mut.result.now (c.play_one.ensures.seat ∙ ap (λ ch. seat_of ch.player) c.index_mut.ensures.value) ∙ c.loop-i.invariant.seats;
  len = set_count c.loop-i.chairs.items c.loop-i.i c.play_one.new.chair ∙ c.loop-i.invariant.len;
}
