use Rattle.std.proofs.Common.{refl, arith}
use Rattle.camlheap_c.proofs.Standing.{goes_on_in}
use Rattle.camlheap_c.proofs.maps.put_on.Goals as goal

pub returns-in-None-clause-does : goal.returns-in-None-clause-does
returns-in-None-clause-does c = λ few. record {
  goes_on = goes_on_in c.args.run.now c.map_put.new.m c.map_put.ensures.spends.stays.heap c.map_put.ensures.spends.stays.domain c.map_put.ensures.spends.strides.grows;
  written = let same = c.map_put.ensures.spends.strides.written in omega (arith, same);
  keeps = c.map_put.ensures.spends.strides.keeps;
  guards = c.map_put.ensures.guards;
  follows = c.map_put.ensures.follows;
  labels = c.map_put.ensures.spends.lost;
  room = c.map_put.ensures.spends.room;
  made = λ e. absurd (omega (arith, e));
  again = λ other. c.map_put.ensures.stopped c.in-None.is;
  unread = λ other. refl;
}

pub returns-in-Some-clause-does : goal.returns-in-Some-clause-does
returns-in-Some-clause-does c = λ few. record {
  goes_on = goes_on_in c.args.run.now c.map_put.new.m c.map_put.ensures.spends.stays.heap c.map_put.ensures.spends.stays.domain c.map_put.ensures.spends.strides.grows;
  written = let same = c.map_put.ensures.spends.strides.written in omega (arith, same);
  keeps = c.map_put.ensures.spends.strides.keeps;
  guards = c.map_put.ensures.guards;
  follows = c.map_put.ensures.follows;
  labels = c.map_put.ensures.spends.lost;
  room = c.map_put.ensures.spends.room;
  made = λ e. record { reply = c.in-Some.answer; is_read = c.reply_of.ensures; holds = (c.in-Some.ensures.answer, c.in-Some.ensures.counts) };
  again = λ other. absurd (other refl);
  unread = λ other. absurd (other refl);
}
