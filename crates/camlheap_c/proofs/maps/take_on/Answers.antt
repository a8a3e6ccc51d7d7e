use Rattle.std.proofs.Common.{refl, arith}
use Rattle.camlheap_c.proofs.Standing.{goes_on_in}
use Rattle.camlheap_c.proofs.maps.take_on.Goals as goal

pub returns-in-None-clause-does : goal.returns-in-None-clause-does
returns-in-None-clause-does c = λ few. record {
  goes_on = goes_on_in c.args.run.now c.map_take.new.m c.map_take.ensures.goes.keeps.stays.heap c.map_take.ensures.goes.keeps.stays.domain c.map_take.ensures.goes.passes.grows;
  none = record { labels = c.map_take.ensures.goes.keeps.labels; room = c.map_take.ensures.goes.keeps.room; written = let same = c.map_take.ensures.goes.passes.written in omega (arith, same) };
  keeps = c.map_take.ensures.goes.passes.keeps;
  guards = c.map_take.ensures.guards;
  follows = c.map_take.ensures.follows;
  made = λ e. absurd (omega (arith, e));
  again = λ other. c.map_take.ensures.stopped c.in-None.is;
  unread = λ other. refl;
}

pub returns-in-Some-clause-does : goal.returns-in-Some-clause-does
returns-in-Some-clause-does c = λ few. record {
  goes_on = goes_on_in c.args.run.now c.map_take.new.m c.map_take.ensures.goes.keeps.stays.heap c.map_take.ensures.goes.keeps.stays.domain c.map_take.ensures.goes.passes.grows;
  none = record { labels = c.map_take.ensures.goes.keeps.labels; room = c.map_take.ensures.goes.keeps.room; written = let same = c.map_take.ensures.goes.passes.written in omega (arith, same) };
  keeps = c.map_take.ensures.goes.passes.keeps;
  guards = c.map_take.ensures.guards;
  follows = c.map_take.ensures.follows;
  made = λ e. record { reply = c.in-Some.answer; is_read = c.reply_of.ensures; holds = c.in-Some.ensures.answer };
  again = λ other. absurd (other refl);
  unread = λ other. absurd (other refl);
}
