use Rattle.std.proofs.Common.{refl, arith}
use Rattle.camlheap_c.proofs.Standing.{goes_on_in}
use Rattle.camlheap_c.proofs.maps.make_on.Goals as goal

pub returns-in-None-clause-does : goal.returns-in-None-clause-does
returns-in-None-clause-does c = λ few. record {
  goes_on = goes_on_in c.args.run.now c.map_make.new.m c.map_make.ensures.stays.heap c.map_make.ensures.stays.domain c.map_make.ensures.grows;
  made = λ e. absurd (omega (arith, e));
  again = λ other. (c.map_make.ensures.stopped c.in-None.is).front_is;
  unread = λ other. refl;
}

pub returns-in-Some-clause-does : goal.returns-in-Some-clause-does
returns-in-Some-clause-does c = λ few. record {
  goes_on = goes_on_in c.args.run.now c.map_make.new.m c.map_make.ensures.stays.heap c.map_make.ensures.stays.domain c.map_make.ensures.grows;
  made = λ e. record { reply = c.in-Some.answer; is_read = c.reply_of.ensures; holds = c.in-Some.ensures.made.made };
  again = λ other. absurd (other refl);
  unread = λ other. absurd (other refl);
}
