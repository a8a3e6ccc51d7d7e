use Rattle.std.proofs.Common.{refl, arith}
use Rattle.camlheap_c.proofs.Standing.{goes_on_in}
use Rattle.camlheap_c.proofs.maps.get_on.Goals as goal

pub returns-in-None-clause-does : goal.returns-in-None-clause-does
returns-in-None-clause-does c = λ few. record {
  on = record {
    goes_on = goes_on_in c.args.run.now c.map_get.new.m c.map_get.ensures.keeps.stays.heap c.map_get.ensures.keeps.stays.domain c.map_get.ensures.reads.grows;
    none = record { labels = c.map_get.ensures.keeps.labels; room = c.map_get.ensures.keeps.room; written = c.map_get.ensures.reads.written };
    quiet = c.map_get.ensures.reads.quiet;
    follows = c.map_get.ensures.follows;
  };
  made = λ e. absurd (omega (arith, e));
  again = λ other. c.map_get.ensures.stopped c.in-None.is;
  unread = λ other. refl;
}

pub returns-in-Some-clause-does : goal.returns-in-Some-clause-does
returns-in-Some-clause-does c = λ few. record {
  on = record {
    goes_on = goes_on_in c.args.run.now c.map_get.new.m c.map_get.ensures.keeps.stays.heap c.map_get.ensures.keeps.stays.domain c.map_get.ensures.reads.grows;
    none = record { labels = c.map_get.ensures.keeps.labels; room = c.map_get.ensures.keeps.room; written = c.map_get.ensures.reads.written };
    quiet = c.map_get.ensures.reads.quiet;
    follows = c.map_get.ensures.follows;
  };
  made = λ e. record { reply = c.in-Some.answer; is_read = c.reply_of.ensures; holds = c.in-Some.ensures.answer };
  again = λ other. absurd (other refl);
  unread = λ other. absurd (other refl);
}
