use Rattle.std.proofs.Common.{◌≡◌, true}
use Rattle.heap_rule.specs.Token.{IsIn}
use Rattle.do_ephemerons.specs.Looking.{LookedAtEphemerons}
use Rattle.do_ephemerons.proofs.rounds.look_again.Given as goal

abbrev pub invariant-loop : goal.invariant-loop
invariant-loop l = record {
  here : IsIn l.dom l.heap;
  looked : LookedAtEphemerons l.fn.dom.view l.dom.view;
  owes : l.fn.dom.view.seen.share.owes ≡ true → l.dom.view.seen.share.owes ≡ true;
  hints : l.hints ≡ l.fn.hints;
}
