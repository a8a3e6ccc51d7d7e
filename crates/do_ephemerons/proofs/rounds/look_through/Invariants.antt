use Rattle.std.proofs.Common.{◌≡◌, cond, true}
use Rattle.heap_rule.specs.Token.{IsIn}
use Rattle.do_ephemerons.specs.Looking.{LookedAtEphemerons}
use Rattle.do_ephemerons.proofs.Passes.{SeesBelow}
use Rattle.do_ephemerons.proofs.rounds.look_through.Given as goal

abbrev pub invariant-loop-i : goal.invariant-loop-i
invariant-loop-i l = record {
  here : IsIn l.dom l.heap;
  looked : LookedAtEphemerons l.fn.dom.view l.dom.view;
  owes : l.dom.view.seen.share.owes ≡ cond l.darkened true l.fn.dom.view.seen.share.owes;
  all : SeesBelow l.i l.fn.dom.view l.dom.view;
  hints : l.hints ≡ l.fn.hints;
}
