use Rattle.std.proofs.Common.{◌≡◌, Some}
use Rattle.model_core.specs.Fronts.{IsFrontOf}
use Rattle.model_core.specs.Controls.Led.{IsLed}
use Rattle.heap_rule.specs.Token.{IsIn}
use Rattle.do_ephemerons.specs.Emptied.{StaysLegal, with_places}
use Rattle.do_ephemerons.proofs.Passes.{SeesBelow}
use Rattle.do_ephemerons.proofs.cleaning.clean.Given as goal

abbrev pub invariant-loop-i : goal.invariant-loop-i
invariant-loop-i l = record {
  here : IsIn l.dom l.heap;
  known : l.dom.view.seen.share.colours ≡ Some l.colours;
  seen : IsFrontOf l.fn.dom.view.own.number l.dom.view.seen.front l.fn.dom.view.seen.front;
  led : IsLed l.fn.dom.view.own.number l.dom.view.seen.front l.fn.dom.view.seen.front;
  legal : StaysLegal l.heap.config l.fn.dom.view l.dom.view;
  view : l.dom.view ≡ with_places l.fn.dom.view l.dom.view;
  below : SeesBelow l.i l.fn.dom.view l.dom.view;
}
