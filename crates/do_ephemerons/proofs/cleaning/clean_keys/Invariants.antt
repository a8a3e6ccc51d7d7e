use Rattle.heap_rule.specs.Token.{IsIn}
use Rattle.do_ephemerons.specs.Emptied.{KeysCleaned}
use Rattle.do_ephemerons.proofs.cleaning.clean_keys.Given as goal

abbrev pub invariant-loop-i : goal.invariant-loop-i
invariant-loop-i l = record {
  here : IsIn l.dom l.heap;
  cleaned : KeysCleaned l.at l.keys l.i l.emptied l.fn.dom.view l.dom.view;
}
