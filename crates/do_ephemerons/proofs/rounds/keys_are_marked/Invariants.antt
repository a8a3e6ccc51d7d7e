use Rattle.std.proofs.Common.{◌≡◌}
use Rattle.heap_rule.specs.declared.view.Scan.TheVariants.{Keys}
use Rattle.heap_rule.specs.Token.{IsIn}
use Rattle.do_ephemerons.proofs.Keys.{with_scan}
use Rattle.do_ephemerons.proofs.rounds.keys_are_marked.Given as goal

abbrev pub invariant-loop-i : goal.invariant-loop-i
invariant-loop-i l = record {
  here : IsIn l.dom l.heap;
  view : l.dom.view ≡ with_scan l.fn.dom.view (Keys l.at l.i l.keys);
  hints : l.hints ≡ l.fn.hints;
}
