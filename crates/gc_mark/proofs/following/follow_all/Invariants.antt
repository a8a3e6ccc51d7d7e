use Rattle.std.proofs.Common.{◌≡◌, true}
use Rattle.heap_rule.specs.Token.{IsIn}
use Rattle.gc_mark.specs.Shares.{Followed, Noted, Scans}
use Rattle.gc_mark.proofs.following.follow_all.Given as goal

abbrev pub invariant-loop : goal.invariant-loop
invariant-loop l = record {
  here : IsIn l.dom l.heap;
  scans : Scans l.colours l.dom.view;
  followed : Followed l.darkened l.fn.dom.view l.dom.view;
  owes : l.dom.view.seen.share.owes ≡ true;
  noted : Noted l.heap.config l.dom.view l.trail.items l.trail.lost;
}
