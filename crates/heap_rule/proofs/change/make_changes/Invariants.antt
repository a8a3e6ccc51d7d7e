use Rattle.std.proofs.Common.{◌≡◌, drop}
use Rattle.heap_rule.specs.Changes.{FitChanges, changed}
use Rattle.heap_rule.proofs.change.make_changes.Given as goal

abbrev pub invariant-loop-change : goal.invariant-loop-change
invariant-loop-change l = record {
  fit : FitChanges (drop l.change-index l.changes);
  made : changed l.read (drop l.change-index l.changes) l.own ≡ changed l.read l.changes l.initial.own;
}
