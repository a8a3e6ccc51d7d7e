use Rattle.std.proofs.Common.{◌-◌, length}
use Rattle.heap_rule.specs.Token.{IsIn}
use Rattle.gc_sweep.specs.Pruning.{PrunedOn}
use Rattle.gc_sweep.proofs.pruning.prune_list.Given as goal

abbrev pub invariant-pruning : goal.invariant-pruning
invariant-pruning l = record {
  here : IsIn l.dom l.heap;
  pruned : PrunedOn l.garbage l.fn.dom.view l.dom.view;
}

abbrev pub decreases-pruning : goal.decreases-pruning
decreases-pruning l = length l.dom.view.own.ephemerons.items - l.dom.view.own.swept.listed
