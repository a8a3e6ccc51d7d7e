use Rattle.std.proofs.Common.{◌≡◌, ◌≤◌, length, take}
use Rattle.std.specs.Prelude.{flat_map}
use Rattle.model_core.specs.Output.{ints_of, int_sum}
use Rattle.camlheap_run.proofs.write.summary.count_ints.Given as goal

abbrev pub invariant-replies : goal.invariant-replies
invariant-replies l = record {
  few : l.tally.ints ≤ l.reply-index;
  small : l.tally.sum ≤ 1000002;
  ints : l.tally.ints ≡ length (flat_map ints_of (take l.reply-index l.replies));
  sum : l.tally.sum ≡ int_sum (flat_map ints_of (take l.reply-index l.replies));
}
