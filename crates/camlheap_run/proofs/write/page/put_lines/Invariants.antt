use Rattle.std.proofs.Common.{◌≡◌, ◌*◌, ◌≤◌, take}
use Rattle.model_core.specs.Output.{printed}
use Rattle.camlheap_run.proofs.write.page.put_lines.Given as goal

abbrev pub invariant-replies : goal.invariant-replies
invariant-replies l = record {
  within : l.at ≤ 64 * l.reply-index;
  front : take l.at l.page ≡ printed (take l.reply-index l.replies);
}
