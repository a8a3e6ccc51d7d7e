use Rattle.std.proofs.Common.{◌+◌, ◌*◌}
use Rattle.weak_maps.specs.Lists.Counts.{CountsBlock}
use Rattle.weak_maps.specs.Frames.{Leaves}
use Rattle.weak_maps.proofs.lists.counting.+counting.Given as goal

abbrev pub decreases-count_block : goal.decreases-count_block
decreases-count_block g l = 2 * l.left + 1

abbrev pub decreases-count_field : goal.decreases-count_field
decreases-count_field g l = 2 * l.left

abbrev pub invariant-count_block-fields : goal.invariant-count_block-fields
invariant-count_block-fields g l = record {
  leaves : Leaves g.M.Machine.sizes g.M.Machine.domain g.M.Machine.heap g.M.Machine.front g.M.Machine.labels_left g.M.Machine.ephes_room l.fn.m l.m;
  counted : CountsBlock (g.M.Machine.sizes l.fn.m) (g.M.Machine.front l.fn.m) (g.M.Machine.front l.m) l.block l.left l.index l.count;
}
