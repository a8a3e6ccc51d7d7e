use Rattle.std.proofs.Common.{◌+◌, ◌*◌}
use Rattle.weak_maps.specs.Cleans.{CleansBlock}
use Rattle.weak_maps.specs.Frames.{Leaves}
use Rattle.weak_maps.proofs.cleaning.+cleaning.Given as goal

abbrev pub decreases-clean_block : goal.decreases-clean_block
decreases-clean_block g l = 2 * l.left + 1

abbrev pub decreases-clean_field : goal.decreases-clean_field
decreases-clean_field g l = 2 * l.left

abbrev pub invariant-clean_block-fields : goal.invariant-clean_block-fields
invariant-clean_block-fields g l = record {
  leaves : Leaves g.M.Machine.sizes g.M.Machine.domain g.M.Machine.heap g.M.Machine.front g.M.Machine.labels_left g.M.Machine.ephes_room l.fn.m l.m;
  cleaned : CleansBlock (g.M.Machine.sizes l.fn.m) (g.M.Machine.domain l.fn.m) (g.M.Machine.front l.fn.m) (g.M.Machine.front l.m) l.block l.left l.index l.empty;
}
