use Rattle.std.proofs.Common.{◌+◌, ◌*◌}
use Rattle.weak_maps.specs.Sweeps.Sweeps.{SweepsBlock}
use Rattle.weak_maps.specs.Frames.{Leaves}
use Rattle.weak_maps.proofs.sweeps.sweeping.+sweeping.Given as goal

abbrev pub decreases-sweep_block : goal.decreases-sweep_block
decreases-sweep_block g l = 2 * l.left + 1

abbrev pub decreases-sweep_field : goal.decreases-sweep_field
decreases-sweep_field g l = 2 * l.left

abbrev pub invariant-sweep_block-fields : goal.invariant-sweep_block-fields
invariant-sweep_block-fields g l = record {
  leaves : Leaves g.M.Machine.sizes g.M.Machine.domain g.M.Machine.heap g.M.Machine.front g.M.Machine.labels_left g.M.Machine.ephes_room l.fn.m l.m;
  swept : SweepsBlock (g.M.Machine.sizes l.fn.m) (g.M.Machine.domain l.fn.m) (g.M.Machine.front l.fn.m) (g.M.Machine.front l.m) l.block l.left l.index;
}
