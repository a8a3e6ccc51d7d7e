use Rattle.weak_maps.specs.Cleans.{EmptiedHigh}
use Rattle.weak_maps.specs.Frames.{Leaves}
use Rattle.weak_maps.proofs.emptying.forget_high.Given as goal

abbrev pub invariant-registers : goal.invariant-registers
invariant-registers g l = record {
  leaves : Leaves g.M.Machine.sizes g.M.Machine.domain g.M.Machine.heap g.M.Machine.front g.M.Machine.labels_left g.M.Machine.ephes_room l.fn.m l.m;
  forgot : EmptiedHigh (g.M.Machine.sizes l.fn.m) (g.M.Machine.domain l.fn.m) (g.M.Machine.front l.fn.m) (g.M.Machine.front l.m) l.dst;
}
