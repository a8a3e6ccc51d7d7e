use Rattle.std.proofs.Common.{◌≡◌}
use Rattle.model_core.specs.declared.label.Label.{Label}
use Rattle.model_core.specs.declared.graph.Value.TheVariants.{Block}
use Rattle.weak_laws.specs.Tables.Stages.{graph_of}
use Rattle.weak_laws.specs.Maps.Tries.{IsMap}
use Rattle.weak_laws.specs.Maps.Steps.{OthersRespect}
use Rattle.weak_maps.specs.Beside.{held_by}
use Rattle.weak_maps.specs.Fields.{Taking}
use Rattle.weak_maps.specs.Guards.{TakeGuards}
use Rattle.weak_maps.specs.Frames.{Leaves}
use Rattle.weak_maps.proofs.taking.map_take.Given as goal

abbrev pub invariant-tries : goal.invariant-tries
invariant-tries g l = record {
  leaves : Leaves g.M.Machine.sizes g.M.Machine.domain g.M.Machine.heap g.M.Machine.front g.M.Machine.labels_left g.M.Machine.ephes_room l.fn.m l.m;
  guards : TakeGuards (g.M.Machine.sizes l.fn.m) (g.M.Machine.domain l.fn.m) (g.M.Machine.front l.fn.m) (g.M.Machine.front l.m) l.map;
  walk : (root : Label) → held_by (g.M.Machine.sizes l.fn.m) (g.M.Machine.domain l.fn.m) (g.M.Machine.front l.fn.m) l.map ≡ Block root → IsMap (graph_of (g.M.Machine.sizes l.fn.m) (g.M.Machine.front l.fn.m)) root
      → OthersRespect (g.M.Machine.sizes l.fn.m) root (g.M.Machine.domain l.fn.m) (g.M.Machine.front l.fn.m) (g.M.Machine.front l.m)
      → Taking (g.M.Machine.sizes l.fn.m) (g.M.Machine.domain l.fn.m) (g.M.Machine.front l.fn.m) (g.M.Machine.front l.m) root l.label l.from.index l.from.rest l.at;
}
