use Rattle.std.proofs.Common.{◌≡◌}
use Rattle.model_core.specs.declared.label.Label.{Label}
use Rattle.model_core.specs.declared.graph.Value.TheVariants.{Block}
use Rattle.weak_laws.specs.Tables.Stages.{graph_of}
use Rattle.weak_laws.specs.Maps.Tries.{IsMap}
use Rattle.weak_laws.specs.Maps.Steps.{OthersRespect}
use Rattle.weak_maps.specs.Beside.{held_by}
use Rattle.weak_maps.specs.Fields.{Taking}
use Rattle.weak_maps.specs.Guards.{TakeGuards}
use Rattle.weak_direct.specs.Frames.{Goes}
use Rattle.weak_direct.proofs.taking.map_take.Given as goal

abbrev pub invariant-tries : goal.invariant-tries
invariant-tries g l = record {
  goes : Goes g.M.Direct.sizes g.M.Direct.domain g.M.Direct.heap g.M.Direct.front g.M.Direct.labels_left g.M.Direct.ephes_room l.fn.m l.m;
  guards : TakeGuards (g.M.Direct.sizes l.fn.m) (g.M.Direct.domain l.fn.m) (g.M.Direct.front l.fn.m) (g.M.Direct.front l.m) l.map;
  walk : (root : Label) → held_by (g.M.Direct.sizes l.fn.m) (g.M.Direct.domain l.fn.m) (g.M.Direct.front l.fn.m) l.map ≡ Block root → IsMap (graph_of (g.M.Direct.sizes l.fn.m) (g.M.Direct.front l.fn.m)) root
      → OthersRespect (g.M.Direct.sizes l.fn.m) root (g.M.Direct.domain l.fn.m) (g.M.Direct.front l.fn.m) (g.M.Direct.front l.m)
      → Taking (g.M.Direct.sizes l.fn.m) (g.M.Direct.domain l.fn.m) (g.M.Direct.front l.fn.m) (g.M.Direct.front l.m) root l.label l.from.index l.from.rest l.at;
}
