use Rattle.std.proofs.Common.{◌≡◌, suc}
use Rattle.model_core.specs.declared.label.Label.{Label}
use Rattle.model_core.specs.declared.graph.Value.TheVariants.{Block}
use Rattle.weak_laws.specs.Tables.Stages.{graph_of}
use Rattle.weak_laws.specs.Maps.Tries.{IsMap}
use Rattle.weak_laws.specs.Maps.Steps.{OthersRespect}
use Rattle.weak_maps.specs.Beside.{held_by}
use Rattle.weak_maps.specs.Walks.{Descends}
use Rattle.weak_direct.specs.Frames.{Looks}
use Rattle.weak_direct.proofs.getting.descend.Given as goal

abbrev pub invariant-levels : goal.invariant-levels
invariant-levels g l = record {
  looks : Looks g.M.Direct.sizes g.M.Direct.domain g.M.Direct.heap g.M.Direct.front g.M.Direct.labels_left g.M.Direct.ephes_room l.fn.m l.m;
  walk : (root : Label) → held_by (g.M.Direct.sizes l.fn.m) (g.M.Direct.domain l.fn.m) (g.M.Direct.front l.fn.m) l.map ≡ Block root → held_by (g.M.Direct.sizes l.fn.m) (g.M.Direct.domain l.fn.m) (g.M.Direct.front l.fn.m) l.key ≡ Block l.label
      → IsMap (graph_of (g.M.Direct.sizes l.fn.m) (g.M.Direct.front l.fn.m)) root → OthersRespect (g.M.Direct.sizes l.fn.m) root (g.M.Direct.domain l.fn.m) (g.M.Direct.front l.fn.m) (g.M.Direct.front l.m)
      → Descends (g.M.Direct.sizes l.fn.m) (g.M.Direct.domain l.fn.m) (g.M.Direct.front l.fn.m) (g.M.Direct.front l.m) root l.label l.at (suc l.counter) l.rest;
}
