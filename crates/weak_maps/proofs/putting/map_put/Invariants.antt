use Rattle.std.proofs.Common.{◌≡◌, ◌≤◌, ◌+◌}
use Rattle.model_core.specs.declared.label.Label.{Label}
use Rattle.model_core.specs.declared.graph.Value.TheVariants.{Block}
use Rattle.model_core.specs.History.{IsPrefix}
use Rattle.weak_laws.specs.Tables.Stages.{graph_of}
use Rattle.weak_laws.specs.Maps.Tries.{IsMap, IsInPlace}
use Rattle.weak_laws.specs.Maps.Steps.{OthersLeave, OthersRespect}
use Rattle.weak_maps.specs.Beside.{held_by, refusals_by, writings_by}
use Rattle.weak_maps.specs.Frames.{Stays}
use Rattle.weak_maps.specs.Guards.{PutGuards}
use Rattle.weak_maps.specs.Puts.{Putting}
use Rattle.weak_maps.specs.Settles.{IsDeep}
use Rattle.weak_maps.proofs.putting.map_put.Given as goal

abbrev pub invariant-tries : goal.invariant-tries
invariant-tries g l = record {
  stays : Stays g.M.Machine.sizes g.M.Machine.domain g.M.Machine.heap l.fn.m l.m;
  grows : IsPrefix (g.M.Machine.front l.fn.m) (g.M.Machine.front l.m);
  labels : g.M.Machine.labels_left l.fn.m + l.rooms ≡ g.M.Machine.labels_left l.m + 7;
  few : l.rooms ≤ 6;
  room : g.M.Machine.ephes_room l.fn.m ≤ g.M.Machine.ephes_room l.m + 1;
  refused : refusals_by (g.M.Machine.domain l.fn.m) (g.M.Machine.front l.m) ≡ refusals_by (g.M.Machine.domain l.fn.m) (g.M.Machine.front l.fn.m);
  written : writings_by (g.M.Machine.domain l.fn.m) (g.M.Machine.front l.m) ≡ writings_by (g.M.Machine.domain l.fn.m) (g.M.Machine.front l.fn.m);
  guards : PutGuards (g.M.Machine.sizes l.fn.m) (g.M.Machine.domain l.fn.m) (g.M.Machine.front l.fn.m) (g.M.Machine.front l.m) l.map;
  walk : (root : Label) → held_by (g.M.Machine.sizes l.fn.m) (g.M.Machine.domain l.fn.m) (g.M.Machine.front l.fn.m) l.map ≡ Block root → IsMap (graph_of (g.M.Machine.sizes l.fn.m) (g.M.Machine.front l.fn.m)) root
      → IsInPlace (g.M.Machine.sizes l.fn.m).domains (graph_of (g.M.Machine.sizes l.fn.m) (g.M.Machine.front l.fn.m)) root → OthersRespect (g.M.Machine.sizes l.fn.m) root (g.M.Machine.domain l.fn.m) (g.M.Machine.front l.fn.m) (g.M.Machine.front l.m)
      → Putting (g.M.Machine.sizes l.fn.m) (g.M.Machine.domain l.fn.m) (g.M.Machine.front l.fn.m) (g.M.Machine.front l.m) root l.label (held_by (g.M.Machine.sizes l.fn.m) (g.M.Machine.domain l.fn.m) (g.M.Machine.front l.fn.m) l.item) l.from.index l.from.rest l.at l.level;
  deep : (root : Label) → held_by (g.M.Machine.sizes l.fn.m) (g.M.Machine.domain l.fn.m) (g.M.Machine.front l.fn.m) l.map ≡ Block root → IsMap (graph_of (g.M.Machine.sizes l.fn.m) (g.M.Machine.front l.fn.m)) root
      → IsInPlace (g.M.Machine.sizes l.fn.m).domains (graph_of (g.M.Machine.sizes l.fn.m) (g.M.Machine.front l.fn.m)) root → OthersRespect (g.M.Machine.sizes l.fn.m) root (g.M.Machine.domain l.fn.m) (g.M.Machine.front l.fn.m) (g.M.Machine.front l.m)
      → OthersLeave (g.M.Machine.sizes l.fn.m) root (g.M.Machine.domain l.fn.m) (g.M.Machine.front l.fn.m) (g.M.Machine.front l.m) → IsDeep (g.M.Machine.sizes l.fn.m) (g.M.Machine.front l.m) root l.label l.rooms;
}
