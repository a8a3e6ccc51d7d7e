use Rattle.std.proofs.Common.{◌≡◌, List, length}
use Rattle.model_core.specs.declared.entry.Entry.{Entry}
use Rattle.model_core.specs.declared.label.Label.{Label}
use Rattle.model_core.specs.declared.graph.Value.TheVariants.{Block}
use Rattle.weak_laws.specs.Maps.Steps.{OthersRespect}
use Rattle.weak_maps.specs.Beside.{held_by}
use Rattle.weak_maps.specs.Walks.{Looking}
use Rattle.weak_maps.specs.Fields.{AtField, Walked}
use Rattle.weak_maps.specs.Puts.{KeepsLeaf}
use Rattle.weak_direct.specs.Frames.{Looks}
use Rattle.weak_direct.proofs.taking.find.Given as goal

abbrev pub invariant-levels : goal.invariant-levels
invariant-levels g l = record {
  looks : Looks g.M.Direct.sizes g.M.Direct.domain g.M.Direct.heap g.M.Direct.front g.M.Direct.labels_left g.M.Direct.ephes_room l.fn.m l.m;
  steps : l.steps ≡ l.counter;
  leaf : KeepsLeaf (g.M.Direct.sizes l.fn.m) (g.M.Direct.domain l.fn.m) (g.M.Direct.front l.fn.m) (g.M.Direct.front l.m) l.key l.label l.fn.from.index l.fn.from.rest l.fn.field;
  walk : (first : List Entry) (root : Label) → held_by (g.M.Direct.sizes l.fn.m) (g.M.Direct.domain l.fn.m) (g.M.Direct.front l.fn.m) l.key ≡ Block l.label → Looking (g.M.Direct.sizes l.fn.m) root (g.M.Direct.domain l.fn.m) first (g.M.Direct.front l.fn.m)
      → (x : AtField (g.M.Direct.sizes l.fn.m) (g.M.Direct.domain l.fn.m) first (g.M.Direct.front l.fn.m) (g.M.Direct.front l.fn.m) root l.label l.fn.from.index l.fn.from.rest l.fn.field)
      → OthersRespect (g.M.Direct.sizes l.fn.m) root (g.M.Direct.domain l.fn.m) first (g.M.Direct.front l.m)
      → Walked (g.M.Direct.sizes l.fn.m) root (g.M.Direct.domain l.fn.m) first l.label (g.M.Direct.front l.fn.m) (g.M.Direct.front l.m) l.index l.rest l.at (length x.p) l.counter;
}
