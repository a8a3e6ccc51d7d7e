use Rattle.std.proofs.Common.{◌≡◌, List, length}
use Rattle.model_core.specs.declared.entry.Entry.{Entry}
use Rattle.model_core.specs.declared.label.Label.{Label}
use Rattle.model_core.specs.declared.graph.Value.TheVariants.{Block}
use Rattle.weak_laws.specs.Maps.Steps.{OthersRespect}
use Rattle.weak_maps.specs.Beside.{held_by}
use Rattle.weak_maps.specs.Walks.{Looking, OwnQuiet}
use Rattle.weak_maps.specs.Fields.{AtField, Walked}
use Rattle.weak_maps.specs.Puts.{KeepsLeaf}
use Rattle.weak_maps.specs.Frames.{Leaves}
use Rattle.weak_maps.proofs.taking.find.Given as goal

abbrev pub invariant-levels : goal.invariant-levels
invariant-levels g l = record {
  leaves : Leaves g.M.Machine.sizes g.M.Machine.domain g.M.Machine.heap g.M.Machine.front g.M.Machine.labels_left g.M.Machine.ephes_room l.fn.m l.m;
  steps : l.steps ≡ l.counter;
  quiet : OwnQuiet (g.M.Machine.sizes l.fn.m) (g.M.Machine.domain l.fn.m) (g.M.Machine.front l.fn.m) (g.M.Machine.front l.m);
  leaf : KeepsLeaf (g.M.Machine.sizes l.fn.m) (g.M.Machine.domain l.fn.m) (g.M.Machine.front l.fn.m) (g.M.Machine.front l.m) l.key l.label l.fn.from.index l.fn.from.rest l.fn.field;
  walk : (first : List Entry) (root : Label) → held_by (g.M.Machine.sizes l.fn.m) (g.M.Machine.domain l.fn.m) (g.M.Machine.front l.fn.m) l.key ≡ Block l.label → Looking (g.M.Machine.sizes l.fn.m) root (g.M.Machine.domain l.fn.m) first (g.M.Machine.front l.fn.m)
      → (x : AtField (g.M.Machine.sizes l.fn.m) (g.M.Machine.domain l.fn.m) first (g.M.Machine.front l.fn.m) (g.M.Machine.front l.fn.m) root l.label l.fn.from.index l.fn.from.rest l.fn.field)
      → OthersRespect (g.M.Machine.sizes l.fn.m) root (g.M.Machine.domain l.fn.m) first (g.M.Machine.front l.m)
      → Walked (g.M.Machine.sizes l.fn.m) root (g.M.Machine.domain l.fn.m) first l.label (g.M.Machine.front l.fn.m) (g.M.Machine.front l.m) l.index l.rest l.at (length x.p) l.counter;
}
