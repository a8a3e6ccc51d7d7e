use Rattle.weak_tables.specs.Frames.{Passes}
use Rattle.weak_tables.specs.Held.{OfTable}
use Rattle.weak_tables.specs.Walks.{Midst}
use Rattle.weak_tables.proofs.searching.search.Given as goal

abbrev pub invariant-cells : goal.invariant-cells
invariant-cells g l = record {
  passes : Passes g.M.Machine.sizes g.M.Machine.front g.M.Machine.labels_left g.M.Machine.ephes_room l.fn.m l.m;
  midst : OfTable (g.M.Machine.sizes l.fn.m) (g.M.Machine.front l.fn.m) l.table (λ root chains. Midst (g.M.Machine.sizes l.fn.m) (g.M.Machine.front l.fn.m) (g.M.Machine.front l.m) root chains l.label l.at l.spare l.counter);
}
