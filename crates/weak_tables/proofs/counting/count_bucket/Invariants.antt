use Rattle.weak_tables.specs.Frames.{Passes}
use Rattle.weak_tables.specs.Held.{OfTable}
use Rattle.weak_tables.specs.Walks.{Counting}
use Rattle.weak_tables.proofs.counting.count_bucket.Given as goal

abbrev pub invariant-cells : goal.invariant-cells
invariant-cells g l = record {
  passes : Passes g.M.Machine.sizes g.M.Machine.front g.M.Machine.labels_left g.M.Machine.ephes_room l.fn.m l.m;
  counting : OfTable (g.M.Machine.sizes l.fn.m) (g.M.Machine.front l.fn.m) l.table (λ root chains. Counting (g.M.Machine.sizes l.fn.m) (g.M.Machine.front l.fn.m) (g.M.Machine.front l.m) root chains l.index l.at l.count l.counter);
}
