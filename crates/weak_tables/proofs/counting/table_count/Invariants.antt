use Rattle.weak_tables.specs.Frames.{Passes}
use Rattle.weak_tables.specs.Held.{OfTable}
use Rattle.weak_tables.specs.Walks.{CountedTo}
use Rattle.weak_tables.proofs.counting.table_count.Given as goal

abbrev pub invariant-buckets : goal.invariant-buckets
invariant-buckets g l = record {
  passes : Passes g.M.Machine.sizes g.M.Machine.front g.M.Machine.labels_left g.M.Machine.ephes_room l.fn.m l.m;
  counted : OfTable (g.M.Machine.sizes l.fn.m) (g.M.Machine.front l.fn.m) l.table (λ root chains. CountedTo (g.M.Machine.sizes l.fn.m) (g.M.Machine.front l.fn.m) (g.M.Machine.front l.m) root chains l.index l.count);
}
