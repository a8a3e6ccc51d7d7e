use Rattle.model_laws.specs.Reach.Exploring.{Extends, IsOnce, IsOrdered}
use Rattle.model_laws.specs.Reach.Walks.{Walked, WalksOn}
use Rattle.model_laws.proofs.OfReach.Visiting.{Reading}
use Rattle.model_laws.proofs.reach.exploring.visit.Given as goal

abbrev pub invariant-fields : goal.invariant-fields
invariant-fields g l = record {
  on : WalksOn g.M.Walker.home g.M.Walker.sizes g.M.Walker.number g.M.Walker.front l.fn.m l.m;
  ordered : IsOrdered l.seen.items;
  once : IsOnce l.seen.items;
  goes_on : Extends l.fn.seen.items l.seen.items;
  reading : Walked (g.M.Walker.number l.fn.m) (g.M.Walker.front l.fn.m) (g.M.Walker.front l.m) → Reading (g.M.Walker.sizes l.fn.m) (g.M.Walker.number l.fn.m) (g.M.Walker.front l.fn.m) (g.M.Walker.front l.m) l.at l.fn.seen.items l.seen.items l.index;
}
