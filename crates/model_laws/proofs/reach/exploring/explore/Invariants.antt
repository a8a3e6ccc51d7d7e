use Rattle.std.proofs.Common.{ℕ, ◌≤◌, length}
use Rattle.model_laws.specs.Reach.Exploring.{Explored, IsOnce, IsOrdered, graph_of, roots_of}
use Rattle.model_laws.specs.Reach.Walks.{Still, Walked, WalksOn}
use Rattle.model_laws.proofs.reach.exploring.explore.Given as goal

abbrev pub invariant-places : goal.invariant-places
invariant-places g l = record {
  on : WalksOn g.M.Walker.home g.M.Walker.sizes g.M.Walker.number g.M.Walker.front l.fn.m l.m;
  ordered : IsOrdered l.seen.items;
  once : IsOnce l.seen.items;
  inside : l.at ≤ length l.seen.items;
  explored : Walked (g.M.Walker.number l.fn.m) (g.M.Walker.front l.fn.m) (g.M.Walker.front l.m) → Still (g.M.Walker.sizes l.fn.m) (g.M.Walker.number l.fn.m) (g.M.Walker.front l.fn.m) (g.M.Walker.front l.m)
      × Explored (graph_of (g.M.Walker.sizes l.fn.m) (g.M.Walker.front l.fn.m)) (roots_of (g.M.Walker.sizes l.fn.m) (g.M.Walker.number l.fn.m) (g.M.Walker.front l.fn.m)) l.stop l.seen.items l.at l.weak;
}
