use Rattle.std.proofs.Common.{◌≡◌, ℕ, ◌<◌, Some}
use Rattle.model_core.specs.declared.label.Label.{Label}
use Rattle.model_laws.specs.Reach.Exploring.{AllTraced, Has, IsOnce, IsOrdered, roots_of}
use Rattle.model_laws.specs.Reach.Ways.{Edges}
use Rattle.model_laws.proofs.reach.exploring.note_roots.Given as goal

abbrev pub invariant-registers : goal.invariant-registers
invariant-registers g l = record {
  home : g.M.Walker.home l.m ≡ g.M.Walker.home l.fn.m;
  sizes : g.M.Walker.sizes l.m ≡ g.M.Walker.sizes l.fn.m;
  number : g.M.Walker.number l.m ≡ g.M.Walker.number l.fn.m;
  front : g.M.Walker.front l.m ≡ g.M.Walker.front l.fn.m;
  ordered : IsOrdered l.seen.items;
  once : IsOnce l.seen.items;
  traced : (f : Edges) → AllTraced f (roots_of (g.M.Walker.sizes l.fn.m) (g.M.Walker.number l.fn.m) (g.M.Walker.front l.fn.m)) l.seen.items;
  rooted : (r : ℕ) (m : Label) → r < l.register → roots_of (g.M.Walker.sizes l.fn.m) (g.M.Walker.number l.fn.m) (g.M.Walker.front l.fn.m) r ≡ Some m → Has l.seen.items m;
}
