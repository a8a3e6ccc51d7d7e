use Rattle.std.proofs.Common.{ℕ, Some}
use Rattle.model_laws.specs.Reach.Walks.{Walked, WalksOn}
use Rattle.model_laws.proofs.OfReach.Going.{Going}
use Rattle.model_laws.proofs.reach.exploring.go.Given as goal

abbrev pub invariant-fields : goal.invariant-fields
invariant-fields g l = record {
  on : WalksOn g.M.Walker.home g.M.Walker.sizes g.M.Walker.number g.M.Walker.front l.fn.m l.m;
  going : Walked (g.M.Walker.number l.fn.m) (g.M.Walker.front l.fn.m) (g.M.Walker.front l.m) → Going (g.M.Walker.sizes l.fn.m) (g.M.Walker.number l.fn.m) (g.M.Walker.front l.fn.m) (g.M.Walker.front l.m) l.way l.field-index;
}
