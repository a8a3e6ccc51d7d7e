use Rattle.std.proofs.Common.{subst}
use Rattle.example_handles.specs.Handling.{HandlesView, IsHandles}
use Rattle.example_handles.proofs.handles.Handles.is_kept.Goals as goal

pub returns : goal.returns
returns c = subst (λ (h : HandlesView). IsHandles h) c.self.view_is c.self.invariant.0
