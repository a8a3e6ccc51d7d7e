use Rattle.std.proofs.Common.{◌≡◌}
use Rattle.model_core.specs.declared.command.Command as model
use Rattle.heap_rule.specs.declared.view.DomainView.{DomainView}
use Rattle.heap_rule.specs.Limits.{sizes_in}
use Rattle.heap_rule.specs.Token.{IsIn}
use Rattle.run_turns.specs.Runs.{AddsRan, IsHandedIn}
use Rattle.run_turns.specs.Singly.Driving.{Awaits}
use Rattle.run_turns.proofs.singly.waiting.await_reply.Given as goal

abbrev pub invariant-turns : goal.invariant-turns
invariant-turns g l = IsIn l.run.token l.heap × ((start : DomainView) (c : model.Command) → Awaits l.heap start c l.initial.run → Awaits l.heap start c l.run) × (IsHandedIn l.initial.run.supply → AddsRan (sizes_in l.heap.config) l.initial.run l.run) × (l.run.supply ≡ l.initial.run.supply) × g.M.Meanwhile.fits l.heap l.meanwhile l.kept × (l.kept ≡ l.initial.kept)
