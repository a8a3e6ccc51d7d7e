use Rattle.std.proofs.Common.{◌≡◌}
use Rattle.model_core.specs.declared.command.Command as model
use Rattle.heap_rule.specs.declared.view.DomainView.{DomainView}
use Rattle.run_turns.specs.Runs.{GoesOn, IsHandedIn}
use Rattle.run_turns.specs.Singly.Driving.{Awaits}
use Rattle.run_seats.specs.Shared.Idling.{StaysAlong}
use Rattle.run_seats.specs.Shared.Sharing.{MayClose}
use Rattle.camlheap_c.specs.Exported.{Adds}
use Rattle.camlheap_c.proofs.driving.turns_of.Given as goal

abbrev pub invariant-turns : goal.invariant-turns
invariant-turns l = record {
  heap : l.run.heap ≡ l.initial.run.heap;
  unread : l.reply ≡ l.initial.reply;
  further : GoesOn l.initial.run.run l.run.run;
  idle : MayClose l.initial.run → StaysAlong l.initial.run l.run;
  ran : IsHandedIn l.initial.run.run.supply → Adds l.initial.run l.run;
  awaits : (start : DomainView) (c : model.Command) → Awaits l.initial.run.heap start c l.initial.run.run → Awaits l.run.heap start c l.run.run;
}
