use Rattle.std.proofs.Common.{◌∙◌, Option, sym, subst, arith}
use Rattle.model_core.specs.declared.reply.Reply.{Reply}
use Rattle.heap_rule.specs.Token.{SharedHeap}
use Rattle.run_turns.specs.Singly.Driving.{AwaitAnswers, Awaits}
use Rattle.heap_rule.specs.Limits.{sizes_in}
use Rattle.run_turns.specs.Runs.{AddsRan, IsHandedIn}
use Rattle.run_turns.proofs.Adding.{adds_on}
use Rattle.camlheap_c.proofs.driving.call_on.Goals as goal

pub returns-in-Ok-None-clause-called : goal.returns-in-Ok-None-clause-called
returns-in-Ok-None-clause-called c below =
    let start = c.args.run.now.run.token.view in
    let command = c.in-Some.command in
    let e = c.in-Ok-None.ensures in
    let waits : Awaits c.args.run.now.heap start command c.begin.new.self.run = subst (λ (o : Option Reply). AwaitAnswers c.args.run.now.heap start command c.begin.new.self.run o) c.in-Ok-None.field-0-is e.answers in
    let went = c.turns_of.ensures.goes_on start command (subst (λ (h : SharedHeap). Awaits h start command c.begin.new.self.run) (sym e.heap) waits) in
    record {
      command = command;
      stands_for = sym c.command_of.ensures ∙ c.in-Some.is;
      may = e.may;
      goes_on = record { heap = went.heap ∙ e.heap; made = went.made; waits = went.waits; waits_for = went.waits_for; unread = went.unread };
      ran = adds_on (sizes_in c.args.run.now.heap.config) c.args.run.now.run c.begin.new.self.run c.turns_of.new.run.run e.ran
          (subst (λ (h : SharedHeap). AddsRan (sizes_in h.config) c.begin.new.self.run c.turns_of.new.run.run) e.heap (c.turns_of.ensures.ran (subst IsHandedIn (sym waits.more) tt)));
    }

pub returns-in-Ok-None-clause-refused : goal.returns-in-Ok-None-clause-refused
returns-in-Ok-None-clause-refused c above = let few = c.turns_of.ensures.told in absurd (omega (arith, above, few))

pub returns-in-Ok-None-clause-lasts : goal.returns-in-Ok-None-clause-lasts
returns-in-Ok-None-clause-lasts c is =
    let start = c.args.run.now.run.token.view in
    let e = c.in-Ok-None.ensures in
    let waits : Awaits c.args.run.now.heap start c.in-Some.command c.begin.new.self.run = subst (λ (o : Option Reply). AwaitAnswers c.args.run.now.heap start c.in-Some.command c.begin.new.self.run o) c.in-Ok-None.field-0-is e.answers in
    (c.turns_of.ensures.ended is).1 (c.turns_of.ensures.further.supply ∙ waits.more)
