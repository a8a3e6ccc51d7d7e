use Rattle.std.proofs.Common.{◌≡◌, ◌∙◌, Bool, List, length, arith, ap, false, sym, subst}
use Rattle.model_core.specs.declared.command.Command as model
use Rattle.run_alone.specs.Idling.{IdleAnswers}
use Rattle.run_alone.proofs.Closing.{closes, closes_adds, closes_fewer, idles_calm}
use Rattle.run_alone.proofs.ending.end.Goals as goal

pub returns-then-has_ended-clause-over : goal.returns-then-has_ended-clause-over
returns-then-has_ended-clause-over c = λ front idle.
    let i = c.turns.invariant in
    subst (λ (b : Bool). IdleAnswers c.args.heap.now front c.go_on.new.run b) (sym c.has_ended.ensures ∙ c.if-has_ended.true)
    (idles_calm c.args.heap.now front c.turns.run c.go_on.new.run c.go_on.result (i.5 front idle) c.go_on.ensures.here c.shows_faithful.ensures c.go_on.ensures.answer)

pub returns-then-has_ended-clause-ran : goal.returns-then-has_ended-clause-ran
returns-then-has_ended-clause-ran c =
    let i = c.turns.invariant in
    closes_adds c.args.heap.now c.args.run.now c.turns.run c.go_on.new.run c.go_on.result i.0 i.1 i.4 i.6 c.go_on.ensures.answer

pub turns-smaller : goal.turns-smaller
turns-smaller c =
    let i = c.turns.invariant in
    let running : c.go_on.new.run.ended ≡ false = sym c.has_ended.ensures ∙ c.if-has_ended.false in
    (closes_fewer c.turns.run c.go_on.new.run (closes c.args.heap.now c.turns.run c.go_on.new.run i.1 i.3 i.4 c.go_on.result c.go_on.ensures.answer) running).1

pub turns-preserved : goal.turns-preserved
turns-preserved c =
    let i = c.turns.invariant in
    let running : c.go_on.new.run.ended ≡ false = sym c.has_ended.ensures ∙ c.if-has_ended.false in
    let step = closes c.args.heap.now c.turns.run c.go_on.new.run i.1 i.3 i.4 c.go_on.result c.go_on.ensures.answer in (
      c.go_on.ensures.here,
      step.supply ∙ i.1,
      step.left ∙ i.2,
      (let past = i.3 in let same = step.next in let long : length c.go_on.new.run.commands ≡ length c.turns.run.commands = ap (λ (cs : List model.Command). length cs) step.commands in omega (arith, past, same, long)),
      running,
      λ front idle. subst (λ (b : Bool). IdleAnswers c.args.heap.now front c.go_on.new.run b) running
          (idles_calm c.args.heap.now front c.turns.run c.go_on.new.run c.go_on.result (i.5 front idle) c.go_on.ensures.here c.shows_faithful.ensures c.go_on.ensures.answer),
      closes_adds c.args.heap.now c.args.run.now c.turns.run c.go_on.new.run c.go_on.result i.0 i.1 i.4 i.6 c.go_on.ensures.answer,
    )
