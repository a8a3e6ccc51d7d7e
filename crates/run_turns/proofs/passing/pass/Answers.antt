use Rattle.std.proofs.Common.{◌∙◌, ◌<◌, ◌^◌, ℕ, length, inl, inr, refl, sym, ap, subst}
use Rattle.heap_rule.specs.declared.phase.Kind.{Kind}
use Rattle.heap_rule.specs.declared.phase.Kind.TheVariants.{Run}
use Rattle.heap_rule.specs.declared.phase.Stage.TheVariants.{Leads}
use Rattle.heap_rule.specs.declared.view.DomainView.{DomainView}
use Rattle.heap_rule.specs.Phases.{Comes}
use Rattle.gc_pause.specs.Phases.Sharing.{HintsIn}
use Rattle.step_pauses.specs.Pauses.{kind_in}
use Rattle.gc_pause.specs.Stops.Looks.{LookAnswers}
use Rattle.gc_pause.specs.declared.stops.answer.Look.{Look}
use Rattle.gc_pause.specs.declared.stops.answer.Look.TheVariants.{Next}
use Rattle.run_turns.proofs.PauseLemmas.{looked_quiet, ready_next, run_ready}
use Rattle.run_turns.proofs.PassingLemmas.{look_goes_on, look_paid, comes_to, answers_came}
use Rattle.run_turns.proofs.passing.pass.Goals as goal

pub answer-blocks-requires-clause-goes_on : goal.answer-blocks-requires-clause-goes_on
answer-blocks-requires-clause-goes_on c =
    let before = c.requires.looked.0 in
    let may = c.requires.looked.1 in
    let a = subst (λ (l : Look). LookAnswers c.args.heap.now.config before c.args.dom.now.view l) (c.in-Next.is ∙ ap Next c.in-Answer.is) may.looked in
    λ live. look_goes_on c.args.heap.now.config before c.args.dom.now.view a.0 (may.goes_on live)

pub answer-blocks-requires-clause-paid : goal.answer-blocks-requires-clause-paid
answer-blocks-requires-clause-paid c =
    let before = c.requires.looked.0 in
    let may = c.requires.looked.1 in
    let a = subst (λ (l : Look). LookAnswers c.args.heap.now.config before c.args.dom.now.view l) (c.in-Next.is ∙ ap Next c.in-Answer.is) may.looked in
    λ live. look_paid c.args.heap.now.config before c.args.dom.now.view a.0 (may.paid live)

pub leave_even-requires-clause-stage : goal.leave_even-requires-clause-stage
leave_even-requires-clause-stage c = (subst (λ (l : Look). LookAnswers c.args.heap.now.config c.requires.looked.0 c.args.dom.now.view l) c.in-Next.is c.requires.looked.1.looked).1

pub leave_even-requires-clause-at_rest : goal.leave_even-requires-clause-at_rest
leave_even-requires-clause-at_rest c =
    let a = subst (λ (l : Look). LookAnswers c.args.heap.now.config c.requires.looked.0 c.args.dom.now.view l) c.in-Next.is c.requires.looked.1.looked in
    ap (λ (x : DomainView). x.seen.hunt) a.0.view ∙ c.requires.looked.1.at_rest

pub leave_even-requires-clause-idle : goal.leave_even-requires-clause-idle
leave_even-requires-clause-idle c =
    let a = subst (λ (l : Look). LookAnswers c.args.heap.now.config c.requires.looked.0 c.args.dom.now.view l) c.in-Next.is c.requires.looked.1.looked in
    ap (λ (x : DomainView). x.seen.made) a.0.view ∙ c.requires.looked.1.idle

pub leave_even-requires-clause-few : goal.leave_even-requires-clause-few
leave_even-requires-clause-few c =
    let a = subst (λ (l : Look). LookAnswers c.args.heap.now.config c.requires.looked.0 c.args.dom.now.view l) c.in-Next.is c.requires.looked.1.looked in
    subst (λ (n : ℕ). n < 2 ^ 60) (sym (ap (λ (x : DomainView). x.own.arrivals) a.0.view)) c.requires.looked.1.few

pub leave_even-requires-clause-quiet : goal.leave_even-requires-clause-quiet
leave_even-requires-clause-quiet c =
    let a = subst (λ (l : Look). LookAnswers c.args.heap.now.config c.requires.looked.0 c.args.dom.now.view l) c.in-Next.is c.requires.looked.1.looked in
    looked_quiet c.args.heap.now.config c.requires.looked.0 c.args.dom.now.view a.0 c.requires.looked.1.quiet

pub leave_even-requires-clause-ready : goal.leave_even-requires-clause-ready
leave_even-requires-clause-ready c =
    let before = c.requires.looked.0 in
    let may = c.requires.looked.1 in
    let a = subst (λ (l : Look). LookAnswers c.args.heap.now.config before c.args.dom.now.view l) c.in-Next.is may.looked in
    ready_next c.args.heap.now.config c.args.last c.in-Next.kind before c.args.dom.now.view may.inside may.left a.0 a.2 (subst (λ (l : Kind). Comes before.own.number l c.in-Next.kind) (ap kind_in may.gone) a.3) a.4

pub returns-in-Lead-clause-answer : goal.returns-in-Lead-clause-answer
returns-in-Lead-clause-answer c = λ before may.
    let a = subst (λ (l : Look). LookAnswers c.args.heap.now.config before c.args.dom.now.view l) c.in-Lead.is may.looked in
    (record { begun = c.args.dom.now.view; passed = a.0; share = inr (a.2, a.1 ∙ ap Leads (ap kind_in may.gone), c.leave_odd.ensures.leaves) }, refl)

pub returns-in-Run-clause-answer : goal.returns-in-Run-clause-answer
returns-in-Run-clause-answer c = λ before may.
    let a = subst (λ (l : Look). LookAnswers c.args.heap.now.config before c.args.dom.now.view l) (c.in-Next.is ∙ ap Next c.in-Run.is) may.looked in
    let comes = subst (λ (l : Kind). Comes before.own.number l Run) (ap kind_in may.gone) a.3 in
    ((a.0, a.1, a.2, run_ready c.args.heap.now.config c.args.dom.now.view (ready_next c.args.heap.now.config c.args.last Run before c.args.dom.now.view may.inside may.left a.0 a.2 comes a.4), comes), refl)

pub returns-in-Answer-clause-answer : goal.returns-in-Answer-clause-answer
returns-in-Answer-clause-answer c = λ before may.
    let a = subst (λ (l : Look). LookAnswers c.args.heap.now.config before c.args.dom.now.view l) (c.in-Next.is ∙ ap Next c.in-Answer.is) may.looked in
    answers_came c.args.decider c.args.heap.now.config before c.args.dom.now.view c.answer-blocks.new.dom.view c.args.last c.args.live c.answer-blocks.result.0 c.answer-blocks.result.1 c.args.found
    (comes_to c.args.heap.now.config c.args.last before c.args.dom.now.view may.inside may.left a.0 a.1 a.2 (ap kind_in may.gone) a.3 a.4) c.answer-blocks.ensures.answers

pub returns-in_default-clause-hints : goal.returns-in_default-clause-hints
returns-in_default-clause-hints c = λ before may.
    let a = subst (λ (l : Look). LookAnswers c.args.heap.now.config before c.args.dom.now.view l) c.in-Next.is may.looked in
    let queue = λ (x : DomainView). length x.own.finalisers.queue.items in
    inl (a.2, subst (λ (queued : ℕ). HintsIn c.in-Next.kind queued c.args.hints.now c.leave_even.new.hints) (ap queue a.0.view) c.leave_even.ensures.hints)

pub returns-in_default-clause-answer : goal.returns-in_default-clause-answer
returns-in_default-clause-answer c = λ before may.
    let a = subst (λ (l : Look). LookAnswers c.args.heap.now.config before c.args.dom.now.view l) c.in-Next.is may.looked in
    (record { begun = c.args.dom.now.view; passed = a.0; share = inl (a.2, a.1, subst (λ (l : Kind). Comes before.own.number l c.in-Next.kind) (ap kind_in may.gone) a.3, a.4, c.leave_even.ensures.leaves) }, refl)
