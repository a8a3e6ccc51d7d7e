use Rattle.std.proofs.Common.{◌≡◌, ◌≢◌, ℕ, ◌≤◌, ◌*◌, ◌%◌, ap, ◌∙◌, subst}
use Rattle.heap_rule.specs.declared.config.Config.{Config}
use Rattle.heap_rule.specs.Phases.{kind_at}
use Rattle.gc_pause.proofs.OfStops.Leading.{kind_of_code}
use Rattle.gc_pause.proofs.OfStops.Looking.{next, odd}
use Rattle.gc_pause.proofs.stops.barrier.answer_look.Goals as goal

pub returns-then-arrivals-eq1-clause-answer : goal.returns-then-arrivals-eq1-clause-answer
returns-then-arrivals-eq1-clause-answer c = λ before told. odd c.args.heap.now.config before c.args.dom.now.view c.args.found told
    (subst (λ (x : ℕ × ℕ). x.0 * x.1 ≤ c.args.found) (λ i. (c.arrivals.ensures i, (c.from.ensures ∙ ap (λ (k : Config). k.domains) c.config.ensures.value) i)) c.if-found-arrivals.false)
    (subst (λ (x : ℕ). x % 2 ≡ 1) c.arrivals-2.ensures c.if-arrivals-eq1.true)

pub returns-clause-answer : goal.returns-clause-answer
returns-clause-answer c = λ before told. next c.args.heap.now.config before c.args.dom.now.view c.plan_load-word.new.dom.view c.args.found c.plan_load-word.result c.kind_of.result told
    (subst (λ (x : ℕ × ℕ). x.0 * x.1 ≤ c.args.found) (λ i. (c.arrivals.ensures i, (c.from.ensures ∙ ap (λ (k : Config). k.domains) c.config.ensures.value) i)) c.if-found-arrivals.false)
    (subst (λ (x : ℕ). x % 2 ≢ 1) c.arrivals-2.ensures c.if-arrivals-eq1.false)
    c.plan_load-word.ensures.told (λ kind is. c.kind_of.ensures ∙ (ap kind_at is ∙ kind_of_code kind))
