use Rattle.std.proofs.Common.{◌∙◌, ◌<◌, ◌≤◌, ℕ, ap, subst}
use Rattle.heap_rule.specs.declared.view.DomainView.{DomainView}
use Rattle.do_alloc.proofs.OfPools.Counted.{none_twice}
use Rattle.do_alloc.proofs.OfPools.Searching.{drew_pool}
use Rattle.do_alloc.proofs.pools.draw.draw_pool.Goals as goal

pub returns-clause-drew : goal.returns-clause-drew
returns-clause-drew c = drew_pool c.args.heap.now.config c.args.dom.now.view c.listed_load-count.new.dom.view c.cursor_load.new.dom.view c.cursor_add-place.new.dom.view c.listed_load-count.result c.cursor_load.result c.cursor_add-place.result c.args.class
    c.listed_load-count.ensures.told c.cursor_load.ensures.told
    (subst (λ (n : ℕ). c.cursor_load.result < n) (c.from.ensures ∙ c.draw_limit-limit.ensures.value) c.if-cursor_load-from.false)
    (c.cursor_add-place.ensures.told.below (subst (λ (n : ℕ). c.cursor_add-place.result < n) (c.from-2.ensures ∙ c.draw_limit-limit.ensures.value) c.if-place-from.false))

pub returns-then-place-from-clause-none : goal.returns-then-place-from-clause-none
returns-then-place-from-clause-none c = none_twice c.args.heap.now.config c.args.dom.now.view c.listed_load-count.new.dom.view c.cursor_load.new.dom.view c.cursor_add-place.new.dom.view c.listed_load-count.result c.cursor_load.result c.draw_limit-limit.result
    c.draw_limit-limit.ensures.value c.draw_limit-limit.ensures.rest
    (ap (λ (z : DomainView). z.seen.free) c.listed_load-count.ensures.told.view)
    (ap (λ (z : DomainView). z.seen.free) (c.cursor_load.ensures.told.below (subst (λ (n : ℕ). c.cursor_load.result < n) (c.from.ensures ∙ c.draw_limit-limit.ensures.value) c.if-cursor_load-from.false)))
    (ap (λ (z : DomainView). z.seen.free) (c.cursor_add-place.ensures.told.past (subst (λ (n : ℕ). n ≤ c.cursor_add-place.result) (c.from-2.ensures ∙ c.draw_limit-limit.ensures.value) c.if-place-from.true)))
