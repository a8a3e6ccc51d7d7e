use Rattle.std.proofs.Common.{◌<◌, subst}
use Rattle.heap_rule.specs.declared.config.Config.{Config}
use Rattle.heap_rule.specs.declared.view.Swept.{Swept}
use Rattle.do_alloc.proofs.OfPools.Counted.{both_ok, none_swept, place_swept, taken_swept, three_err}
use Rattle.do_alloc.proofs.pools.taking.take.Goals as goal

pub returns-in-Err-clause-took : goal.returns-in-Err-clause-took
returns-in-Err-clause-took c =
    let left = subst (λ (q : Swept × Config). q.0.spot.pool < q.1.pools) (λ i. (c.swept.ensures.value i, c.config.ensures.value i)) c.if-swept-config.true in
    both_ok c.find_or_draw-in-Err.result
    (λ a t place. taken_swept c.args.heap.now.config c.args.class c.args.dom.now.view c.find_or_draw.new.dom.view c.sweep_own.new.dom.view c.find_or_draw-in-Err.new.dom.view c.in-Err.field-0.free c.in-Err.ensures.same c.in-Err.ensures.reserved left c.sweep_own.ensures.swept a t place)
    c.find_or_draw-in-Err.ensures.took c.find_or_draw-in-Err.ensures.has_place

pub returns-in-Err-clause-has_place : goal.returns-in-Err-clause-has_place
returns-in-Err-clause-has_place c =
    let left = subst (λ (q : Swept × Config). q.0.spot.pool < q.1.pools) (λ i. (c.swept.ensures.value i, c.config.ensures.value i)) c.if-swept-config.true in
    both_ok c.find_or_draw-in-Err.result
    (λ a t place. place_swept c.args.heap.now.config c.args.class c.args.dom.now.view c.find_or_draw.new.dom.view c.sweep_own.new.dom.view c.find_or_draw-in-Err.new.dom.view c.in-Err.field-0.free c.in-Err.ensures.same c.in-Err.ensures.reserved left c.sweep_own.ensures.swept a t place c.in-Err.ensures.known)
    c.find_or_draw-in-Err.ensures.took c.find_or_draw-in-Err.ensures.has_place

pub returns-in-Err-clause-none : goal.returns-in-Err-clause-none
returns-in-Err-clause-none c =
    let left = subst (λ (q : Swept × Config). q.0.spot.pool < q.1.pools) (λ i. (c.swept.ensures.value i, c.config.ensures.value i)) c.if-swept-config.true in
    three_err c.find_or_draw-in-Err.result
    (λ n r none next. none_swept c.args.heap.now.config c.args.class c.args.dom.now.view c.find_or_draw.new.dom.view c.sweep_own.new.dom.view c.find_or_draw-in-Err.new.dom.view c.in-Err.field-0.free c.in-Err.ensures.same c.in-Err.ensures.reserved left c.sweep_own.ensures.swept n.free r c.in-Err.ensures.known none next)
    c.find_or_draw-in-Err.ensures.reserved c.find_or_draw-in-Err.ensures.none_free c.find_or_draw-in-Err.ensures.same
