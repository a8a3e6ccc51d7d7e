use Rattle.std.proofs.Common.{ℕ, ◌<◌, ◌≤◌, length, sym, subst, ◌∙◌}
use Rattle.heap_rule.specs.declared.view.DomainView.{DomainView}
use Rattle.heap_rule.specs.declared.view.Held.TheVariants.{Final}
use Rattle.gc_copy.proofs.HeldMoves.{loop_start, loop_step, loop_end, same_final, final_below, finals_long}
use Rattle.gc_copy.proofs.finalisers.move_finals.Goals as goal

pub loop-i-init : goal.loop-i-init
loop-i-init c = record { here = c.requires.here; moved = loop_start Final same_final c.args.heap.now.config c.args.dom.now.view c.requires.works c.requires.tied }

pub final_at-registered-requires : goal.final_at-registered-requires
final_at-registered-requires c =
    let x : DomainView = c.args.dom.now.view in
    let y : DomainView = c.loop-i.dom.view in
    subst (λ (n : ℕ). c.loop-i.i < n) (c.finals_len-finals.ensures ∙ sym (finals_long x.own.finalisers y.own.finalisers c.loop-i.invariant.moved.rest)) c.loop-i-test.true

pub loop-i-preserved : goal.loop-i-preserved
loop-i-preserved c = record {
  here = c.move_held.ensures.here;
  moved = loop_step Final same_final c.args.heap.now.config c.loop-i.i c.args.dom.now.view c.loop-i.dom.view c.move_held.new.dom.view c.loop-i.invariant.moved c.move_held.ensures.moved;
}

pub returns-clause-moved : goal.returns-clause-moved
returns-clause-moved c =
    let x : DomainView = c.args.dom.now.view in
    loop_end Final same_final c.args.heap.now.config (length x.own.finalisers.finals.items) c.loop-i.i x c.loop-i.dom.view (final_below x.own.finalisers)
    (subst (λ (n : ℕ). n ≤ c.loop-i.i) c.finals_len-finals.ensures c.loop-i-test.false) c.loop-i.invariant.moved
