use Rattle.std.proofs.Common.{◌≡◌, ℕ, ◌+◌, List, drop, Some, slice_get, sym, ap, ◌∙◌}
use Rattle.heap_rule.specs.declared.view.DomainView.{DomainView}
use Rattle.gc_copy.proofs.Fills.{drop_item}
use Rattle.gc_copy.proofs.Meeting.{learns_twice}
use Rattle.gc_copy.proofs.Rooting.{rewrites_twice}
use Rattle.gc_copy.proofs.roots.rewrite_fields.Goals as goal

pub rewrite_field-requires-clause-first : goal.rewrite_field-requires-clause-first
rewrite_field-requires-clause-first c =
    let i : ℕ = c.loop-i.i in
    let items : List ℕ = c.args.dom.now.view.own.remembered.items in
    let here : slice_get items i ≡ Some c.remembered_at-at.result = sym (c.remembered_at-at.ensures.item ∙ ap (λ (x : DomainView). slice_get x.own.remembered.items i) c.loop-i.invariant.view) in
    (drop (i + 1) items, c.loop-i.invariant.left ∙ drop_item items i c.remembered_at-at.result here)

pub loop-i-preserved : goal.loop-i-preserved
loop-i-preserved c =
    let i : ℕ = c.loop-i.i in
    let items : List ℕ = c.args.dom.now.view.own.remembered.items in
    let here : slice_get items i ≡ Some c.remembered_at-at.result = sym (c.remembered_at-at.ensures.item ∙ ap (λ (x : DomainView). slice_get x.own.remembered.items i) c.loop-i.invariant.view) in
    let r = c.rewrite_field.ensures.rewritten in record {
      here = c.rewrite_field.ensures.here;
      view = rewrites_twice c.args.dom.now.view c.loop-i.dom.view c.rewrite_field.new.dom.view c.loop-i.invariant.view r.view;
      works = r.works;
      learns = learns_twice c.args.dom.now.view c.loop-i.dom.view c.rewrite_field.new.dom.view c.loop-i.invariant.learns r.learns;
      tied = r.tied;
      left = r.forgotten ∙ ap (drop 1) (c.loop-i.invariant.left ∙ drop_item items i c.remembered_at-at.result here);
    }
