use Rattle.std.proofs.Common.{◌≡◌, ◌<◌, ◌-◌, [], ◌∙◌, sym, ap, subst, arith}
use Rattle.atomic_table.specs.Table.{Splits}
use Rattle.heap_rule.specs.declared.config.Config.{Config}
use Rattle.heap_rule.specs.Rule.{Rule}
use Rattle.heap_rule.specs.Token.{SharedHeap}
use Rattle.heap_rule.specs.Opening.{opening_token, opening_tokens}
use Rattle.heap_rule.specs.Views.{one, opening_view, cut_left, cut_right}
use Rattle.heap_rule.proofs.Dealt.{first_is, left_after, right_after, may_split, dealt}
use Rattle.heap_rule.proofs.heap.seated.Goals as goal

pub loop-i-init : goal.loop-i-init
loop-i-init c = record {
  table = c.requires.seat.0;
  view = first_is c.args.heap.now.config c.args.count c.args.seat.me c.requires.count.0 c.requires.seat.1;
  made = let e : c.args.count - 0 ≡ c.args.count = omega arith in rw c.new-domains.ensures.items (ap (opening_tokens c.args.heap.now.table c.args.heap.now.config 0) e);
}

pub split_seat-mine-requires : goal.split_seat-mine-requires
split_seat-mine-requires c =
    let below : c.loop-i.i < c.args.count = omega arith in
    let words = c.heap.invariant.0 in (
      c.loop-i.invariant.table ∙ sym (ap (λ (h : SharedHeap). h.table) c.heap.view_is),
      omega arith,
      subst (λ (k : Config). Splits (Rule k) c.loop-i.seat.id c.loop-i.seat.me.0 (cut_left c.loop-i.seat.me.0) (cut_right c.loop-i.seat.me.0)) (sym (ap (λ (h : SharedHeap). h.config) c.heap.view_is))
          (may_split c.args.heap.now.config c.loop-i.i c.args.count c.loop-i.seat.id c.loop-i.seat.me below c.loop-i.invariant.view),
    )

pub loop-i-preserved : goal.loop-i-preserved
loop-i-preserved c =
    let below : c.loop-i.i < c.args.count = omega arith in
    let cut = c.split_seat-mine.ensures in
    let conf : c.heap.inside.config ≡ c.args.heap.now.config = c.heap.invariant.1 ∙ ap (λ (h : SharedHeap). h.config) c.heap.view_is in record {
      table = cut.0 ∙ c.loop-i.invariant.table;
      view = left_after c.args.heap.now.config c.loop-i.i c.args.count c.loop-i.seat.me c.split_seat-mine.new.seat.me below c.loop-i.invariant.view cut.2;
      made = dealt c.args.heap.now.table c.args.heap.now.config c.loop-i.i c.args.count c.loop-i.domains.items c.push.new.self.items c.in_ok-domain.domain below c.loop-i.invariant.made
          (c.in_ok-domain.ensures ∙ (λ i. opening_token ((cut.3 ∙ c.loop-i.invariant.table) i) (conf i) c.loop-i.i))
          c.in_ok-push.ensures.items;
    }

pub make-requires-clause-seat : goal.make-requires-clause-seat
make-requires-clause-seat c =
    let below : c.loop-i.i < c.args.count = omega arith in
    let cut = c.split_seat-mine.ensures in
    let right = right_after c.args.heap.now.config c.loop-i.i c.args.count c.loop-i.seat.me c.split_seat-mine.result.me below c.loop-i.invariant.view cut.4 in
    let conf : c.heap.inside.config ≡ c.args.heap.now.config = c.heap.invariant.1 ∙ ap (λ (h : SharedHeap). h.config) c.heap.view_is in
    right ∙ ap (λ (k : Config). (one k [] (opening_view k c.loop-i.i), [])) (sym conf)
