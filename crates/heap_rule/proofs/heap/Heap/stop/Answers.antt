use Rattle.std.proofs.Common.{◌≡◌, List, [], ◌∷◌, ◌++◌, sym, refl, ap, ◌∙◌, arith}
use Rattle.atomic_table.specs.Table.{Me}
use Rattle.heap_rule.specs.declared.view.DomainView.{DomainView}
use Rattle.heap_rule.specs.declared.view.View.{View}
use Rattle.heap_rule.specs.Token.{Token, SharedHeap}
use Rattle.heap_rule.specs.Ending.{views_back}
use Rattle.heap_rule.proofs.Ends.{popped, popped_views, may_join, may_learn, all_begin, no_item}
use Rattle.heap_rule.proofs.heap.Heap.stop.Goals as goal

pub loop-next-init : goal.loop-next-init
loop-next-init c =
    let out = popped c.args.self c.args.domains.items c.pop.new.self.items c.in-Some.last c.in-Some.ensures.items c.requires.here in
    let alone : c.last.inside.seat.me.0.domains ≡ c.in-Some.last.view ∷ [] =
    ap (λ (m : Me (Unit {0}) View). m.0.domains) c.last.invariant.seat ∙ ap (λ (t : Token). t.view ∷ []) c.last.view_is in record {
      table = ap (λ (t : Token). t.table) c.last.view_is ∙ out.1.0;
      config = ap (λ (m : Me (Unit {0}) View). m.0.config) c.last.invariant.seat ∙ (ap (λ (t : Token). t.config) c.last.view_is ∙ out.1.1);
      empty = ap (λ (m : Me (Unit {0}) View). m.1) c.last.invariant.seat;
      domains_are = ap (λ (l : List DomainView). l ++ views_back c.pop.new.self.items) alone ∙ popped_views [] c.args.domains.items c.pop.new.self.items c.in-Some.last _ c.in-Some.ensures.items refl;
      rest = out.0;
    }

pub join_seat-requires : goal.join_seat-requires
join_seat-requires c =
    let out = popped c.args.self c.loop-next.domains.items c.pop-in-loop-next.new.self.items c.in-Some-pop.next c.in-Some-pop.ensures.items c.loop-next.invariant.rest in
    let table = ap (λ (h : SharedHeap). h.table) c.self.view_is in
    let words = c.self.invariant.0 in (
      c.loop-next.invariant.table ∙ sym table,
      ap (λ (t : Token). t.table) c.next.view_is ∙ (out.1.0 ∙ sym table),
      ap (λ (m : Me (Unit {0}) View). m.1) c.next.invariant.seat,
      omega arith,
      may_join c.self.inside.table.shared.key c.loop-next.seat.id c.loop-next.seat.me.0 c.next.inside.seat.id c.next.inside.seat.me.0
          (ap (λ (m : Me (Unit {0}) View). m.0.config) c.next.invariant.seat ∙ (ap (λ (t : Token). t.config) c.next.view_is ∙ (out.1.1 ∙ sym c.loop-next.invariant.config))),
    )

pub loop-next-preserved : goal.loop-next-preserved
loop-next-preserved c =
    let out = popped c.args.self c.loop-next.domains.items c.pop-in-loop-next.new.self.items c.in-Some-pop.next c.in-Some-pop.ensures.items c.loop-next.invariant.rest in
    let e = c.join_seat.ensures in
    let alone : c.next.inside.seat.me.0.domains ≡ c.in-Some-pop.next.view ∷ [] =
    ap (λ (m : Me (Unit {0}) View). m.0.domains) c.next.invariant.seat ∙ ap (λ (t : Token). t.view ∷ []) c.next.view_is in record {
      table = e.0 ∙ c.loop-next.invariant.table;
      config = ap (λ (m : Me (Unit {0}) View). m.0.config) e.2 ∙ c.loop-next.invariant.config;
      empty = ap (λ (m : Me (Unit {0}) View). m.1) e.2 ∙ c.loop-next.invariant.empty;
      domains_are = ap (λ (l : List DomainView). l ++ views_back c.pop-in-loop-next.new.self.items) (ap (λ (m : Me (Unit {0}) View). m.0.domains) e.2 ∙ ap (λ (l : List DomainView). c.loop-next.seat.me.0.domains ++ l) alone)
          ∙ popped_views c.loop-next.seat.me.0.domains c.loop-next.domains.items c.pop-in-loop-next.new.self.items c.in-Some-pop.next _ c.in-Some-pop.ensures.items c.loop-next.invariant.domains_are;
      rest = out.0;
    }

pub load-requires : goal.load-requires
load-requires c = let words = c.self.invariant.0 in (
  c.loop-next.invariant.table ∙ sym (ap (λ (h : SharedHeap). h.table) c.self.view_is),
  omega arith,
  may_learn c.self.inside.table.shared.key c.self.inside.table.shared.table_id.slots c.loop-next.seat.id 0 c.loop-next.seat.me c.loop-next.invariant.empty
      (c.loop-next.invariant.config ∙ sym (ap (λ (h : SharedHeap). h.config) c.self.view_is)),
)

pub returns-clause-fronts : goal.returns-clause-fronts
returns-clause-fronts c = let cases = c.in_default-pop.ensures.cases in let long = c.loop-next.domains.ok.0 in
    all_begin _ c.loop-next.seat.me.0.domains c.args.domains.items c.loop-next.domains.items (no_item c.loop-next.domains.items (omega arith)) c.loop-next.invariant.domains_are c.load.ensures.2.fronts
