use Rattle.std.proofs.Common.{◌≡◌, ◌∙◌, ◌++◌, ◌∷◌, [], List, append-nil, sym, ap, subst, arith}
use Rattle.atomic_table.specs.Table.{Me}
use Rattle.heap_rule.specs.declared.view.DomainView.{DomainView}
use Rattle.heap_rule.specs.declared.view.View.{View}
use Rattle.heap_rule.specs.Ending.{AllIn}
use Rattle.heap_rule.specs.Raw.{LeavesAll, MayLoadAll, SameOwn}
use Rattle.heap_rule.specs.Token.{SharedHeap, Token, views_of}
use Rattle.heap_rule.specs.Views.{domain_in}
use Rattle.heap_rule.proofs.Closes.{Opened, at_view}
use Rattle.heap_rule.proofs.Ends.{popped}
use Rattle.heap_rule.proofs.Joined.{all_in_snoc, alone_seat, alone_view, first_of_own, no_more, own_count, views_last}
use Rattle.heap_rule.proofs.together.raw_load_all.Goals as goal

pub load_before-seat-requires-clause-table : goal.load_before-seat-requires-clause-table
load_before-seat-requires-clause-table g c =
    let out = popped c.args.heap.now c.args.domains.now.items c.pop.new.self.items c.in-Some.last c.in-Some.ensures.items c.requires.here in
    ap (λ (t : Token). t.table) c.last.view_is ∙ (out.1.0 ∙ sym (ap (λ (h : SharedHeap). h.table) c.heap.view_is))

pub load_before-seat-requires-clause-here : goal.load_before-seat-requires-clause-here
load_before-seat-requires-clause-here g c =
    let out = popped c.args.heap.now c.args.domains.now.items c.pop.new.self.items c.in-Some.last c.in-Some.ensures.items c.requires.here in
    subst (λ (h : SharedHeap). AllIn h c.pop.new.self.items) (sym c.heap.view_is) out.0

pub load_before-seat-requires-clause-seat : goal.load_before-seat-requires-clause-seat
load_before-seat-requires-clause-seat g c =
    let out = popped c.args.heap.now c.args.domains.now.items c.pop.new.self.items c.in-Some.last c.in-Some.ensures.items c.requires.here in
    let o : Opened _ c.args.heap.now _ c.in-Some.last c.last.inside.seat.me = record { heap = c.heap.view_is; token = c.last.view_is; here = out.1; seat = c.last.invariant } in
    (ap (λ (m : Me (Unit {0}) View). m.0.config) (at_view _ _ _ _ _ o), ap (λ (m : Me (Unit {0}) View). m.1) (at_view _ _ _ _ _ o))

pub load_before-seat-requires-clause-may : goal.load_before-seat-requires-clause-may
load_before-seat-requires-clause-may g c =
    let out = popped c.args.heap.now c.args.domains.now.items c.pop.new.self.items c.in-Some.last c.in-Some.ensures.items c.requires.here in
    let o : Opened _ c.args.heap.now _ c.in-Some.last c.last.inside.seat.me = record { heap = c.heap.view_is; token = c.last.view_is; here = out.1; seat = c.last.invariant } in
    let alone : c.last.inside.seat.me.0.domains ≡ c.in-Some.last.view ∷ [] = ap (λ (m : Me (Unit {0}) View). m.0.domains) (at_view _ _ _ _ _ o) ∙ ap (λ (t : Token). t.view ∷ []) c.last.view_is in
    let same : views_of c.args.domains.now.items ≡ views_of c.pop.new.self.items ++ c.last.inside.seat.me.0.domains =
    sym (append-nil (views_of c.args.domains.now.items)) ∙ (views_last c.args.domains.now.items c.pop.new.self.items c.in-Some.last [] c.in-Some.ensures.items ∙ ap (λ (xs : List DomainView). views_of c.pop.new.self.items ++ xs) (sym alone)) in
    subst (λ (p : SharedHeap × List DomainView). MayLoadAll p.0.config p.1 c.args.index g.T.ToldAll.tells_all) (λ i. (sym c.heap.view_is i, same i)) c.requires.may

pub load_before-seat-requires-clause-leaves : goal.load_before-seat-requires-clause-leaves
load_before-seat-requires-clause-leaves g c =
    let out = popped c.args.heap.now c.args.domains.now.items c.pop.new.self.items c.in-Some.last c.in-Some.ensures.items c.requires.here in
    let o : Opened _ c.args.heap.now _ c.in-Some.last c.last.inside.seat.me = record { heap = c.heap.view_is; token = c.last.view_is; here = out.1; seat = c.last.invariant } in
    let alone : c.last.inside.seat.me.0.domains ≡ c.in-Some.last.view ∷ [] = ap (λ (m : Me (Unit {0}) View). m.0.domains) (at_view _ _ _ _ _ o) ∙ ap (λ (t : Token). t.view ∷ []) c.last.view_is in
    let same : views_of c.args.domains.now.items ≡ views_of c.pop.new.self.items ++ c.last.inside.seat.me.0.domains =
    sym (append-nil (views_of c.args.domains.now.items)) ∙ (views_last c.args.domains.now.items c.pop.new.self.items c.in-Some.last [] c.in-Some.ensures.items ∙ ap (λ (xs : List DomainView). views_of c.pop.new.self.items ++ xs) (sym alone)) in
    subst (λ (xs : List DomainView). LeavesAll xs g.T.ToldAll.tells_all) same c.requires.leaves

pub invariant_of-push_reserved : goal.invariant_of-push_reserved
invariant_of-push_reserved g c =
    let out = popped c.args.heap.now c.args.domains.now.items c.pop.new.self.items c.in-Some.last c.in-Some.ensures.items c.requires.here in
    let o : Opened _ c.args.heap.now _ c.in-Some.last c.last.inside.seat.me = record { heap = c.heap.view_is; token = c.last.view_is; here = out.1; seat = c.last.invariant } in
    let alone : c.last.inside.seat.me.0.domains ≡ c.in-Some.last.view ∷ [] = ap (λ (m : Me (Unit {0}) View). m.0.domains) (at_view _ _ _ _ _ o) ∙ ap (λ (t : Token). t.view ∷ []) c.last.view_is in
    let after = c.load_before-seat.ensures in
    let first = first_of_own c.in-Some.last.view [] c.load_before-seat.result.0.me.0.domains (subst (λ (xs : List DomainView). SameOwn xs c.load_before-seat.result.0.me.0.domains) alone after.own) in
    let own = first.own ∙ ap (λ (t : Token). t.view.own) (sym c.last.view_is) in
    let one = first.is ∙ ap (λ (xs : List DomainView). domain_in c.load_before-seat.result.0.me.0.domains ∷ xs) (no_more _ first.rest) in
    let config = after.seat.0 ∙ (ap (λ (h : SharedHeap). h.config) c.heap.view_is ∙ sym (ap (λ (t : Token). t.config) c.last.view_is ∙ out.1.1)) in record {
      seat = alone_seat c.last.inside.config c.last.inside.own c.load_before-seat.result.0.me _ config after.seat.1 one own;
      limits = c.last.invariant.limits;
      fits = c.last.invariant.fits;
    }

pub push_reserved-requires : goal.push_reserved-requires
push_reserved-requires g c =
    let count = own_count c.pop.new.self.items c.load_before-seat.new.domains.items c.load_before-seat.ensures.same in
    let long = c.load_before-seat.new.domains.ok.0 in
    let longer = c.pop.new.self.ok.0 in
    let most = c.args.domains.now.ok.1 in
    let capacity = c.load_before-seat.ensures.room in
    let kept = c.pop.ensures.capacity in
    let less = c.in-Some.ensures.cases in
    omega arith

pub returns-clause-here : goal.returns-clause-here
returns-clause-here g c =
    let out = popped c.args.heap.now c.args.domains.now.items c.pop.new.self.items c.in-Some.last c.in-Some.ensures.items c.requires.here in
    let all = subst (λ (h : SharedHeap). AllIn h c.load_before-seat.new.domains.items) c.heap.view_is c.load_before-seat.ensures.here in
    subst (AllIn c.args.heap.now) (sym c.push_reserved.ensures.items)
    (all_in_snoc c.args.heap.now _ _ all (c.load_before-seat.ensures.table ∙ (ap (λ (t : Token). t.table) c.last.view_is ∙ out.1.0), ap (λ (t : Token). t.config) c.last.view_is ∙ out.1.1))

pub returns-clause-told : goal.returns-clause-told
returns-clause-told g c =
    let out = popped c.args.heap.now c.args.domains.now.items c.pop.new.self.items c.in-Some.last c.in-Some.ensures.items c.requires.here in
    let o : Opened _ c.args.heap.now _ c.in-Some.last c.last.inside.seat.me = record { heap = c.heap.view_is; token = c.last.view_is; here = out.1; seat = c.last.invariant } in
    let alone : c.last.inside.seat.me.0.domains ≡ c.in-Some.last.view ∷ [] = ap (λ (m : Me (Unit {0}) View). m.0.domains) (at_view _ _ _ _ _ o) ∙ ap (λ (t : Token). t.view ∷ []) c.last.view_is in
    let same : views_of c.args.domains.now.items ≡ views_of c.pop.new.self.items ++ c.last.inside.seat.me.0.domains =
    sym (append-nil (views_of c.args.domains.now.items)) ∙ (views_last c.args.domains.now.items c.pop.new.self.items c.in-Some.last [] c.in-Some.ensures.items ∙ ap (λ (xs : List DomainView). views_of c.pop.new.self.items ++ xs) (sym alone)) in
    let after = c.load_before-seat.ensures in
    let first = first_of_own c.in-Some.last.view [] c.load_before-seat.result.0.me.0.domains (subst (λ (xs : List DomainView). SameOwn xs c.load_before-seat.result.0.me.0.domains) alone after.own) in
    let own = first.own ∙ ap (λ (t : Token). t.view.own) (sym c.last.view_is) in
    let one = first.is ∙ ap (λ (xs : List DomainView). domain_in c.load_before-seat.result.0.me.0.domains ∷ xs) (no_more _ first.rest) in
    let view = alone_view c.last.inside.own c.load_before-seat.result.0.me _ one own in
    let now : views_of c.push_reserved.new.self.items ≡ views_of c.load_before-seat.new.domains.items ++ c.load_before-seat.result.0.me.0.domains =
    sym (append-nil (views_of c.push_reserved.new.self.items)) ∙ (views_last c.push_reserved.new.self.items c.load_before-seat.new.domains.items _ [] c.push_reserved.ensures.items ∙ (ap (λ (z : DomainView). views_of c.load_before-seat.new.domains.items ++ z ∷ []) view ∙ ap (λ (xs : List DomainView). views_of c.load_before-seat.new.domains.items ++ xs) (sym one))) in
    subst (λ (p : List DomainView × List DomainView). g.T.ToldAll.tells_all p.0 c.load_before-seat.result.1 p.1) (λ i. (sym same i, sym now i)) after.told
