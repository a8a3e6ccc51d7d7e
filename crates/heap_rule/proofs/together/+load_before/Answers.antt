use Rattle.std.proofs.Common.{◌≡◌, ◌∙◌, ◌++◌, ◌∷◌, [], List, refl, sym, ap, subst, arith}
use Rattle.atomic_table.specs.Table.{Me}
use Rattle.heap_rule.specs.declared.view.DomainView.{DomainView}
use Rattle.heap_rule.specs.declared.view.View.{View}
use Rattle.heap_rule.specs.Ending.{AllIn}
use Rattle.heap_rule.specs.Raw.{LeavesAll, MayLoadAll, SameOwn}
use Rattle.heap_rule.specs.Token.{SharedHeap, Token, views_of}
use Rattle.heap_rule.specs.Views.{rest_of}
use Rattle.heap_rule.proofs.Closes.{Opened, at_view}
use Rattle.heap_rule.proofs.Ends.{may_join, no_item, popped}
use Rattle.heap_rule.proofs.Joined.{all_in_snoc, alone_seat, alone_view, first_of_own, may_cut, may_together, own_count, own_snoc, views_last}
use Rattle.heap_rule.proofs.together.+load_before.Goals as goal

pub load_together-found-requires-clause-rule : goal.load_together-found-requires-clause-rule
load_together-found-requires-clause-rule g t c =
    let cases = c.in_default.ensures.cases in
    let long = c.args.domains.now.ok.0 in
    let none : c.args.domains.now.items ≡ [] = no_item c.args.domains.now.items (omega arith) in
    may_together _ _ c.args.seat.id c.args.index c.args.seat.me c.args.seat.me.0.domains g.T.ToldAll.tells_all c.requires.seat.0 c.requires.seat.1 refl
    (subst (λ (ts : List Token). MayLoadAll c.args.table.now.key (views_of ts ++ c.args.seat.me.0.domains) c.args.index g.T.ToldAll.tells_all) none c.requires.may)

pub join_seat-requires : goal.join_seat-requires
join_seat-requires g t c =
    let h : SharedHeap = record { table = c.args.table.now.table_id; config = c.args.table.now.key } in
    let out = popped h c.args.domains.now.items c.pop.new.self.items c.in-Some.last c.in-Some.ensures.items c.requires.here in
    let o : Opened h h _ c.in-Some.last c.last.inside.seat.me = record { heap = refl; token = c.last.view_is; here = out.1; seat = c.last.invariant } in
    let words = c.requires.inside in (
      ap (λ (t : Token). t.table) c.last.view_is ∙ out.1.0,
      c.requires.table,
      c.requires.seat.1,
      omega arith,
      may_join c.args.table.now.key c.last.inside.seat.id c.last.inside.seat.me.0 c.args.seat.id c.args.seat.me.0 (c.requires.seat.0 ∙ sym (ap (λ (m : Me (Unit {0}) View). m.0.config) (at_view _ _ _ _ _ o))),
    )

pub load_before-rest-requires : goal.load_before-rest-requires
load_before-rest-requires g t c κs within =
    let h : SharedHeap = record { table = c.args.table.now.table_id; config = c.args.table.now.key } in
    let out = popped h c.args.domains.now.items c.pop.new.self.items c.in-Some.last c.in-Some.ensures.items c.requires.here in
    let o : Opened h h _ c.in-Some.last c.last.inside.seat.me = record { heap = refl; token = c.last.view_is; here = out.1; seat = c.last.invariant } in
    let both = c.join_seat.ensures in
    let alone : c.last.inside.seat.me.0.domains ≡ c.in-Some.last.view ∷ [] = ap (λ (m : Me (Unit {0}) View). m.0.domains) (at_view _ _ _ _ _ o) ∙ ap (λ (t : Token). t.view ∷ []) c.last.view_is in
    let domains : c.join_seat.new.seat.me.0.domains ≡ c.in-Some.last.view ∷ c.args.seat.me.0.domains = ap (λ (m : Me (Unit {0}) View). m.0.domains) both.2 ∙ ap (λ (xs : List DomainView). xs ++ c.args.seat.me.0.domains) alone in
    let same : views_of c.args.domains.now.items ++ c.args.seat.me.0.domains ≡ views_of c.pop.new.self.items ++ c.join_seat.new.seat.me.0.domains =
    views_last c.args.domains.now.items c.pop.new.self.items c.in-Some.last c.args.seat.me.0.domains c.in-Some.ensures.items ∙ ap (λ (xs : List DomainView). views_of c.pop.new.self.items ++ xs) (sym domains) in
    let less = c.in-Some.ensures.cases in
    let longer = c.pop.new.self.ok.0 in
    let long = c.args.domains.now.ok.0 in (
      omega arith,
      (
        within,
        (
          both.0 ∙ (ap (λ (t : Token). t.table) c.last.view_is ∙ out.1.0),
          (
            out.0,
            (
              (ap (λ (m : Me (Unit {0}) View). m.0.config) both.2 ∙ ap (λ (m : Me (Unit {0}) View). m.0.config) (at_view _ _ _ _ _ o), ap (λ (m : Me (Unit {0}) View). m.1) both.2 ∙ ap (λ (m : Me (Unit {0}) View). m.1) (at_view _ _ _ _ _ o)),
              (c.requires.inside, (subst (λ (xs : List DomainView). MayLoadAll c.args.table.now.key xs c.args.index g.T.ToldAll.tells_all) same c.requires.may, subst (λ (xs : List DomainView). LeavesAll xs g.T.ToldAll.tells_all) same c.requires.leaves)),
            ),
          ),
        ),
      ),
    )

pub split_seat-seat-requires : goal.split_seat-seat-requires
split_seat-seat-requires g t c =
    let h : SharedHeap = record { table = c.args.table.now.table_id; config = c.args.table.now.key } in
    let out = popped h c.args.domains.now.items c.pop.new.self.items c.in-Some.last c.in-Some.ensures.items c.requires.here in
    let o : Opened h h _ c.in-Some.last c.last.inside.seat.me = record { heap = refl; token = c.last.view_is; here = out.1; seat = c.last.invariant } in
    let both = c.join_seat.ensures in
    let alone : c.last.inside.seat.me.0.domains ≡ c.in-Some.last.view ∷ [] = ap (λ (m : Me (Unit {0}) View). m.0.domains) (at_view _ _ _ _ _ o) ∙ ap (λ (t : Token). t.view ∷ []) c.last.view_is in
    let domains : c.join_seat.new.seat.me.0.domains ≡ c.in-Some.last.view ∷ c.args.seat.me.0.domains = ap (λ (m : Me (Unit {0}) View). m.0.domains) both.2 ∙ ap (λ (xs : List DomainView). xs ++ c.args.seat.me.0.domains) alone in
    let rest = c.load_before-rest.ensures in
    let first = first_of_own c.in-Some.last.view c.args.seat.me.0.domains c.load_before-rest.result.0.me.0.domains (subst (λ (xs : List DomainView). SameOwn xs c.load_before-rest.result.0.me.0.domains) domains rest.own) in
    let words = c.requires.inside in (
      rest.table ∙ (both.0 ∙ (ap (λ (t : Token). t.table) c.last.view_is ∙ out.1.0)),
      omega arith,
      may_cut c.args.table.now.key c.load_before-rest.result.0.id c.load_before-rest.result.0.me.0 _ _ rest.seat.0 first.is,
    )

pub invariant_of-push_reserved : goal.invariant_of-push_reserved
invariant_of-push_reserved g t c =
    let h : SharedHeap = record { table = c.args.table.now.table_id; config = c.args.table.now.key } in
    let out = popped h c.args.domains.now.items c.pop.new.self.items c.in-Some.last c.in-Some.ensures.items c.requires.here in
    let o : Opened h h _ c.in-Some.last c.last.inside.seat.me = record { heap = refl; token = c.last.view_is; here = out.1; seat = c.last.invariant } in
    let both = c.join_seat.ensures in
    let alone : c.last.inside.seat.me.0.domains ≡ c.in-Some.last.view ∷ [] = ap (λ (m : Me (Unit {0}) View). m.0.domains) (at_view _ _ _ _ _ o) ∙ ap (λ (t : Token). t.view ∷ []) c.last.view_is in
    let domains : c.join_seat.new.seat.me.0.domains ≡ c.in-Some.last.view ∷ c.args.seat.me.0.domains = ap (λ (m : Me (Unit {0}) View). m.0.domains) both.2 ∙ ap (λ (xs : List DomainView). xs ++ c.args.seat.me.0.domains) alone in
    let rest = c.load_before-rest.ensures in
    let first = first_of_own c.in-Some.last.view c.args.seat.me.0.domains c.load_before-rest.result.0.me.0.domains (subst (λ (xs : List DomainView). SameOwn xs c.load_before-rest.result.0.me.0.domains) domains rest.own) in
    let own = first.own ∙ ap (λ (t : Token). t.view.own) (sym c.last.view_is) in
    let cut = c.split_seat-seat.ensures.4 in
    let config = ap (λ (m : Me (Unit {0}) View). m.0.config) cut ∙ (rest.seat.0 ∙ sym (ap (λ (t : Token). t.config) c.last.view_is ∙ out.1.1)) in record {
      seat = alone_seat c.last.inside.config c.last.inside.own c.split_seat-seat.result.me _ config (ap (λ (m : Me (Unit {0}) View). m.1) cut) (ap (λ (m : Me (Unit {0}) View). m.0.domains) cut) own;
      limits = c.last.invariant.limits;
      fits = c.last.invariant.fits;
    }

pub push_reserved-requires : goal.push_reserved-requires
push_reserved-requires g t c =
    let count = own_count c.pop.new.self.items c.load_before-rest.new.domains.items c.load_before-rest.ensures.same in
    let long = c.load_before-rest.new.domains.ok.0 in
    let longer = c.pop.new.self.ok.0 in
    let most = c.args.domains.now.ok.1 in
    let capacity = c.load_before-rest.ensures.room in
    let kept = c.pop.ensures.capacity in
    let less = c.in-Some.ensures.cases in
    omega arith

pub returns-clause-table : goal.returns-clause-table
returns-clause-table g t c =
    let h : SharedHeap = record { table = c.args.table.now.table_id; config = c.args.table.now.key } in
    let out = popped h c.args.domains.now.items c.pop.new.self.items c.in-Some.last c.in-Some.ensures.items c.requires.here in
    c.split_seat-seat.ensures.0 ∙ (c.load_before-rest.ensures.table ∙ (c.join_seat.ensures.0 ∙ (ap (λ (t : Token). t.table) c.last.view_is ∙ (out.1.0 ∙ sym c.requires.table))))

pub returns-clause-here : goal.returns-clause-here
returns-clause-here g t c =
    let h : SharedHeap = record { table = c.args.table.now.table_id; config = c.args.table.now.key } in
    let out = popped h c.args.domains.now.items c.pop.new.self.items c.in-Some.last c.in-Some.ensures.items c.requires.here in
    subst (AllIn h) (sym c.push_reserved.ensures.items) (all_in_snoc h _ _ c.load_before-rest.ensures.here
    (c.split_seat-seat.ensures.3 ∙ (c.load_before-rest.ensures.table ∙ (c.join_seat.ensures.0 ∙ (ap (λ (t : Token). t.table) c.last.view_is ∙ out.1.0))), ap (λ (t : Token). t.config) c.last.view_is ∙ out.1.1))

pub returns-clause-told : goal.returns-clause-told
returns-clause-told g t c =
    let h : SharedHeap = record { table = c.args.table.now.table_id; config = c.args.table.now.key } in
    let out = popped h c.args.domains.now.items c.pop.new.self.items c.in-Some.last c.in-Some.ensures.items c.requires.here in
    let o : Opened h h _ c.in-Some.last c.last.inside.seat.me = record { heap = refl; token = c.last.view_is; here = out.1; seat = c.last.invariant } in
    let both = c.join_seat.ensures in
    let alone : c.last.inside.seat.me.0.domains ≡ c.in-Some.last.view ∷ [] = ap (λ (m : Me (Unit {0}) View). m.0.domains) (at_view _ _ _ _ _ o) ∙ ap (λ (t : Token). t.view ∷ []) c.last.view_is in
    let domains : c.join_seat.new.seat.me.0.domains ≡ c.in-Some.last.view ∷ c.args.seat.me.0.domains = ap (λ (m : Me (Unit {0}) View). m.0.domains) both.2 ∙ ap (λ (xs : List DomainView). xs ++ c.args.seat.me.0.domains) alone in
    let same : views_of c.args.domains.now.items ++ c.args.seat.me.0.domains ≡ views_of c.pop.new.self.items ++ c.join_seat.new.seat.me.0.domains =
    views_last c.args.domains.now.items c.pop.new.self.items c.in-Some.last c.args.seat.me.0.domains c.in-Some.ensures.items ∙ ap (λ (xs : List DomainView). views_of c.pop.new.self.items ++ xs) (sym domains) in
    let rest = c.load_before-rest.ensures in
    let first = first_of_own c.in-Some.last.view c.args.seat.me.0.domains c.load_before-rest.result.0.me.0.domains (subst (λ (xs : List DomainView). SameOwn xs c.load_before-rest.result.0.me.0.domains) domains rest.own) in
    let own = first.own ∙ ap (λ (t : Token). t.view.own) (sym c.last.view_is) in
    let view = alone_view c.last.inside.own c.split_seat-seat.result.me _ (ap (λ (m : Me (Unit {0}) View). m.0.domains) c.split_seat-seat.ensures.4) own in
    let left : c.split_seat-seat.new.seat.me.0.domains ≡ rest_of c.load_before-rest.result.0.me.0.domains = ap (λ (m : Me (Unit {0}) View). m.0.domains) c.split_seat-seat.ensures.2 in
    let after : views_of c.push_reserved.new.self.items ++ c.split_seat-seat.new.seat.me.0.domains ≡ views_of c.load_before-rest.new.domains.items ++ c.load_before-rest.result.0.me.0.domains =
    views_last c.push_reserved.new.self.items c.load_before-rest.new.domains.items _ c.split_seat-seat.new.seat.me.0.domains c.push_reserved.ensures.items ∙ ((λ i. views_of c.load_before-rest.new.domains.items ++ view i ∷ left i) ∙ ap (λ (xs : List DomainView). views_of c.load_before-rest.new.domains.items ++ xs) (sym first.is)) in
    subst (λ (p : List DomainView × List DomainView). g.T.ToldAll.tells_all p.0 c.load_before-rest.result.1 p.1) (λ i. (sym same i, sym after i)) rest.told

pub returns-clause-same : goal.returns-clause-same
returns-clause-same g t c =
    let own : c.last.inside.own ≡ c.in-Some.last.view.own = ap (λ (t : Token). t.view.own) c.last.view_is in
    subst (λ (p : List Token × List Token). SameOwn (views_of p.0) (views_of p.1)) (λ i. (sym c.in-Some.ensures.items i, sym c.push_reserved.ensures.items i)) (own_snoc c.pop.new.self.items c.load_before-rest.new.domains.items c.in-Some.last _ c.load_before-rest.ensures.same own)
