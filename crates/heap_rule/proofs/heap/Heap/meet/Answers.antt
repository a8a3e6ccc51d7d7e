use Rattle.std.proofs.Common.{◌≡◌, ◌∙◌, ◌∷◌, [], List, refl, sym, ap, subst, arith}
use Rattle.atomic_table.specs.Table.{Me}
use Rattle.heap_rule.specs.declared.config.Config.{Config}
use Rattle.heap_rule.specs.declared.view.DomainView.{DomainView}
use Rattle.heap_rule.specs.declared.view.View.{View}
use Rattle.heap_rule.specs.Meeting.{Levels}
use Rattle.heap_rule.specs.Token.{Token, SharedHeap}
use Rattle.heap_rule.specs.Views.{domain_in, rest_of}
use Rattle.heap_rule.proofs.Closes.{Opened, at_view}
use Rattle.heap_rule.proofs.Ends.{may_join}
use Rattle.heap_rule.proofs.Joined.{alone_seat, alone_view, may_cut, may_together}
use Rattle.heap_rule.proofs.Meetings.{levels, two_agree, two_copies, two_met, two_paused, two_told}
use Rattle.heap_rule.proofs.heap.Heap.meet.Goals as goal

pub join_seat-requires : goal.join_seat-requires
join_seat-requires c =
    let a : Opened _ c.args.self.now _ c.args.a c.a.inside.seat.me = record { heap = c.self.view_is; token = c.a.view_is; here = c.requires.here.0; seat = c.a.invariant } in
    let b : Opened _ c.args.self.now _ c.args.b c.b.inside.seat.me = record { heap = c.self.view_is; token = c.b.view_is; here = c.requires.here.1; seat = c.b.invariant } in
    let table = ap (λ (h : SharedHeap). h.table) c.self.view_is in
    let words = c.self.invariant.0 in
    let config = λ (m : Me (Unit {0}) View). m.0.config in (
      ap (λ (t : Token). t.table) c.a.view_is ∙ (c.requires.here.0.0 ∙ sym table),
      ap (λ (t : Token). t.table) c.b.view_is ∙ (c.requires.here.1.0 ∙ sym table),
      ap (λ (m : Me (Unit {0}) View). m.1) c.b.invariant.seat,
      omega arith,
      may_join c.self.inside.table.shared.key c.a.inside.seat.id c.a.inside.seat.me.0 c.b.inside.seat.id c.b.inside.seat.me.0 (ap config (at_view _ _ _ _ _ b) ∙ sym (ap config (at_view _ _ _ _ _ a))),
    )

pub load_together-requires-clause-rule : goal.load_together-requires-clause-rule
load_together-requires-clause-rule c =
    let a : Opened _ c.args.self.now _ c.args.a c.a.inside.seat.me = record { heap = c.self.view_is; token = c.a.view_is; here = c.requires.here.0; seat = c.a.invariant } in
    let b : Opened _ c.args.self.now _ c.args.b c.b.inside.seat.me = record { heap = c.self.view_is; token = c.b.view_is; here = c.requires.here.1; seat = c.b.invariant } in
    let both = c.join_seat.ensures.2 in
    may_together c.self.inside.table.shared.key c.self.inside.table.shared.table_id.slots c.join_seat.new.seat.id 0 c.join_seat.new.seat.me c.join_seat.new.seat.me.0.domains (Levels c.self.inside.table.shared.key)
    (ap (λ (m : Me (Unit {0}) View). m.0.config) both ∙ ap (λ (m : Me (Unit {0}) View). m.0.config) (at_view _ _ _ _ _ a)) (ap (λ (m : Me (Unit {0}) View). m.1) both ∙ ap (λ (m : Me (Unit {0}) View). m.1) (at_view _ _ _ _ _ a)) refl
    (levels c.self.inside.table.shared.key c.join_seat.new.seat.me.0.domains 0)

pub split_seat-first-requires : goal.split_seat-first-requires
split_seat-first-requires c =
    let a : Opened _ c.args.self.now _ c.args.a c.a.inside.seat.me = record { heap = c.self.view_is; token = c.a.view_is; here = c.requires.here.0; seat = c.a.invariant } in
    let b : Opened _ c.args.self.now _ c.args.b c.b.inside.seat.me = record { heap = c.self.view_is; token = c.b.view_is; here = c.requires.here.1; seat = c.b.invariant } in
    let one : c.a.inside.seat.me.0.domains ≡ c.args.a.view ∷ [] = ap (λ (m : Me (Unit {0}) View). m.0.domains) (at_view _ _ _ _ _ a) ∙ ap (λ (t : Token). t.view ∷ []) c.a.view_is in
    let two : c.b.inside.seat.me.0.domains ≡ c.args.b.view ∷ [] = ap (λ (m : Me (Unit {0}) View). m.0.domains) (at_view _ _ _ _ _ b) ∙ ap (λ (t : Token). t.view ∷ []) c.b.view_is in
    let told = two_told c.self.inside.table.shared.key c.a.inside.seat.me c.b.inside.seat.me c.join_seat.new.seat.me c.load_together.new.seat.me c.args.a.view c.args.b.view c.load_together.result one two c.join_seat.ensures.2 c.load_together.ensures.told in
    let words = c.self.invariant.0 in
    let config = λ (m : Me (Unit {0}) View). m.0.config in (
      c.load_together.ensures.same ∙ (c.join_seat.ensures.0 ∙ (ap (λ (t : Token). t.table) c.a.view_is ∙ (c.requires.here.0.0 ∙ sym (ap (λ (h : SharedHeap). h.table) c.self.view_is)))),
      omega arith,
      may_cut c.self.inside.table.shared.key c.load_together.new.seat.id c.load_together.new.seat.me.0 _ _ (ap config c.load_together.ensures.told.1 ∙ (ap config c.join_seat.ensures.2 ∙ ap config (at_view _ _ _ _ _ a))) told.seen,
    )

pub invariant_of-first : goal.invariant_of-first
invariant_of-first c =
    let a : Opened _ c.args.self.now _ c.args.a c.a.inside.seat.me = record { heap = c.self.view_is; token = c.a.view_is; here = c.requires.here.0; seat = c.a.invariant } in
    let b : Opened _ c.args.self.now _ c.args.b c.b.inside.seat.me = record { heap = c.self.view_is; token = c.b.view_is; here = c.requires.here.1; seat = c.b.invariant } in
    let one : c.a.inside.seat.me.0.domains ≡ c.args.a.view ∷ [] = ap (λ (m : Me (Unit {0}) View). m.0.domains) (at_view _ _ _ _ _ a) ∙ ap (λ (t : Token). t.view ∷ []) c.a.view_is in
    let two : c.b.inside.seat.me.0.domains ≡ c.args.b.view ∷ [] = ap (λ (m : Me (Unit {0}) View). m.0.domains) (at_view _ _ _ _ _ b) ∙ ap (λ (t : Token). t.view ∷ []) c.b.view_is in
    let told = two_told c.self.inside.table.shared.key c.a.inside.seat.me c.b.inside.seat.me c.join_seat.new.seat.me c.load_together.new.seat.me c.args.a.view c.args.b.view c.load_together.result one two c.join_seat.ensures.2 c.load_together.ensures.told in
    let cut = c.split_seat-first.ensures.4 in
    let config = λ (m : Me (Unit {0}) View). m.0.config in
    let alone = ap (λ (m : Me (Unit {0}) View). m.0.domains) cut ∙ ap (λ (xs : List DomainView). domain_in xs ∷ []) told.seen in record {
      seat = alone_seat c.a.inside.config c.a.inside.own c.split_seat-first.result.me _ (ap config cut ∙ (ap config c.load_together.ensures.told.1 ∙ (ap config c.join_seat.ensures.2 ∙ ap config c.a.invariant.seat))) (ap (λ (m : Me (Unit {0}) View). m.1) cut) alone
          (sym (ap (λ (t : Token). t.view.own) c.a.view_is));
      limits = c.a.invariant.limits;
      fits = c.a.invariant.fits;
    }

pub invariant_of-second : goal.invariant_of-second
invariant_of-second c =
    let a : Opened _ c.args.self.now _ c.args.a c.a.inside.seat.me = record { heap = c.self.view_is; token = c.a.view_is; here = c.requires.here.0; seat = c.a.invariant } in
    let b : Opened _ c.args.self.now _ c.args.b c.b.inside.seat.me = record { heap = c.self.view_is; token = c.b.view_is; here = c.requires.here.1; seat = c.b.invariant } in
    let one : c.a.inside.seat.me.0.domains ≡ c.args.a.view ∷ [] = ap (λ (m : Me (Unit {0}) View). m.0.domains) (at_view _ _ _ _ _ a) ∙ ap (λ (t : Token). t.view ∷ []) c.a.view_is in
    let two : c.b.inside.seat.me.0.domains ≡ c.args.b.view ∷ [] = ap (λ (m : Me (Unit {0}) View). m.0.domains) (at_view _ _ _ _ _ b) ∙ ap (λ (t : Token). t.view ∷ []) c.b.view_is in
    let told = two_told c.self.inside.table.shared.key c.a.inside.seat.me c.b.inside.seat.me c.join_seat.new.seat.me c.load_together.new.seat.me c.args.a.view c.args.b.view c.load_together.result one two c.join_seat.ensures.2 c.load_together.ensures.told in
    let left = c.split_seat-first.ensures.2 in
    let empty = λ (m : Me (Unit {0}) View). m.1 in
    let config = λ (m : Me (Unit {0}) View). m.0.config in
    let alone = ap (λ (m : Me (Unit {0}) View). m.0.domains) left ∙ ap rest_of told.seen in record {
      seat = alone_seat c.b.inside.config c.b.inside.own c.split_seat-first.new.seat.me _
          (ap config left ∙ (ap config c.load_together.ensures.told.1 ∙ (ap config c.join_seat.ensures.2 ∙ (ap config (at_view _ _ _ _ _ a) ∙ (sym (ap config (at_view _ _ _ _ _ b)) ∙ ap config c.b.invariant.seat)))))
          (ap empty left ∙ (ap empty c.load_together.ensures.told.1 ∙ (ap empty c.join_seat.ensures.2 ∙ ap empty c.a.invariant.seat))) alone
          (sym (ap (λ (t : Token). t.view.own) c.b.view_is));
      limits = c.b.invariant.limits;
      fits = c.b.invariant.fits;
    }

pub returns-clause-agree : goal.returns-clause-agree
returns-clause-agree c =
    let a : Opened _ c.args.self.now _ c.args.a c.a.inside.seat.me = record { heap = c.self.view_is; token = c.a.view_is; here = c.requires.here.0; seat = c.a.invariant } in
    let b : Opened _ c.args.self.now _ c.args.b c.b.inside.seat.me = record { heap = c.self.view_is; token = c.b.view_is; here = c.requires.here.1; seat = c.b.invariant } in
    let one : c.a.inside.seat.me.0.domains ≡ c.args.a.view ∷ [] = ap (λ (m : Me (Unit {0}) View). m.0.domains) (at_view _ _ _ _ _ a) ∙ ap (λ (t : Token). t.view ∷ []) c.a.view_is in
    let two : c.b.inside.seat.me.0.domains ≡ c.args.b.view ∷ [] = ap (λ (m : Me (Unit {0}) View). m.0.domains) (at_view _ _ _ _ _ b) ∙ ap (λ (t : Token). t.view ∷ []) c.b.view_is in
    let told = two_told c.self.inside.table.shared.key c.a.inside.seat.me c.b.inside.seat.me c.join_seat.new.seat.me c.load_together.new.seat.me c.args.a.view c.args.b.view c.load_together.result one two c.join_seat.ensures.2 c.load_together.ensures.told in
    two_agree c.self.inside.table.shared.key c.args.a.view c.args.b.view c.load_together.result c.load_together.new.seat.me.0.domains told

pub returns-clause-one_pause : goal.returns-clause-one_pause
returns-clause-one_pause c =
    let a : Opened _ c.args.self.now _ c.args.a c.a.inside.seat.me = record { heap = c.self.view_is; token = c.a.view_is; here = c.requires.here.0; seat = c.a.invariant } in
    let b : Opened _ c.args.self.now _ c.args.b c.b.inside.seat.me = record { heap = c.self.view_is; token = c.b.view_is; here = c.requires.here.1; seat = c.b.invariant } in
    let one : c.a.inside.seat.me.0.domains ≡ c.args.a.view ∷ [] = ap (λ (m : Me (Unit {0}) View). m.0.domains) (at_view _ _ _ _ _ a) ∙ ap (λ (t : Token). t.view ∷ []) c.a.view_is in
    let two : c.b.inside.seat.me.0.domains ≡ c.args.b.view ∷ [] = ap (λ (m : Me (Unit {0}) View). m.0.domains) (at_view _ _ _ _ _ b) ∙ ap (λ (t : Token). t.view ∷ []) c.b.view_is in
    let told = two_told c.self.inside.table.shared.key c.a.inside.seat.me c.b.inside.seat.me c.join_seat.new.seat.me c.load_together.new.seat.me c.args.a.view c.args.b.view c.load_together.result one two c.join_seat.ensures.2 c.load_together.ensures.told in
    two_paused c.self.inside.table.shared.key c.args.a.view c.args.b.view c.load_together.result c.load_together.new.seat.me.0.domains told

pub returns-clause-copies : goal.returns-clause-copies
returns-clause-copies c =
    let a : Opened _ c.args.self.now _ c.args.a c.a.inside.seat.me = record { heap = c.self.view_is; token = c.a.view_is; here = c.requires.here.0; seat = c.a.invariant } in
    let b : Opened _ c.args.self.now _ c.args.b c.b.inside.seat.me = record { heap = c.self.view_is; token = c.b.view_is; here = c.requires.here.1; seat = c.b.invariant } in
    let one : c.a.inside.seat.me.0.domains ≡ c.args.a.view ∷ [] = ap (λ (m : Me (Unit {0}) View). m.0.domains) (at_view _ _ _ _ _ a) ∙ ap (λ (t : Token). t.view ∷ []) c.a.view_is in
    let two : c.b.inside.seat.me.0.domains ≡ c.args.b.view ∷ [] = ap (λ (m : Me (Unit {0}) View). m.0.domains) (at_view _ _ _ _ _ b) ∙ ap (λ (t : Token). t.view ∷ []) c.b.view_is in
    let told = two_told c.self.inside.table.shared.key c.a.inside.seat.me c.b.inside.seat.me c.join_seat.new.seat.me c.load_together.new.seat.me c.args.a.view c.args.b.view c.load_together.result one two c.join_seat.ensures.2 c.load_together.ensures.told in
    two_copies c.self.inside.table.shared.key c.args.a.view c.args.b.view c.load_together.result c.load_together.new.seat.me.0.domains told

pub returns-clause-met : goal.returns-clause-met
returns-clause-met c =
    let a : Opened _ c.args.self.now _ c.args.a c.a.inside.seat.me = record { heap = c.self.view_is; token = c.a.view_is; here = c.requires.here.0; seat = c.a.invariant } in
    let b : Opened _ c.args.self.now _ c.args.b c.b.inside.seat.me = record { heap = c.self.view_is; token = c.b.view_is; here = c.requires.here.1; seat = c.b.invariant } in
    let one : c.a.inside.seat.me.0.domains ≡ c.args.a.view ∷ [] = ap (λ (m : Me (Unit {0}) View). m.0.domains) (at_view _ _ _ _ _ a) ∙ ap (λ (t : Token). t.view ∷ []) c.a.view_is in
    let two : c.b.inside.seat.me.0.domains ≡ c.args.b.view ∷ [] = ap (λ (m : Me (Unit {0}) View). m.0.domains) (at_view _ _ _ _ _ b) ∙ ap (λ (t : Token). t.view ∷ []) c.b.view_is in
    let told = two_told c.self.inside.table.shared.key c.a.inside.seat.me c.b.inside.seat.me c.join_seat.new.seat.me c.load_together.new.seat.me c.args.a.view c.args.b.view c.load_together.result one two c.join_seat.ensures.2 c.load_together.ensures.told in
    let first_own = sym (ap (λ (t : Token). t.view.own) c.a.view_is) in
    let second_own = sym (ap (λ (t : Token). t.view.own) c.b.view_is) in
    let first = alone_view c.a.inside.own c.split_seat-first.result.me _ (ap (λ (m : Me (Unit {0}) View). m.0.domains) c.split_seat-first.ensures.4 ∙ ap (λ (xs : List DomainView). domain_in xs ∷ []) told.seen) first_own in
    let second = alone_view c.b.inside.own c.split_seat-first.new.seat.me _ (ap (λ (m : Me (Unit {0}) View). m.0.domains) c.split_seat-first.ensures.2 ∙ ap rest_of told.seen) second_own in
    let table = c.load_together.ensures.same ∙ (c.join_seat.ensures.0 ∙ (ap (λ (t : Token). t.table) c.a.view_is ∙ c.requires.here.0.0)) in
    two_met c.args.self.now.config c.args.self.now c.args.a c.args.b _ _ c.load_together.result c.requires.here
    ((c.split_seat-first.ensures.3 ∙ table, ap (λ (t : Token). t.config) c.a.view_is ∙ c.requires.here.0.1), (c.split_seat-first.ensures.0 ∙ table, ap (λ (t : Token). t.config) c.b.view_is ∙ c.requires.here.1.1))
    (subst (λ (p : Config × List DomainView). Levels p.0 (c.args.a.view ∷ c.args.b.view ∷ []) c.load_together.result p.1)
    (λ i. (ap (λ (h : SharedHeap). h.config) c.self.view_is i, (told.seen ∙ (λ j. sym first j ∷ sym second j ∷ [])) i)) told)
