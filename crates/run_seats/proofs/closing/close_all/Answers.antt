use Rattle.std.proofs.Common.{◌≡◌, ◌∙◌, List, [], ◌∷◌, ◌++◌, append-nil, append_assoc, length, length-append, sym, ap, subst, arith}
use Rattle.std.specs.Vec.Iter.{into_iter_items}
use Rattle.run_seats.specs.declared.closing.Closing.{Closing}
use Rattle.run_seats.specs.Seating.{SeatView}
use Rattle.run_seats.specs.Stopping.{AreClosedFrom, IsClosedOf}
use Rattle.run_seats.proofs.Stopped.{closed_of, none_left}
use Rattle.run_seats.proofs.closing.close_all.Goals as goal

pub seats-preserved : goal.seats-preserved
seats-preserved c =
    let t : Closing = record { run = c.close.new.self } in
    let old : List Closing = c.seats.closing.items in
    let first : List SeatView = into_iter_items c.into_iter-seat-iterator.result in
    let steps = c.in-Some.ensures.steps in
    let one : IsClosedOf c.in-Some.seat t.run = closed_of c.seat.inside.run t.run c.seat.inside.keeper c.in-Some.seat c.seat.invariant c.seat.view_is c.close.ensures in
    let grows : c.push_reserved.new.self.items ≡ old ++ t ∷ [] = c.push_reserved.ensures.items in
    let many = ap (λ (l : List SeatView). length l) steps.0 in
    record {
      closed = λ rest are.
          let both : AreClosedFrom (into_iter_items c.seats.seat-iterator) (t ∷ rest) = subst (λ (l : List SeatView). AreClosedFrom l (t ∷ rest)) (sym steps.0) (one, are) in
          subst (λ (l : List Closing). AreClosedFrom first l) (sym (ap (λ (l : List Closing). l ++ rest) grows ∙ append_assoc old (t ∷ []) rest)) (c.seats.invariant.closed (t ∷ rest) both);
      room = let before = c.seats.invariant.room in let long = ap (λ (l : List Closing). length l) grows ∙ length-append old (t ∷ []) in omega (arith, before, long, many, c.push_reserved.ensures.capacity);
      len = let before = c.seats.invariant.len in let next = steps.1 in omega (arith, before, next, many);
    }

pub returns : goal.returns
returns c =
    let none : into_iter_items c.seats.seat-iterator ≡ [] = none_left (into_iter_items c.seats.seat-iterator) (let before = c.seats.invariant.len in let over = c.in-None.ensures.steps.0 in omega (arith, before, over)) in
    let all : AreClosedFrom (into_iter_items c.into_iter-seat-iterator.result) (c.seats.closing.items ++ []) = c.seats.invariant.closed [] (subst (λ (l : List SeatView). AreClosedFrom l []) (sym none) tt) in
    subst (λ (w : List SeatView × List Closing). AreClosedFrom w.0 w.1) (λ i. (c.into_iter-seat-iterator.ensures.into_iter_gives.0 i, append-nil c.seats.closing.items i)) all
