use Rattle.std.proofs.Common.{◌≡◌, ◌∙◌, List, [], ◌∷◌, ◌++◌, append-nil, append_assoc, length, length-append, sym, ap, subst, arith}
use Rattle.std.specs.Vec.Iter.{into_iter_items}
use Rattle.example_handles.specs.Handling.{AllHandlesOf, Did, EachDid, HandlesView}
use Rattle.example_handles.proofs.Ending.{did_one, none_left, still_of}
use Rattle.example_handles.proofs.heaps.perform_each.Goals as goal

pub resume-handles-requires : goal.resume-handles-requires
resume-handles-requires g c = record { here = (subst (AllHandlesOf c.args.seats.now) c.in-Some.ensures.steps.0 c.each.invariant.here).0 }

pub perform-requires-clause-here : goal.perform-requires-clause-here
perform-requires-clause-here g c = still_of c.args.seats.now c.in-Some.resting.seat c.resume-handles.result.seat c.resume-handles.ensures.seat (subst (AllHandlesOf c.args.seats.now) c.in-Some.ensures.steps.0 c.each.invariant.here).0

pub rest-requires : goal.rest-requires
rest-requires g c = record {
  here = still_of c.args.seats.now c.resume-handles.result.seat c.perform.new.self.seat c.perform.ensures.seat
      (still_of c.args.seats.now c.in-Some.resting.seat c.resume-handles.result.seat c.resume-handles.ensures.seat (subst (AllHandlesOf c.args.seats.now) c.in-Some.ensures.steps.0 c.each.invariant.here).0);
}

pub each-preserved : goal.each-preserved
each-preserved g c =
    let x : HandlesView = c.in-Some.resting in
    let y : HandlesView = c.rest.result in
    let old : List HandlesView = c.each.done.items in
    let first : List HandlesView = into_iter_items c.into_iter-resting-iterator.result in
    let steps = c.in-Some.ensures.steps in
    let up = c.resume-handles.ensures in
    let did = c.perform.ensures in
    let one : Did c.args.command x y = subst (Did c.args.command x) (sym c.rest.ensures.same)
    (did_one x c.resume-handles.result c.perform.new.self c.args.command c.perform.result up.seat up.most up.along up.settles did.seat did.most did.performed did.settles c.is_kept.ensures) in
    let grows : c.push_reserved.new.self.items ≡ old ++ y ∷ [] = c.push_reserved.ensures.items in
    let many = ap (λ (l : List HandlesView). length l) steps.0 in
    record {
      did = λ rest are.
          let both : EachDid c.args.command (into_iter_items c.each.resting-iterator) (y ∷ rest) = subst (λ (l : List HandlesView). EachDid c.args.command l (y ∷ rest)) (sym steps.0) (one, are) in
          subst (λ (l : List HandlesView). EachDid c.args.command first l) (sym (ap (λ (l : List HandlesView). l ++ rest) grows ∙ append_assoc old (y ∷ []) rest)) (c.each.invariant.did (y ∷ rest) both);
      here = (subst (AllHandlesOf c.args.seats.now) steps.0 c.each.invariant.here).1;
      room = let before = c.each.invariant.room in let long = ap (λ (l : List HandlesView). length l) grows ∙ length-append old (y ∷ []) in omega (arith, before, long, many, c.push_reserved.ensures.capacity);
      len = let before = c.each.invariant.len in let next = steps.1 in omega (arith, before, next, many);
    }

pub returns : goal.returns
returns g c =
    let none : into_iter_items c.each.resting-iterator ≡ [] = none_left (into_iter_items c.each.resting-iterator) (let before = c.each.invariant.len in let over = c.in-None.ensures.steps.0 in omega (arith, before, over)) in
    let all : EachDid c.args.command (into_iter_items c.into_iter-resting-iterator.result) (c.each.done.items ++ []) = c.each.invariant.did [] (subst (λ (l : List HandlesView). EachDid c.args.command l []) (sym none) tt) in
    subst (λ (w : List HandlesView × List HandlesView). EachDid c.args.command w.0 w.1) (λ i. (c.into_iter-resting-iterator.ensures.into_iter_gives.0 i, append-nil c.each.done.items i)) all
