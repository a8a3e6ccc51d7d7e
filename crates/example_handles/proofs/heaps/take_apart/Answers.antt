use Rattle.std.proofs.Common.{◌≡◌, ◌∙◌, List, [], ◌∷◌, ◌++◌, append-nil, append_assoc, length, length-append, map, sym, ap, subst, arith}
use Rattle.std.proofs.lemmas.List.{map-append}
use Rattle.std.specs.Vec.Iter.{into_iter_items}
use Rattle.run_seats.specs.Seating.{SeatView}
use Rattle.example_handles.specs.declared.resource.Resource.{Resource}
use Rattle.example_handles.specs.Handling.{AllHandlesOf, HandlesView, Parts, PartsEach}
use Rattle.example_handles.proofs.Ending.{none_left, parts_one}
use Rattle.example_handles.proofs.heaps.take_apart.Goals as goal

pub resume-handles-requires : goal.resume-handles-requires
resume-handles-requires g c = record { here = (subst (AllHandlesOf c.args.seats.now) c.in-Some.ensures.steps.0 c.each.invariant.here).0 }

pub each-preserved : goal.each-preserved
each-preserved g c =
    let x : HandlesView = c.in-Some.resting in
    let h : HandlesView = c.resume-handles.result in
    let s : SeatView = c.handles.inside.seat in
    let rs : List Resource = c.handles.inside.resources.items in
    let first : List HandlesView = into_iter_items c.into_iter-resting-iterator.result in
    let steps = c.in-Some.ensures.steps in
    let up = c.resume-handles.ensures in
    let one : Parts x s rs = subst (λ (v : HandlesView). Parts x v.seat v.resources) (sym c.handles.view_is) (parts_one x h up.seat up.most up.along up.settles c.is_kept.ensures) in
    let seats_grow : c.push_reserved.new.self.items ≡ c.each.back.items ++ s ∷ [] = c.push_reserved.ensures.items in
    let lists_grow : map (λ v. v.items) c.push_reserved-in-each.new.self.items ≡ map (λ v. v.items) c.each.left.items ++ rs ∷ [] = ap (map (λ v. v.items)) c.push_reserved-in-each.ensures.items ∙ map-append (λ v. v.items) c.each.left.items (c.handles.inside.resources ∷ []) in
    let many = ap (λ (l : List HandlesView). length l) steps.0 in
    record {
      parts = λ ss rss are.
          let both : PartsEach (into_iter_items c.each.resting-iterator) (s ∷ ss) (rs ∷ rss) = subst (λ (l : List HandlesView). PartsEach l (s ∷ ss) (rs ∷ rss)) (sym steps.0) (one, are) in
          subst (λ (w : List SeatView × List (List Resource)). PartsEach first w.0 w.1)
          (λ i. (sym (ap (λ (l : List SeatView). l ++ ss) seats_grow ∙ append_assoc c.each.back.items (s ∷ []) ss) i, sym (ap (λ (l : List (List Resource)). l ++ rss) lists_grow ∙ append_assoc (map (λ v. v.items) c.each.left.items) (rs ∷ []) rss) i))
          (c.each.invariant.parts (s ∷ ss) (rs ∷ rss) both);
      here = (subst (AllHandlesOf c.args.seats.now) steps.0 c.each.invariant.here).1;
      places = let before = c.each.invariant.places in let long = ap (λ (l : List SeatView). length l) seats_grow ∙ length-append c.each.back.items (s ∷ []) in omega (arith, before, long, many, c.push_reserved.ensures.capacity);
      lists = let before = c.each.invariant.lists in let long = ap (λ l. length l) c.push_reserved-in-each.ensures.items ∙ length-append c.each.left.items (c.handles.inside.resources ∷ []) in omega (arith, before, long, many, c.push_reserved-in-each.ensures.capacity);
      len = let before = c.each.invariant.len in let next = steps.1 in omega (arith, before, next, many);
    }

pub returns : goal.returns
returns g c =
    let none : into_iter_items c.each.resting-iterator ≡ [] = none_left (into_iter_items c.each.resting-iterator) (let before = c.each.invariant.len in let over = c.in-None.ensures.steps.0 in omega (arith, before, over)) in
    let lists : List (List Resource) = map (λ v. v.items) c.each.left.items in
    let all : PartsEach (into_iter_items c.into_iter-resting-iterator.result) (c.each.back.items ++ []) (lists ++ []) = c.each.invariant.parts [] [] (subst (λ (l : List HandlesView). PartsEach l [] []) (sym none) tt) in
    subst (λ (w : List HandlesView × (List SeatView × List (List Resource))). PartsEach w.0 w.1.0 w.1.1) (λ i. (c.into_iter-resting-iterator.ensures.into_iter_gives.0 i, (append-nil c.each.back.items i, append-nil lists i))) all
