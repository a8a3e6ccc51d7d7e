use Rattle.std.proofs.Common.{◌≡◌, ℕ, ◌<◌, ◌∙◌, List, [], ◌∷◌, ◌++◌, append-nil, append_assoc, length, length-append, map, slice_set, sym, ap, subst, arith}
use Rattle.std.proofs.lemmas.List.{length-map}
use Rattle.std.specs.Vec.Iter.{into_iter_items}
use Rattle.run_seats.specs.Shared.Sharing.{SharedView}
use Rattle.camlheap_c.specs.Exported.{Fills}
use Rattle.camlheap_c.proofs.Handing.{fills_more, none_left}
use Rattle.camlheap_c.proofs.starting.hand_out.Goals as goal

has_room : (c : goal.After-put) → length c.boxes.invariant.handed < length c.args.handles.now
has_room c =
    let v = c.boxes.invariant in let now = into_iter_items c.boxes.run-iterator in
    let all = ap (λ (xs : List SharedView). length xs) v.rest in
    let first = length-map (into_iter_items c.into_iter-run-iterator.result) (λ b. b.value) in
    let parts = length-append v.handed (map (λ b. b.value) now) in
    let left = length-map now (λ b. b.value) in
    let more = ap (λ xs. length xs) c.in-Some.ensures.steps.0 in
    let given = ap (λ xs. length xs) c.into_iter-run-iterator.ensures.into_iter_gives.0 in
    let room = c.requires.room in
    omega (arith, all, first, parts, left, more, given, room)

pub boxes-preserved : goal.boxes-preserved
boxes-preserved c =
    let v = c.boxes.invariant in let s : SharedView = c.in-Some.run'.value in
    let steps = c.in-Some.ensures.steps in
    let many = ap (λ xs. length xs) steps.0 in
    record {
      handed = v.handed ++ s ∷ [];
      rest = v.rest ∙ (ap (λ xs. v.handed ++ map (λ b. b.value) xs) steps.0 ∙ sym (append_assoc v.handed (s ∷ []) (map (λ b. b.value) (into_iter_items c.next.new.self))));
      count = let before = v.count in let more = length-append v.handed (s ∷ []) in omega (arith, before, more);
      fills = subst (λ (n : ℕ). Fills (v.handed ++ s ∷ []) c.args.handles.now (slice_set c.boxes.handles n c.put.new.self)) v.count (fills_more v.handed s c.args.handles.now c.boxes.handles c.put.new.self v.fills (has_room c) c.put.ensures);
      len = let before = v.len in let next = steps.1 in omega (arith, before, next, many);
    }

pub returns : goal.returns
returns c =
    let v = c.boxes.invariant in
    let none : into_iter_items c.boxes.run-iterator ≡ [] = none_left (into_iter_items c.boxes.run-iterator) (let before = v.len in let over = c.in-None.ensures.steps.0 in omega (arith, before, over)) in
    let all = v.rest ∙ (ap (λ xs. v.handed ++ map (λ b. b.value) xs) none ∙ append-nil v.handed) in
    subst (λ (views : List SharedView). Fills views c.args.handles.now c.boxes.handles) (sym all ∙ ap (λ xs. map (λ b. b.value) xs) c.into_iter-run-iterator.ensures.into_iter_gives.0) v.fills
