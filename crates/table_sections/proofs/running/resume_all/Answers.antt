use Rattle.std.proofs.Common.{◌≡◌, ◌+◌, List, [], ◌∷◌, ◌++◌, length, map, Vec, Global, refl, ap, sym, ◌∙◌, subst, append_assoc, append-nil, length-append, arith}
use Rattle.std.specs.List.{AllByRecursion}
use Rattle.std.specs.Vec.Iter.{into_iter_items}
use Rattle.run_seats.specs.Seating.{IsSeatOf, SeatView, SeatsView}
use Rattle.table_text.specs.declared.machine.reply.LineReply.{LineReply}
use Rattle.table_sections.specs.Preparing.{AllBack, IsBack}
use Rattle.table_sections.specs.declared.running.Ran.{Ran}
use Rattle.table_sections.proofs.Jobs.{map_more, nothing_left}
use Rattle.table_sections.proofs.running.resume_all.Goals as goal

abbrev items_of : Vec LineReply Global → List LineReply
items_of rs = rs.items

pub all-preserved : goal.all-preserved
all-preserved g c =
    let x : Ran = c.in-Some.ran in
    let y : SeatView = c.resume.result in
    let s : SeatsView = c.args.seats.now in
    let steps : into_iter_items c.all.ran-iterator ≡ x ∷ into_iter_items c.next.new.self = c.in-Some.ensures.steps.0 in
    let was = c.all.invariant.len in
    let gone = c.in-Some.ensures.steps.1 in
    let short : length (into_iter_items c.all.ran-iterator) ≡ length (x ∷ into_iter_items c.next.new.self) = ap length steps in
    let here : AllByRecursion (λ (r : Ran). IsSeatOf s r.resting) (x ∷ into_iter_items c.next.new.self) = subst (AllByRecursion (λ (r : Ran). IsSeatOf s r.resting)) steps c.all.invariant.here in
    let same = c.resume.ensures.same in
    let back : IsBack s x x.replies.items y = record {
      replies_are = refl;
      here = record { heap = ap (λ (v : SeatView). v.heap) same ∙ here.0.heap; pool = ap (λ (v : SeatView). v.pool) same ∙ here.0.pool };
      number = ap (λ (v : SeatView). v.number) same;
      along = c.resume.ensures.along;
    } in
    let replies_more : length c.push_reserved.new.self.items ≡ length c.all.replies.items + 1 = ap length c.push_reserved.ensures.items ∙ length-append c.all.replies.items (x.replies ∷ []) in
    let back_more : length c.push_reserved-in-all.new.self.items ≡ length c.all.back.items + 1 = ap length c.push_reserved-in-all.ensures.items ∙ length-append c.all.back.items (y ∷ []) in
    let replies_fit = c.all.invariant.replies_room in
    let back_fit = c.all.invariant.back_room in
    let replies_wide = c.push_reserved.ensures.capacity in
    let back_wide = c.push_reserved-in-all.ensures.capacity in
    record {
      here = here.1;
      len = omega (arith, was, gone, short);
      replies_room = omega (arith, replies_more, replies_fit, replies_wide, short);
      back_room = omega (arith, back_more, back_fit, back_wide, short);
      resumed = λ later seats rest.
          let replies_are : map items_of c.all.replies.items ++ x.replies.items ∷ later ≡ map items_of c.push_reserved.new.self.items ++ later =
          sym (ap (λ (rs : List (Vec LineReply Global)). map items_of rs ++ later) c.push_reserved.ensures.items ∙ map_more items_of c.all.replies.items x.replies later) in
          let seats_are : c.all.back.items ++ y ∷ seats ≡ c.push_reserved-in-all.new.self.items ++ seats =
          sym (ap (λ (xs : List SeatView). xs ++ seats) c.push_reserved-in-all.ensures.items ∙ append_assoc c.all.back.items (y ∷ []) seats) in
          subst (λ (w : List (List LineReply) × List SeatView). AllBack s (into_iter_items c.into_iter-ran-iterator.result) w.0 w.1) (λ i. (replies_are i, seats_are i))
          (c.all.invariant.resumed (x.replies.items ∷ later) (y ∷ seats) (subst (λ (rs : List Ran). AllBack s rs (x.replies.items ∷ later) (y ∷ seats)) (sym steps) (back, rest)));
    }

pub returns : goal.returns
returns g c =
    let s : SeatsView = c.args.seats.now in
    let none = c.in-None.ensures.steps in
    let empty : into_iter_items c.all.ran-iterator ≡ [] = nothing_left (into_iter_items c.all.ran-iterator) (sym c.all.invariant.len ∙ none.0) in
    let last : AllBack s (into_iter_items c.all.ran-iterator) [] [] = subst (λ (rs : List Ran). AllBack s rs [] []) (sym empty) tt in
    let all : into_iter_items c.into_iter-ran-iterator.result ≡ c.args.all.items = c.into_iter-ran-iterator.ensures.into_iter_gives.0 in
    record {
      back = subst (λ (w : List Ran × List (List LineReply) × List SeatView). AllBack s w.0 w.1 w.2)
          (λ i. (all i, append-nil (map items_of c.all.replies.items) i, append-nil c.all.back.items i))
          (c.all.invariant.resumed [] [] last);
    }
