use Rattle.std.proofs.Common.{◌≡◌, ◌∙◌, ◌+◌, ◌++◌, ◌∷◌, [], List, Some, drop, length, slice_get, ap, arith, sym}
use Rattle.model_core.specs.declared.reply.Reply.{Reply}
use Rattle.run_seats.specs.Seating.{SeatView}
use Rattle.run_turns.proofs.Adding.{taken_first}
use Rattle.example_handles.proofs.Settling.{settled_more}
use Rattle.example_handles.proofs.resource.close_waiting.Goals as goal

one_less : (xs : List Reply) (r : Reply) → Some r ≡ slice_get xs 0 → length (drop 1 xs) + 1 ≡ length xs
one_less [] r first = cc
one_less (x ∷ xs) r first = omega arith

pub waiting-preserved : goal.waiting-preserved
waiting-preserved c =
    let s : SeatView = c.waiting.seat in
    let n : SeatView = c.take_ran.new.self in
    let was = c.waiting.invariant in
    let first : Some c.in-Some.ran ≡ slice_get s.ran 0 = sym c.in-Some.is ∙ c.take_ran.ensures.oldest in
    let rest : n.ran ≡ drop 1 s.ran = ap (λ (v : SeatView). v.ran) c.take_ran.ensures.others in
    let less = one_less s.ran c.in-Some.ran first in
    let count = ap (λ (rs : List Reply). length rs) rest in
    record {
      took = was.took ++ c.in-Some.ran ∷ [];
      are = taken_first c.args.seat.now.ran was.took s.ran c.in-Some.ran was.are first ∙ ap (λ (rs : List Reply). (was.took ++ c.in-Some.ran ∷ []) ++ rs) (sym rest);
      settled = settled_more c.args.resources.now c.waiting.resources c.close_named.new.resources was.took (c.in-Some.ran ∷ []) was.settled c.close_named.ensures.settled;
      left = let left = was.left in omega (arith, left, less, count);
      same = c.take_ran.ensures.others ∙ (ap (λ (v : SeatView). record v { ran = drop 1 s.ran; finals = n.finals }) was.same ∙ (λ i. record c.args.seat.now { ran = sym rest i; finals = n.finals }));
      finals = c.take_ran.ensures.finals ∙ was.finals;
    }
