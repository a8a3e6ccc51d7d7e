use Rattle.std.proofs.Common.{◌≡◌, ◌+◌, ◌≤◌, ℕ, List, [], ◌∷◌, drop, length, sym, subst, arith}
use Rattle.run_turns.specs.Runs.{RunView}
use Rattle.run_turns.specs.Singly.Driving.{registered}
use Rattle.run_seats.specs.Shared.Idling.{finals_of}
use Rattle.run_seats.specs.Seating.{SeatView}
use Rattle.run_seats.proofs.seat.Seat.take_ran.Goals as goal

shorter : {A : Type 0} (xs : List A) → length (drop 1 xs) ≤ length xs
shorter [] = omega arith
shorter (x ∷ xs) = omega arith

pub returns-clause-finals : goal.returns-clause-finals
returns-clause-finals c =
    let r = c.self.inside.run in
    let n = c.take_ran.new.self in
    let fewer = shorter r.ran in
    let left = c.finals_left-left.ensures.left in
    let spare = c.finals_left-left.ensures.spare in
    let count : ℕ = registered r in
    let taken : finals_of (record r { ran = drop 1 r.ran }) + length (drop 1 r.ran) ≡ finals_of r + length r.ran = omega (arith, fewer, left, spare) in
    subst (λ (v : SeatView). finals_of n + length n.ran ≡ v.finals + length v.ran) c.self.view_is (subst (λ (x : RunView). finals_of x + length x.ran ≡ finals_of r + length r.ran) (sym c.take_ran.ensures.others) taken)
