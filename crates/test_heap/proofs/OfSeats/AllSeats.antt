-- Lists of seats of one heap.
use Rattle.std.proofs.Common.{◌≡◌, ℕ, zero, suc, ◌+◌, List, [], ◌∷◌, ◌++◌, refl, sym, subst}
use Rattle.run_seats.specs.Seating.{AllSeatsOf, IsSeatOf, SeatView, SeatsView, fresh_seats}

fresh_from : (s : SeatsView) (from n : ℕ) → AllSeatsOf s (fresh_seats s from n)
fresh_from s from zero = tt
fresh_from s from (suc n) = (record { heap = refl; pool = refl }, fresh_from s (from + 1) n)

-- the seats of a heap that has just started are its seats
pub all_fresh : (s : SeatsView) (n : ℕ) (xs : List SeatView) → xs ≡ fresh_seats s 0 n → AllSeatsOf s xs
all_fresh s n xs are = subst (AllSeatsOf s) (sym are) (fresh_from s 0 n)

-- and so are they with one more
pub all_and_one : (s : SeatsView) (xs : List SeatView) (x : SeatView) → AllSeatsOf s xs → IsSeatOf s x → AllSeatsOf s (xs ++ x ∷ [])
all_and_one s [] x all one = (one, tt)
all_and_one s (y ∷ ys) x all one = (all.0, all_and_one s ys x all.1 one)
