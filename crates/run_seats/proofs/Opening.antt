-- The start of a heap: each domain has a seat.
use Rattle.run_turns.specs.Runs.{RunView}
use Rattle.std.proofs.Common.{◌≡◌, ◌∙◌, ℕ, zero, suc, ◌+◌, ◌-◌, ◌≤◌, List, [], ◌∷◌, length, map, refl, sym, ap, arith}
use Rattle.std.specs.Prelude.{remove, slice_index_or}
use Rattle.std.specs.List.{AllByRecursion}
use Rattle.heap_rule.specs.declared.config.Config.{Config}
use Rattle.heap_rule.specs.Opening.{opening_token, opening_tokens}
use Rattle.heap_rule.specs.Token.{SharedHeap}
use Rattle.run_turns.specs.Singly.Counting.{no_stats}
use Rattle.run_turns.specs.Singly.Opening.{opened}
use Rattle.run_seats.specs.Shared.Idling.{IsIdleIn}
use Rattle.run_seats.specs.Seating.{SeatsView, fresh_seats, seat_with}

-- the seats of their runs
pub seats_are : (s : SeatsView) (k : Config) (from n : ℕ) → s.heap.config ≡ k → map (seat_with s.pool) (map opened (opening_tokens s.heap.table k from n)) ≡ fresh_seats s from n
seats_are s k from zero same = refl
seats_are s k from (suc n) same =
    let rest = seats_are s k (from + 1) n same in
    let none : k.finals - 0 ≡ k.finals = omega arith in
    let left : k.finals - 0 ≡ s.heap.config.finals = none ∙ ap (λ (c : Config). c.finals) (sym same) in
    (λ i. record { heap = record { table = s.heap.table; config = sym same i }; pool = s.pool; number = from; front = []; labels = 0; room = (sym same i).ephes; finals = left i; stats = no_stats; ran = [] } ∷ rest i)

pub idle_each : (s : SharedHeap) (k : Config) (from n : ℕ) → s.config ≡ k → AllByRecursion (IsIdleIn s) (map opened (opening_tokens s.table k from n))
idle_each s k from zero same = tt
idle_each s k from (suc n) same = (record { here = (refl, sym same); more = refl; done = refl }, idle_each s k (from + 1) n same)

pub opened_length : (s : SharedHeap) (k : Config) (from n : ℕ) → length (map opened (opening_tokens s.table k from n)) ≡ n
opened_length s k from zero = refl
opened_length s k from (suc n) = ap suc (opened_length s k (from + 1) n)

-- the first run, and the others
pub parted : (s : SharedHeap) (k : Config) (n : ℕ) (runs rest : List RunView) (first : RunView) → 1 ≤ n → runs ≡ map opened (opening_tokens s.table k 0 n) → first ≡ slice_index_or runs 0 first → rest ≡ remove runs 0
    → (first ≡ opened (opening_token s.table k 0)) × (rest ≡ map opened (opening_tokens s.table k 1 (n - 1)))
parted s k zero runs rest first some is value items = absurd (omega (arith, some))
parted s k (suc m) runs rest first some is value items =
    let count : m ≡ suc m - 1 = omega arith in (
      value ∙ ap (λ (xs : List RunView). slice_index_or xs 0 first) is,
      items ∙ (ap (λ (xs : List RunView). remove xs 0) is ∙ ap (λ (j : ℕ). map opened (opening_tokens s.table k 1 j)) count),
    )

-- the seat of the first run before those of the others
pub all_seats : (s : SeatsView) (k : Config) (n : ℕ) (first : RunView) (rest : List RunView) → 1 ≤ n → s.heap.config ≡ k → first ≡ opened (opening_token s.heap.table k 0) → rest ≡ map opened (opening_tokens s.heap.table k 1 (n - 1)) → seat_with s.pool first ∷ map (seat_with s.pool) rest ≡ fresh_seats s 0 n
all_seats s k zero first rest some same one others = absurd (omega (arith, some))
all_seats s k (suc m) first rest some same one others =
    let count : suc m - 1 ≡ m = omega arith in
    let those : rest ≡ map opened (opening_tokens s.heap.table k 1 m) = others ∙ ap (λ (j : ℕ). map opened (opening_tokens s.heap.table k 1 j)) count in
    (λ i. seat_with s.pool (one i) ∷ map (seat_with s.pool) (those i)) ∙ seats_are s k 0 (suc m) same
