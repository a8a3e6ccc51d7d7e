-- A piece that is taken from the front, and the rest.
use Rattle.std.proofs.Common.{◌≡◌, ℕ, ◌+◌, List, ◌++◌, length, take, drop, sym}
use Rattle.std.proofs.lemmas.List.{take-append-drop, drop-drop, take_at}

pub front_and_rest : (bytes copied tail : List ℕ) (at n : ℕ) → copied ≡ take n (drop at bytes) → length copied ≡ n
    → drop at bytes ≡ take n (copied ++ tail) ++ drop (at + n) bytes
front_and_rest bytes copied tail at n same len = rw (take_at copied tail n len, same, ← drop-drop n at bytes) (sym (take-append-drop n (drop at bytes)))
