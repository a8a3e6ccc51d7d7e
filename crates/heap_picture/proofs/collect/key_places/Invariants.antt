use Rattle.std.proofs.Common.{◌≡◌, ◌++◌, ◌∷◌, [], cond, drop}
use Rattle.heap_picture.specs.Fates.{fate_of, may_empty}
use Rattle.heap_picture.specs.Text.{placed}
use Rattle.heap_picture.proofs.collect.key_places.Given as goal

-- the places so far, and those still to come
abbrev pub invariant-loop-i : goal.invariant-loop-i
invariant-loop-i l =
    l.places.items ++ placed (λ i key. cond (may_empty (fate_of l.fates) key) (i ∷ []) []) l.i (drop l.i l.keys)
    ≡ placed (λ i key. cond (may_empty (fate_of l.fates) key) (i ∷ []) []) 0 l.keys
