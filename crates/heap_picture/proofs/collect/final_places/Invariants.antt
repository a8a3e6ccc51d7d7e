use Rattle.std.proofs.Common.{◌≡◌, ◌++◌, ◌∷◌, [], cond, drop}
use Rattle.heap_picture.specs.Fates.{fate_of, may_run}
use Rattle.heap_picture.specs.Text.{placed}
use Rattle.heap_picture.proofs.collect.final_places.Given as goal

-- the places so far, and those still to come
abbrev pub invariant-loop-i : goal.invariant-loop-i
invariant-loop-i l =
    l.places.items ++ placed (λ i f. cond (may_run (fate_of l.fates f.label)) (i ∷ []) []) l.i (drop l.i l.finals)
    ≡ placed (λ i f. cond (may_run (fate_of l.fates f.label)) (i ∷ []) []) 0 l.finals
