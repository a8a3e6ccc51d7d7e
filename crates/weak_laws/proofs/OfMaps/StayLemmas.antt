-- What a call knows of a map beside other calls.
use Rattle.std.proofs.Common.{◌≡◌, ℕ, zero, suc, ◌<◌, List, [], ◌∷◌, length, get_or, set, Some, refl, ap, sym, ◌∙◌, subst, arith}
use Rattle.std.proofs.lemmas.List.{length-set}
use Rattle.model_core.specs.declared.graph.Value.{Value}
use Rattle.model_core.specs.declared.graph.Value.TheVariants.{Block, Nothing}
use Rattle.weak_laws.specs.Maps.Tries.{inside, ends, bound_by}
use Rattle.weak_laws.specs.Maps.MapLaws.{BlocksStay, ReadTells}
use Rattle.weak_laws.proofs.OfMaps.WalkLemmas.{at_back, ends_at, ends_step}
use Rattle.weak_laws.proofs.OfMaps.SetLemmas.{block_is, was_inside, now_inside, others_inside, stays}

set_back : (xs : List Value) (i : ℕ) (w d : Value) → i < length xs → set (set xs i w) i (get_or xs i d) ≡ xs
set_back [] i w d below = absurd (omega (arith, below))
set_back (x ∷ xs) zero w d below = refl
set_back (x ∷ xs) (suc i) w d below = ap (λ (l : List Value). x ∷ l) (set_back xs i w d (omega (arith, below)))

pub blocks_stay : BlocksStay
blocks_stay g h root p i held new tree w q u fields there plain =
    at_back (inside h) (inside g) (Block w.block) i held (set w.fields i new)
    (now_inside g h root p i held new w tree)
    (was_inside g h root p i held new w tree ∙ ap Some (sym (ap (set (set w.fields i new) i) (sym w.was) ∙ set_back w.fields i new Nothing w.below)))
    (λ v other. sym (others_inside g h root p i held new w tree v other))
    (block_is w.block) (subst (λ (m : ℕ). i < m) (sym (length-set w.fields i new)) w.below) w.end q (Block root) u fields there plain

pub read_tells : ReadTells
read_tells n g root k p i q u held fields way there plain was end =
    ap (bound_by g k) (ap (λ (l : List ℕ). ends (inside g) l (Block root)) way
    ∙ (ends_at (inside g) p (i ∷ q) (Block root) u there ∙ (ends_step (inside g) i q u fields plain ∙ (ap (ends (inside g) q) was ∙ stays (inside g) q held end))))
