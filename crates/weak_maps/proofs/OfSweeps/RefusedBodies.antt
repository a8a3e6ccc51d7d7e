-- What the clauses of a sweep refuse: where they hold a wrong outcome doesn't, whatever body met them.
use Rattle.std.proofs.Common.{◌≡◌, ◌≢◌, ◌⊎◌, inl, inr, ⊎_elim, ℕ, zero, suc, ◌<◌, true, cond, Bool, List, [], ◌∷◌, ◌++◌, length, get_or, set, pos, Some, None, refl, ap, sym, ◌∙◌, arith, length-set}
use Rattle.model_core.specs.declared.label.Label.{Label}
use Rattle.model_core.specs.declared.entry.Entry.{Entry}
use Rattle.model_core.specs.declared.graph.Value.{Value}
use Rattle.model_core.specs.declared.graph.Value.TheVariants.{Int, Block, Nothing}
use Rattle.model_core.specs.declared.state.Sizes.{Sizes}
use Rattle.model_core.specs.Graph.{Graph}
use Rattle.model_core.specs.History.{IsPrefix, is_entry_of}
use Rattle.model_core.proofs.Graphs.GraphLemmas.{same_label_refl}
use Rattle.weak_laws.specs.Tables.Stages.{graph_of}
use Rattle.weak_laws.specs.Maps.Tries.{at, bound_by, bound_in, inside, IsMap}
use Rattle.weak_laws.specs.Maps.Steps.{Clears}
use Rattle.weak_laws.specs.Maps.Calls.{HasKey, bound_after}
use Rattle.weak_laws.proofs.OfMaps.SetLemmas.{block_is, now_inside, others_inside, was_inside}
use Rattle.weak_maps.proofs.PlaceLemmas.{goes_through, only_there}
use Rattle.weak_maps.specs.Sweeps.Dead.{StandsDead}
use Rattle.weak_maps.specs.Sweeps.Sweeps.{SweepAnswers}

put_back : (xs : List Value) (i : ℕ) (w d : Value) → i < length xs → set (set xs i w) i (get_or xs i d) ≡ xs
put_back [] i w d below = absurd (omega (arith, below))
put_back (x ∷ xs) zero w d below = refl
put_back (x ∷ xs) (suc i) w d below = ap (λ (l : List Value). x ∷ l) (put_back xs i w d (omega (arith, below)))

-- a leaf that has its key isn't taken out of the map
live_stays : (g h : Graph) (root : Label) → IsMap g root → Clears g h root → (p : List ℕ) (l : Label) → HasKey g root p l → at (inside h) p (Block root) ≡ Some (Block l)
live_stays g h root map c p l had = go (goes_through (inside h) (inside g) (Block c.writes.block) c.i c.held left now was others_back (block_is c.writes.block) below p (Block root) (Block l) had.there)
  where
    left : List Value
    left = set c.writes.fields c.i (Int (pos 0))

    now : inside h (Block c.writes.block) ≡ Some left
    now = now_inside g h root c.p c.i c.held (Int (pos 0)) c.writes map.tree

    was : inside g (Block c.writes.block) ≡ Some (set left c.i c.held)
    was = was_inside g h root c.p c.i c.held (Int (pos 0)) c.writes map.tree ∙ ap Some (sym (ap (set left c.i) (sym c.writes.was) ∙ put_back c.writes.fields c.i (Int (pos 0)) Nothing c.writes.below))

    others_back : (v : Value) → (v ≡ Block c.writes.block → ⊥) → inside g v ≡ inside h v
    others_back v other = sym (others_inside g h root c.p c.i c.held (Int (pos 0)) c.writes map.tree v other)

    below : c.i < length left
    below = let small = c.writes.below in let same = length-set c.writes.fields c.i (Int (pos 0)) in omega (arith, small, same)

    go : (at (inside h) p (Block root) ≡ Some (Block l)) ⊎ ((p2 : List ℕ) × (q : List ℕ) × (p ≡ p2 ++ c.i ∷ q) × (at (inside h) p2 (Block root) ≡ Some (Block c.writes.block)) × (at (inside g) q c.held ≡ Some (Block l))) → at (inside h) p (Block root) ≡ Some (Block l)
    go (inl there) = there
    go (inr (p2, q, split, block, rest)) =
        let only = only_there g q c.held l c.writes.end rest in
        let none : bound_by g had.key (Block l) ≡ None = ap (bound_by g had.key) (sym only.1) ∙ c.empty had.key in
        let some : bound_by g had.key (Block l) ≡ Some had.datum = ap (bound_in had.key) had.node ∙ ap (λ (b : Bool). cond b (Some had.datum) None) (same_label_refl had.key) in
        let clash : None ≡ Some had.datum = sym none ∙ some in cc

-- a sweep drops no leaf that has its key, also none that another call put while it went on
pub no_live_leaf_is_dropped : (z : Sizes) (root : Label) (d : ℕ) (old new : List Entry) → SweepAnswers z root d old new → (front : List Entry) (e : Entry) → IsPrefix old front → IsPrefix (front ++ e ∷ []) new → is_entry_of d e ≡ true → IsMap (graph_of z front) root → (p : List ℕ) (l : Label)
    → HasKey (graph_of z front) root p l → at (inside (graph_of z (front ++ e ∷ []))) p (Block root) ≢ Some (Block l) → ⊥
no_live_leaf_is_dropped z root d old new x front e since until own map p l had gone = gone (⊎_elim
    (λ same. ap (λ (g : Graph). at (inside g) p (Block root)) same ∙ had.there)
    (λ c. live_stays (graph_of z front) (graph_of z (front ++ e ∷ [])) root map c p l had)
    (x.clear front e since until own))

-- nor does it overwrite a binding, whoever put it and when
pub no_put_is_overwritten : (z : Sizes) (root : Label) (d : ℕ) (old new : List Entry) → SweepAnswers z root d old new → (front : List Entry) (e : Entry) → IsPrefix old front → IsPrefix (front ++ e ∷ []) new → is_entry_of d e ≡ true → (k : Label) (v : Value)
    → bound_after z root front k ≡ Some v → bound_after z root (front ++ e ∷ []) k ≢ Some v → ⊥
no_put_is_overwritten z root d old new x front e since until own k v bound other = other (x.looks.keeps front e since until own k ∙ bound)

-- nor does it leave a leaf that had lost its key when it began: a body that does nothing is none
pub no_dead_leaf_is_left : (z : Sizes) (root : Label) (d : ℕ) (old new : List Entry) → SweepAnswers z root d old new → (l : Label) → StandsDead (graph_of z old) root l → StandsDead (graph_of z new) root l → ⊥
no_dead_leaf_is_left z root d old new x l before after = x.gone l before (after.p, after.there)
