-- What is reachable stands in a list without repeats, which is no longer than the graph.
use Rattle.std.proofs.Common.{◌≡◌, ℕ, zero, suc, ◌+◌, ◌<◌, ◌≤◌, Bool, true, false, cond, not, IsTrue, List, [], ◌∷◌, ◌++◌, length, flat_map, fold, refl, sym, ◌∙◌, subst, ⊎_elim, arith, length-append}
use Rattle.model_core.specs.declared.label.Label.{Label}
use Rattle.model_core.specs.Graph.{Graph, same_label, has_label, has_no_repeats, labels}
use Rattle.model_core.specs.Reach.{edges_at, with_label, grow, grow_rounds, reachable, HoldsRoots, IsClosedGraph}
use Rattle.model_core.proofs.Graphs.GraphLemmas.{same_label-true, same_label_refl}
use Rattle.model_core.proofs.Reach.ReachLemmas.{not_true, never_not, or_cases, or_left, or_right, and_left, and_right, and_both, has-append_cases, has-append_left, has-append_right, has-flat_map_cases, missing, missing_most, missing_drops}

-- one more label that isn't there yet
no_repeats_push : (ls : List Label) (l : Label) → (IsTrue (has_label ls l) → ⊥) → IsTrue (has_no_repeats ls) → IsTrue (has_no_repeats (ls ++ l ∷ []))
no_repeats_push [] l new once = refl
no_repeats_push (k ∷ ls) l new once =
    let not_later : IsTrue (has_label (ls ++ l ∷ []) k) → ⊥ = λ h. ⊎_elim
    (λ old. not_true (has_label ls k) (and_left (not (has_label ls k)) (has_no_repeats ls) once) old)
    (λ here. ⊎_elim
    (λ e. new (or_left (same_label k l) (has_label ls l) (subst (λ z. IsTrue (same_label z l)) (same_label-true l k e) (same_label_refl l))))
    (λ none. let clash : false ≡ true = none in cc)
    (or_cases (same_label l k) false here))
    (has-append_cases ls (l ∷ []) k h) in
    and_both (not (has_label (ls ++ l ∷ []) k)) (has_no_repeats (ls ++ l ∷ []))
    (never_not (has_label (ls ++ l ∷ []) k) not_later)
    (no_repeats_push ls l (λ h. new (or_right (same_label k l) (has_label ls l) h)) (and_right (not (has_label ls k)) (has_no_repeats ls) once))

no_repeats_with_label : (live : List Label) (l : Label) → IsTrue (has_no_repeats live) → IsTrue (has_no_repeats (with_label live l))
no_repeats_with_label live l once = go (has_label live l) refl
  where
    go : (b : Bool) → has_label live l ≡ b → IsTrue (has_no_repeats (cond b live (live ++ l ∷ [])))
    go true e = once
    go false e = no_repeats_push live l (λ h. let clash : true ≡ false = sym h ∙ e in cc) once

no_repeats_fold : (ls live : List Label) → IsTrue (has_no_repeats live) → IsTrue (has_no_repeats (fold with_label live ls))
no_repeats_fold [] live once = once
no_repeats_fold (l ∷ ls) live once = no_repeats_fold ls (with_label live l) (no_repeats_with_label live l once)

no_repeats_rounds : (n : ℕ) (g : Graph) (live : List Label) → IsTrue (has_no_repeats live) → IsTrue (has_no_repeats (grow_rounds n g live))
no_repeats_rounds zero g live once = once
no_repeats_rounds (suc n) g live once = no_repeats_rounds n g (grow g live) (no_repeats_fold (flat_map (edges_at g (has_label live)) live) live once)

pub reachable-no_repeats : (g : Graph) (roots : List Label) → IsTrue (has_no_repeats (reachable g roots))
unfolding reachable
reachable-no_repeats g roots = no_repeats_rounds (length g) g (fold with_label [] roots) (no_repeats_fold roots [] refl)

-- the labels of a set and those of the graph that it lacks are together no more than those of the graph
module _ (g : Graph) where
  abbrev Fits : List Label → Type 0
  Fits live = length live + missing g live ≤ length g

  fits_with_label : (live : List Label) (l : Label) → IsTrue (has_label (labels g) l) → Fits live → Fits (with_label live l)
  fits_with_label live l known fits = go (has_label live l) refl
    where
      go : (b : Bool) → has_label live l ≡ b → Fits (cond b live (live ++ l ∷ []))
      go true e = fits
      go false e =
          let gets : IsTrue (has_label (live ++ l ∷ []) l) = has-append_right live (l ∷ []) l (or_left (same_label l l) false (same_label_refl l)) in
          let drops : missing g (live ++ l ∷ []) < missing g live = missing_drops g live (live ++ l ∷ []) l (has-append_left live (l ∷ [])) known e gets in
          let longer : length (live ++ l ∷ []) ≡ length live + 1 = length-append live (l ∷ []) in
          rw longer (omega (arith, drops, fits))

  fits_fold : (ls live : List Label) → HoldsRoots ls (has_label (labels g)) → Fits live → Fits (fold with_label live ls)
  fits_fold [] live known fits = fits
  fits_fold (l ∷ ls) live known fits = fits_fold ls (with_label live l) (λ x h. known x (or_right (same_label l x) (has_label ls x) h))
      (fits_with_label live l (known l (or_left (same_label l l) (has_label ls l) (same_label_refl l))) fits)

  module _ (nodes : (alive : Label → Bool) (l m : Label) → IsTrue (has_label (edges_at g alive l) m) → IsTrue (has_label (labels g) m)) where
    fits_rounds : (n : ℕ) (live : List Label) → Fits live → Fits (grow_rounds n g live)
    fits_rounds zero live fits = fits
    fits_rounds (suc n) live fits = fits_rounds n (grow g live)
        (fits_fold (flat_map (edges_at g (has_label live)) live) live
        (λ x h. let t = has-flat_map_cases (edges_at g (has_label live)) live x h in nodes (has_label live) t.0 x t.2)
        fits)

pub reachable-length : (g : Graph) (roots : List Label) → IsClosedGraph g roots → length (reachable g roots) ≤ length g
unfolding reachable
reachable-length g roots whole =
    let start : Fits g (fold with_label [] roots) = fits_fold g roots [] whole.roots_have_nodes (omega (arith, missing_most g [])) in
    let all : Fits g (grow_rounds (length g) g (fold with_label [] roots)) =
    fits_rounds g whole.edges_have_nodes (length g) (fold with_label [] roots) start in
    omega (arith, all)
