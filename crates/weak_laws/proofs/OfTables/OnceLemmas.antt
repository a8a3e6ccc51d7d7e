-- Each block of a table stands in one place of it.
use Rattle.std.proofs.Common.{◌≡◌, ◌≢◌, ◌⊎◌, inl, inr, ⊎_elim, ℕ, zero, suc, ◌<◌, Bool, true, false, not, IsTrue, List, [], ◌∷◌, ◌++◌, length, get_or, set, flat_map, refl, ap, sym, ◌∙◌, subst, arith}
use Rattle.model_core.specs.declared.label.Label.{Label}
use Rattle.model_core.specs.Graph.{same_label, has_label, has_no_repeats}
use Rattle.model_core.proofs.Graphs.GraphLemmas.{same_label-true, same_label_refl}
use Rattle.model_core.proofs.Reach.LabelListLemmas.{no_repeats_append}
use Rattle.model_core.proofs.Reach.ReachLemmas.{or_cases, or_left, or_right, and_left, and_right, and_both, is_false, not_false, has-append_left, has-append_right, has-append_cases}
use Rattle.weak_laws.specs.Tables.Structures.{Cell, cell_labels}

-- what isn't there
pub lacks : (ls : List Label) (l : Label) → (IsTrue (has_label ls l) → ⊥) → has_label ls l ≡ false
lacks ls l none = go (has_label ls l) refl
  where
    go : (b : Bool) → has_label ls l ≡ b → b ≡ false
    go true e = absurd (none e)
    go false e = refl

pub not_both : (ls : List Label) (l : Label) → IsTrue (has_label ls l) → has_label ls l ≡ false → ⊥
not_both ls l there none = let clash : true ≡ false = sym there ∙ none in cc

pub once_parts : (a b : List Label) → IsTrue (has_no_repeats (a ++ b)) → IsTrue (has_no_repeats a) × IsTrue (has_no_repeats b) × ((l : Label) → IsTrue (has_label a l) → has_label b l ≡ false)
once_parts [] b once = (refl, once, λ l h. let clash : false ≡ true = h in cc)
once_parts (x ∷ a) b once =
    let new = is_false (has_label (a ++ b) x) (and_left _ _ once) in
    let rest = once_parts a b (and_right (not (has_label (a ++ b) x)) _ once) in (
      and_both _ _ (not_false _ (lacks a x (λ h. not_both (a ++ b) x (has-append_left a b x h) new))) rest.0,
      rest.1,
      λ l h. ⊎_elim
          (λ here. lacks b l (λ there. not_both (a ++ b) x (subst (λ k. IsTrue (has_label (a ++ b) k)) (sym (same_label-true x l here)) (has-append_right a b l there)) new))
          (λ later. rest.2 l later)
          (or_cases (same_label x l) (has_label a l) h),
    )

pub cell_labels-append : (a b : List Cell) → cell_labels (a ++ b) ≡ cell_labels a ++ cell_labels b
cell_labels-append [] b = refl
cell_labels-append (c ∷ a) b = ap (λ (ls : List Label). c.node ∷ c.ephe ∷ ls) (cell_labels-append a b)

-- a chain's labels
pub chain_label : (css : List (List Cell)) (i : ℕ) (l : Label) → IsTrue (has_label (cell_labels (get_or css i [])) l) → IsTrue (has_label (flat_map cell_labels css) l)
chain_label [] i l h = cc
chain_label (cs ∷ css) zero l h = has-append_left (cell_labels cs) (flat_map cell_labels css) l h
chain_label (cs ∷ css) (suc i) l h = has-append_right (cell_labels cs) (flat_map cell_labels css) l (chain_label css i l h)

pub one_chain : (css : List (List Cell)) (i : ℕ) → IsTrue (has_no_repeats (flat_map cell_labels css)) → IsTrue (has_no_repeats (cell_labels (get_or css i [])))
one_chain [] i once = refl
one_chain (cs ∷ css) zero once = (once_parts (cell_labels cs) (flat_map cell_labels css) once).0
one_chain (cs ∷ css) (suc i) once = one_chain css i (once_parts (cell_labels cs) (flat_map cell_labels css) once).1

-- a label of one chain is in no other
pub other_chain : (css : List (List Cell)) (i t : ℕ) (l : Label) → IsTrue (has_no_repeats (flat_map cell_labels css)) → IsTrue (has_label (cell_labels (get_or css i [])) l) → t ≢ i → has_label (cell_labels (get_or css t [])) l ≡ false
other_chain [] i t l once here other = refl
other_chain (cs ∷ css) zero zero l once here other = absurd (other refl)
other_chain (cs ∷ css) zero (suc t) l once here other =
    let apart = (once_parts (cell_labels cs) (flat_map cell_labels css) once).2 l here in
    lacks _ l (λ h. not_both (flat_map cell_labels css) l (chain_label css t l h) apart)
other_chain (cs ∷ css) (suc i) zero l once here other =
    lacks _ l (λ h. not_both (flat_map cell_labels css) l (chain_label css i l here) ((once_parts (cell_labels cs) (flat_map cell_labels css) once).2 l h))
other_chain (cs ∷ css) (suc i) (suc t) l once here other =
    other_chain css i t l (once_parts (cell_labels cs) (flat_map cell_labels css) once).1 here (λ same. other (ap suc same))

-- a cell's ephemeron is in no other cell of its chain
pub other_cells : (done : List Cell) (c : Cell) (rest : List Cell) → IsTrue (has_no_repeats (cell_labels (done ++ c ∷ rest)))
    → (has_label (cell_labels done) c.ephe ≡ false) × (has_label (cell_labels rest) c.ephe ≡ false)
other_cells done c rest once =
    let parts = once_parts (cell_labels done) (c.node ∷ c.ephe ∷ cell_labels rest) (subst (λ ls. IsTrue (has_no_repeats ls)) (cell_labels-append done (c ∷ rest)) once) in
    let behind = and_right (not (has_label (c.ephe ∷ cell_labels rest) c.node)) (has_no_repeats (c.ephe ∷ cell_labels rest)) parts.1 in (
      lacks _ c.ephe (λ h. not_both (c.node ∷ c.ephe ∷ cell_labels rest) c.ephe
          (or_right (same_label c.node c.ephe) _ (or_left (same_label c.ephe c.ephe) _ (same_label_refl c.ephe))) (parts.2 c.ephe h)),
      is_false _ (and_left (not (has_label (cell_labels rest) c.ephe)) _ behind),
    )

-- the labels with one more cell in a chain
pub more_labels : (css : List (List Cell)) (i : ℕ) (c : Cell) (l : Label) → i < length css
    → IsTrue (has_label (flat_map cell_labels (set css i (c ∷ get_or css i []))) l) → (l ≡ c.node) ⊎ ((l ≡ c.ephe) ⊎ IsTrue (has_label (flat_map cell_labels css) l))
more_labels [] i c l below h = absurd (omega arith)
more_labels (cs ∷ css) zero c l below h = ⊎_elim
    (λ here. inl (sym (same_label-true c.node l here)))
    (λ later. ⊎_elim (λ here. inr (inl (sym (same_label-true c.ephe l here)))) (λ old. inr (inr old)) (or_cases (same_label c.ephe l) _ later))
    (or_cases (same_label c.node l) _ h)
more_labels (cs ∷ css) (suc i) c l below h = ⊎_elim
    (λ here. inr (inr (has-append_left (cell_labels cs) (flat_map cell_labels css) l here)))
    (λ later. ⊎_elim (λ is. inl is) (λ other. ⊎_elim (λ is. inr (inl is)) (λ old. inr (inr (has-append_right (cell_labels cs) (flat_map cell_labels css) l old))) other)
    (more_labels css i c l (omega arith) later))
    (has-append_cases (cell_labels cs) (flat_map cell_labels (set css i (c ∷ get_or css i []))) l h)

pub old_labels : (css : List (List Cell)) (i : ℕ) (c : Cell) (l : Label) → IsTrue (has_label (flat_map cell_labels css) l) → IsTrue (has_label (flat_map cell_labels (set css i (c ∷ get_or css i []))) l)
old_labels [] i c l h = h
old_labels (cs ∷ css) zero c l h = or_right (same_label c.node l) _ (or_right (same_label c.ephe l) _ h)
old_labels (cs ∷ css) (suc i) c l h = ⊎_elim
    (λ here. has-append_left (cell_labels cs) (flat_map cell_labels (set css i (c ∷ get_or css i []))) l here)
    (λ later. has-append_right (cell_labels cs) (flat_map cell_labels (set css i (c ∷ get_or css i []))) l (old_labels css i c l later))
    (has-append_cases (cell_labels cs) (flat_map cell_labels css) l h)

-- a new cell stands twice nowhere
pub once_more : (css : List (List Cell)) (i : ℕ) (c : Cell) → i < length css → has_label (flat_map cell_labels css) c.node ≡ false → has_label (flat_map cell_labels css) c.ephe ≡ false → same_label c.ephe c.node ≡ false
    → IsTrue (has_no_repeats (flat_map cell_labels css)) → IsTrue (has_no_repeats (flat_map cell_labels (set css i (c ∷ get_or css i []))))
once_more [] i c below fresh_node fresh_ephe differ once = absurd (omega arith)
once_more (cs ∷ css) zero c below fresh_node fresh_ephe differ once =
    and_both _ _ (not_false _ (lacks (c.ephe ∷ (cell_labels cs ++ flat_map cell_labels css)) c.node (λ h. ⊎_elim
    (λ here. let clash : true ≡ false = sym here ∙ differ in cc)
    (λ later. not_both (flat_map cell_labels (cs ∷ css)) c.node later fresh_node)
    (or_cases (same_label c.ephe c.node) _ h))))
    (and_both _ _ (not_false _ fresh_ephe) once)
once_more (cs ∷ css) (suc i) c below fresh_node fresh_ephe differ once =
    let parts = once_parts (cell_labels cs) (flat_map cell_labels css) once in
    let new_node : has_label (flat_map cell_labels css) c.node ≡ false = lacks _ c.node (λ h. not_both (flat_map cell_labels (cs ∷ css)) c.node (has-append_right (cell_labels cs) (flat_map cell_labels css) c.node h) fresh_node) in
    let new_ephe : has_label (flat_map cell_labels css) c.ephe ≡ false = lacks _ c.ephe (λ h. not_both (flat_map cell_labels (cs ∷ css)) c.ephe (has-append_right (cell_labels cs) (flat_map cell_labels css) c.ephe h) fresh_ephe) in
    no_repeats_append (cell_labels cs) (flat_map cell_labels (set css i (c ∷ get_or css i []))) parts.0
    (once_more css i c (omega arith) new_node new_ephe differ parts.1)
    (λ l first second. ⊎_elim
    (λ is. not_both (flat_map cell_labels (cs ∷ css)) c.node (has-append_left (cell_labels cs) (flat_map cell_labels css) c.node (subst (λ k. IsTrue (has_label (cell_labels cs) k)) is first)) fresh_node)
    (λ other. ⊎_elim
    (λ is. not_both (flat_map cell_labels (cs ∷ css)) c.ephe (has-append_left (cell_labels cs) (flat_map cell_labels css) c.ephe (subst (λ k. IsTrue (has_label (cell_labels cs) k)) is first)) fresh_ephe)
    (λ old. not_both (flat_map cell_labels css) l old (parts.2 l first))
    other)
    (more_labels css i c l (omega arith) second))
