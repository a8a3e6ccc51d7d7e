-- What is known of the graph, beside running domains: a store, another change of a block, a new block, and what is held besides keep it.
use Rattle.std.proofs.Common.{◌≡◌, ◌⊎◌, inl, inr, ⊎_elim, ℕ, zero, suc, arith, Bool, true, false, cond, not, ◌&&◌, ◌||◌, IsTrue, List, [], ◌∷◌, ◌++◌, slice_get, replicate, pos, set, Option, Some, None, refl, ap, sym, ◌∙◌, subst, eqb, eq-eqb, eqb-true}
use Rattle.model_core.specs.declared.label.Label.{Label}
use Rattle.model_core.specs.declared.graph.Value.{Value}
use Rattle.model_core.specs.declared.graph.Value.TheVariants.{Int, Block}
use Rattle.model_core.specs.declared.graph.Node.{Node}
use Rattle.model_core.specs.declared.graph.Node.TheVariants.{Plain}
use Rattle.model_core.specs.Graph.{Graph, labels, has_label, same_label, node_at, with_node}
use Rattle.model_core.specs.Reach.{HoldsRoots}
use Rattle.model_core.proofs.Graphs.GraphLemmas.{same_label-true, same_label_refl, labels-with_node, node_at-with_node_same, node_at-with_node_other, node_at-append_cases}
use Rattle.model_core.proofs.Commands.FrameLemmas.{label_cases}
use Rattle.model_core.proofs.Histories.NumberLemmas.{node_at-no_label}
use Rattle.model_core.proofs.Histories.WellFormedLemmas.{labels-append}
use Rattle.model_core.proofs.Reach.ReachLemmas.{is_false, never_not, or_cases, or_left, and_left, and_right, and_both, true_or_false, has-append_left}
use Rattle.model_cycle.specs.Cover.{field_in, field_at, is_new, InCover}
use Rattle.model_cycle.proofs.Tracing.{never}

-- a block of the old graph that has a field isn't new
pub no_old_field : (old : Graph) (l : Label) (i : ℕ) (x : Label) → IsTrue (is_new old l) → field_at old l i ≡ Some (Block x) → ⊥
no_old_field old l i x new at =
    let none : node_at old l ≡ None = node_at-no_label old l (is_false (has_label (labels old) l) new) in
    let clash : field_in None i ≡ Some (Block x) = subst (λ o. field_in o i ≡ Some (Block x)) none at in cc

known_label : (b : Bool) → not b ≡ false → IsTrue b
known_label true e = refl
known_label false e = cc

-- what stands in a list after one element was written
get_set : (fields : List Value) (i j : ℕ) (value : Value) (x : Label) → slice_get (set fields i value) j ≡ Some (Block x) → ((i ≡ j) × (value ≡ Block x)) ⊎ ((i ≡ j → ⊥) × (slice_get fields j ≡ Some (Block x)))
get_set [] i j value x e = cc
get_set (y ∷ fields) zero zero value x e = inl (refl, some_same e)
  where
    some_same : ◌≡◌ {A = Option Value} (Some value) (Some (Block x)) → value ≡ Block x
    some_same same = cc
get_set (y ∷ fields) zero (suc j) value x e = inr ((λ same. absurd (omega arith)), e)
get_set (y ∷ fields) (suc i) zero value x e = inr ((λ same. absurd (omega arith)), e)
get_set (y ∷ fields) (suc i) (suc j) value x e = ⊎_elim
    (λ t. inl (ap suc t.0, t.1))
    (λ t. inr ((λ same. t.0 (omega arith)), t.1))
    (get_set fields i j value x e)

get_set_other : (fields : List Value) (i j : ℕ) (value : Value) → (i ≡ j → ⊥) → slice_get (set fields i value) j ≡ slice_get fields j
get_set_other [] i j value other = refl
get_set_other (y ∷ fields) zero zero value other = absurd (other refl)
get_set_other (y ∷ fields) zero (suc j) value other = refl
get_set_other (y ∷ fields) (suc i) zero value other = refl
get_set_other (y ∷ fields) (suc i) (suc j) value other = get_set_other fields i j value (λ same. other (ap suc same))

-- the fields of a new plain block hold no label
pub no_field : (n i : ℕ) (x : Label) → slice_get (replicate n (Int (pos 0))) i ≡ Some (Block x) → ⊥
no_field zero i x e = cc
no_field (suc n) zero x e = cc
no_field (suc n) (suc i) x e = no_field n i x e

module _ (old : Graph) (marked : Label → Bool) where
  -- the cover holds the marked and the new labels, and what the fields of the old graph lead to from there
  pub cover_marked : (l : Label) → IsTrue (marked l) → InCover old marked l
  cover_marked l is set m n c = m l is

  pub cover_new : (l : Label) → IsTrue (is_new old l) → InCover old marked l
  cover_new l is set m n c = n l is

  pub cover_field : (l : Label) (i : ℕ) (x : Label) → InCover old marked l → field_at old l i ≡ Some (Block x) → InCover old marked x
  cover_field l i x cover at set m n c = c l x i (cover set m n c) at

  -- what the present graph has of the old one
  pub record Covers (now : Graph) (held : Label → Bool) (over : Label → ℕ → Bool) : Type 0 where
    pub grown : HoldsRoots (labels old) (has_label (labels now))
    pub same : (l : Label) (i : ℕ) → is_new old l ≡ false → over l i ≡ false → field_at now l i ≡ field_at old l i
    pub lost : (l : Label) (i : ℕ) (x : Label) → IsTrue (over l i) → field_at old l i ≡ Some (Block x) → IsTrue (marked x)
    pub covered : (l : Label) → IsTrue (held l) → InCover old marked l
    pub new_fields : (l : Label) (i : ℕ) (x : Label) → IsTrue (is_new old l) → field_at now l i ≡ Some (Block x) → InCover old marked x
    pub stored : (l : Label) (i : ℕ) (x : Label) → IsTrue (over l i) → field_at now l i ≡ Some (Block x) → InCover old marked x

  module _ (now : Graph) (held : Label → Bool) (over : Label → ℕ → Bool) (c : Covers now held over) where
    -- what is held refers to covered labels
    pub field_covered : (l : Label) (i : ℕ) (x : Label) → IsTrue (held l) → field_at now l i ≡ Some (Block x) → InCover old marked x
    field_covered l i x is at = ⊎_elim
        (λ new. c.new_fields l i x new at)
        (λ known. ⊎_elim
        (λ h. c.stored l i x h at)
        (λ kept. cover_field l i x (c.covered l is) (sym (c.same l i known kept) ∙ at))
        (true_or_false (over l i)))
        (true_or_false (is_new old l))

    -- other labels are held
    pub covers_holds : (other : Label → Bool) → ((x : Label) → IsTrue (other x) → InCover old marked x) → Covers now other over
    covers_holds other all = record { grown = c.grown; same = c.same; lost = c.lost; covered = all; new_fields = c.new_fields; stored = c.stored }

    -- a block is written
    module _ (l : Label) (before after : Node) (node : node_at now l ≡ Some before) where
      grown_written : HoldsRoots (labels old) (has_label (labels (with_node now l after)))
      grown_written k h = subst (λ z. IsTrue (has_label z k)) (sym (labels-with_node now l after)) (c.grown k h)

      field_here : (i : ℕ) → field_at (with_node now l after) l i ≡ field_in (Some after) i
      field_here i = ap (λ o. field_in o i) (node_at-with_node_same now l after before node)

      field_was : (i : ℕ) → field_at now l i ≡ field_in (Some before) i
      field_was i = ap (λ o. field_in o i) node

      field_other : (k : Label) (i : ℕ) → (k ≡ l → ⊥) → field_at (with_node now l after) k i ≡ field_at now k i
      field_other k i other = ap (λ o. field_in o i) (node_at-with_node_other now l k after other)

      -- with the same fields that a scan follows: a raw block, or an ephemeron
      pub covers_alike : ((i : ℕ) → field_in (Some after) i ≡ field_in (Some before) i) → Covers (with_node now l after) held over
      covers_alike alike = record {
        grown = grown_written;
        same = λ k j known kept. unlike k j ∙ c.same k j known kept;
        lost = c.lost;
        covered = c.covered;
        new_fields = λ k j x new at. c.new_fields k j x new (sym (unlike k j) ∙ at);
        stored = λ k j x h at. c.stored k j x h (sym (unlike k j) ∙ at);
      }
        where
          unlike : (k : Label) (j : ℕ) → field_at (with_node now l after) k j ≡ field_at now k j
          unlike k j = label_cases (field_at (with_node now l after) k j ≡ field_at now k j) k l
              (λ here. subst (λ z. field_at (with_node now l after) z j ≡ field_at now z j) (sym here) (field_here j ∙ (alike j ∙ sym (field_was j))))
              (λ other. field_other k j other)

    -- a field of a plain block is stored into, whose old label is marked
    module _ (l : Label) (tag : ℕ) (fields : List Value) (i : ℕ) (value : Value) (node : node_at now l ≡ Some (Plain tag fields))
        (holds : (x : Label) → value ≡ Block x → IsTrue (held x)) (old_marked : (x : Label) → field_at old l i ≡ Some (Block x) → IsTrue (marked x)) where
      abbrev stored_node : Node
      stored_node = Plain tag (set fields i value)

      abbrev after : Graph
      after = with_node now l (Plain tag (set fields i value))

      abbrev more : Label → ℕ → Bool
      more k j = same_label l k && eqb i j || over k j

      more_cases : (k : Label) (j : ℕ) → IsTrue (more k j) → ((l ≡ k) × (i ≡ j)) ⊎ IsTrue (over k j)
      more_cases k j h = ⊎_elim
          (λ here. inl (same_label-true l k (and_left (same_label l k) (eqb i j) here), eqb-true i j (and_right (same_label l k) (eqb i j) here)))
          (λ was. inr was)
          (or_cases (same_label l k && eqb i j) (over k j) h)

      more_here : (j : ℕ) → i ≡ j → IsTrue (more l j)
      more_here j at = or_left (same_label l l && eqb i j) (over l j) (and_both (same_label l l) (eqb i j) (same_label_refl l) (eq-eqb i j at))

      more_not : (k : Label) (j : ℕ) → more k j ≡ false → over k j ≡ false
      more_not k j e = right_false (same_label l k && eqb i j) (over k j) e
        where
          right_false : (a b : Bool) → a || b ≡ false → b ≡ false
          right_false true b e = cc
          right_false false b e = e

      covered_value : (x : Label) → value ≡ Block x → InCover old marked x
      covered_value x is = c.covered x (holds x is)

      here_now : (j : ℕ) → field_at after l j ≡ slice_get (set fields i value) j
      here_now j = field_here l (Plain tag fields) stored_node node j

      here_before : (j : ℕ) → field_at now l j ≡ slice_get fields j
      here_before j = field_was l (Plain tag fields) stored_node node j

      there : (k : Label) (j : ℕ) → (k ≡ l → ⊥) → field_at after k j ≡ field_at now k j
      there k j other = field_other l (Plain tag fields) stored_node node k j other

      -- a label in a field now is the one that was stored, or stood in another field
      now_cases : (k : Label) (j : ℕ) (x : Label) → field_at after k j ≡ Some (Block x)
          → (value ≡ Block x) ⊎ (((l ≡ k) × (i ≡ j) → ⊥) × (field_at now k j ≡ Some (Block x)))
      now_cases k j x at = label_cases ((value ≡ Block x) ⊎ (((l ≡ k) × (i ≡ j) → ⊥) × (field_at now k j ≡ Some (Block x)))) k l
          (λ same.
          let here : slice_get (set fields i value) j ≡ Some (Block x) = sym (here_now j) ∙ subst (λ z. field_at after z j ≡ Some (Block x)) same at in ⊎_elim
          (λ t. inl t.1)
          (λ t. inr ((λ u. t.0 u.1), subst (λ z. field_at now z j ≡ Some (Block x)) (sym same) (here_before j ∙ t.1)))
          (get_set fields i j value x here))
          (λ other. inr ((λ u. other (sym u.0)), sym (there k j other) ∙ at))

      pub covers_stores : Covers (with_node now l (Plain tag (set fields i value))) held (λ k j. same_label l k && eqb i j || over k j)
      covers_stores = record {
        grown = grown_written l (Plain tag fields) stored_node node;
        same = λ k j known kept. label_cases (field_at after k j ≡ field_at old k j) k l
            (λ same.
            let other : i ≡ j → ⊥ = λ at. never (more l j) (subst (λ z. more z j ≡ false) same kept) (more_here j at) in
            let here : field_at after l j ≡ field_at now l j = here_now j ∙ (get_set_other fields i j value other ∙ sym (here_before j)) in
            subst (λ z. field_at after z j ≡ field_at now z j) (sym same) here ∙ c.same k j known (more_not k j kept))
            (λ other. there k j other ∙ c.same k j known (more_not k j kept));
        lost = λ k j x h at. ⊎_elim
            (λ t. old_marked x (subst (λ z. field_at old l z ≡ Some (Block x)) (sym t.1) (subst (λ z. field_at old z j ≡ Some (Block x)) (sym t.0) at)))
            (λ was. c.lost k j x was at)
            (more_cases k j h);
        covered = c.covered;
        new_fields = λ k j x new at. ⊎_elim (λ is. covered_value x is) (λ was. c.new_fields k j x new was.1) (now_cases k j x at);
        stored = λ k j x h at. ⊎_elim
            (λ is. covered_value x is)
            (λ was. ⊎_elim (λ t. absurd (was.0 t)) (λ h'. c.stored k j x h' was.1) (more_cases k j h))
            (now_cases k j x at);
      }

    -- a block is made that refers to nothing
    module _ (l : Label) (n : Node) (fresh : has_label (labels now) l ≡ false) (empty : (i : ℕ) (x : Label) → field_in (Some n) i ≡ Some (Block x) → ⊥) where
      abbrev longer : Graph
      longer = now ++ (l, n) ∷ []

      node_stays : (g : Graph) (k : Label) → IsTrue (has_label (labels g) k) → node_at (g ++ (l, n) ∷ []) k ≡ node_at g k
      node_stays [] k h = cc
      node_stays (e ∷ g) k h = go (same_label e.0 k) (node_stays g k) h
        where
          go : (b : Bool) → (IsTrue (has_label (labels g) k) → node_at (g ++ (l, n) ∷ []) k ≡ node_at g k) → IsTrue (b || has_label (labels g) k)
              → cond b (Some e.1) (node_at (g ++ (l, n) ∷ []) k) ≡ cond b (Some e.1) (node_at g k)
          go true rest at = refl
          go false rest at = rest at

      field_cases : (k : Label) (i : ℕ) (x : Label) → field_at longer k i ≡ Some (Block x) → field_at now k i ≡ Some (Block x)
      field_cases k i x at = go (node_at longer k) refl at
        where
          go : (o : Option Node) → node_at longer k ≡ o → field_in o i ≡ Some (Block x) → field_at now k i ≡ Some (Block x)
          go None e is = cc
          go (Some m) e is = ⊎_elim
              (λ new. absurd (empty i x (subst (λ z. field_in (Some z) i ≡ Some (Block x)) new is)))
              (λ was. subst (λ o. field_in o i ≡ Some (Block x)) (sym was) is)
              (node_at-append_cases now (l, n) k m e)

      made_is_new : IsTrue (is_new old l)
      made_is_new = never_not (has_label (labels old) l) (λ h. never (has_label (labels now) l) fresh (c.grown l h))

      pub covers_makes : Covers (now ++ (l, n) ∷ []) (λ k. same_label l k || held k) over
      covers_makes = record {
        grown = λ k h. subst (λ z. IsTrue (has_label z k)) (sym (labels-append now ((l, n) ∷ []))) (has-append_left (labels now) (l ∷ []) k (c.grown k h));
        same = λ k i known kept. ap (λ o. field_in o i) (node_stays now k (c.grown k (known_label (has_label (labels old) k) known))) ∙ c.same k i known kept;
        lost = c.lost;
        covered = λ k h. ⊎_elim
            (λ here. cover_new k (subst (λ z. IsTrue (is_new old z)) (same_label-true l k here) made_is_new))
            (λ was. c.covered k was)
            (or_cases (same_label l k) (held k) h);
        new_fields = λ k i x new at. c.new_fields k i x new (field_cases k i x at);
        stored = λ k i x h at. c.stored k i x h (field_cases k i x at);
      }
