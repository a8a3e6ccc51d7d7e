-- A domain goes through a block field by field, or key by key.
use Rattle.std.proofs.Common.{ap, ◌≡◌, ◌⊎◌, inl, inr, ⊎_elim, ℕ, suc, ◌<◌, ◌≤◌, arith, Bool, true, false, not, nat_lt, ◌||◌, IsTrue, List, [], ◌∷◌, ◌++◌, length, slice_get, Option, Some, refl, sym, ◌∙◌, subst, eqb, eq-eqb, eqb-true}
use Rattle.std.proofs.lemmas.Option.{slice_get_within}
use Rattle.std.specs.List.{list_all, list_any}
use Rattle.std.proofs.lemmas.Bool.{lt-ltb}
use Rattle.model_core.specs.declared.label.Label.{Label}
use Rattle.model_core.specs.declared.graph.Value.{Value}
use Rattle.model_core.specs.declared.graph.Value.TheVariants.{Block}
use Rattle.model_core.specs.declared.graph.Node.TheVariants.{Plain, Ephe}
use Rattle.model_core.specs.Graph.{Graph, label_of, node_at}
use Rattle.model_core.specs.Reach.{HoldsRoots}
use Rattle.model_core.specs.Entries.{is_some_and, is_rising, full_keys}
use Rattle.model_core.proofs.Reach.ReachLemmas.{not_true, or_cases, or_left, or_right, and_left, and_right, and_both}
use Rattle.model_cycle.specs.Marks.{fields_of, FieldsMarked, KeysMarked}
use Rattle.model_cycle.specs.Progress.{ProgressLaw, FieldsDone, KeysDone, KeysFound}
use Rattle.model_cycle.proofs.DomainParts.{listed_at, listed_cases, is_block}
use Rattle.model_cycle.proofs.Sharing.{last_or}

-- fields
pub fields_start : (marked : Label → Bool) (fields : List Value) → FieldsDone marked fields 0
fields_start marked fields p x lt at = absurd (omega arith)

pub fields_next : (marked : Label → Bool) (fields : List Value) (i : ℕ) → FieldsDone marked fields i
    → ((x : Label) → slice_get fields i ≡ Some (Block x) → IsTrue (marked x)) → FieldsDone marked fields (suc i)
fields_next marked fields i done here p x lt at = ⊎_elim
    (λ less. done p x less at)
    (λ same. here x (subst (λ j. slice_get fields j ≡ Some (Block x)) same at))
    (last_or p i lt)

pub fields_end : (g : Graph) (marked : Label → Bool) (l : Label) (tag : ℕ) (fields : List Value) (i : ℕ) → node_at g l ≡ Some (Plain tag fields)
    → FieldsDone marked fields i → length fields ≤ i → FieldsMarked g marked l
fields_end g marked l tag fields i node done all = subst (λ o. HoldsRoots (fields_of o) marked) (sym node)
    (λ x h. let t = listed_cases label_of fields x h in let inside = slice_get_within fields t.0 t.1 t.2 in
    done t.0 x (omega (arith, inside, all)) (t.2 ∙ ap Some (is_block t.1 x t.3)))

-- keys
pub keys_start : (marked : Label → Bool) (keys : List (Option Label)) → KeysDone marked keys 0
keys_start marked keys p k lt at = absurd (omega arith)

pub keys_next : (marked : Label → Bool) (keys : List (Option Label)) (i : ℕ) → KeysDone marked keys i
    → ((k : Label) → slice_get keys i ≡ Some (Some k) → IsTrue (marked k)) → KeysDone marked keys (suc i)
keys_next marked keys i done here p k lt at = ⊎_elim
    (λ less. done p k less at)
    (λ same. here k (subst (λ j. slice_get keys j ≡ Some (Some k)) same at))
    (last_or p i lt)

pub keys_end : (g : Graph) (marked : Label → Bool) (l : Label) (keys : List (Option Label)) (datum : Value) (i : ℕ) → node_at g l ≡ Some (Ephe keys datum)
    → KeysDone marked keys i → length keys ≤ i → KeysMarked g marked l
keys_end g marked l keys datum i node done all = subst (λ o. HoldsRoots (full_keys o) marked) (sym node)
    (λ k h. let t = listed_cases (λ o. o) keys k h in let inside = slice_get_within keys t.0 t.1 t.2 in
    done t.0 k (omega (arith, inside, all)) (t.2 ∙ ap Some t.3))

pub keys_fail : (g : Graph) (marked : Label → Bool) (l : Label) (keys : List (Option Label)) (datum : Value) (p : ℕ) (k : Label) → node_at g l ≡ Some (Ephe keys datum)
    → slice_get keys p ≡ Some (Some k) → IsTrue (not (marked k)) → KeysMarked g marked l → ⊥
keys_fail g marked l keys datum p k node at un all =
    not_true (marked k) un (subst (λ o. HoldsRoots (full_keys o) marked) node all k (listed_at (λ o. o) keys p (Some k) k at refl))

-- unmarked keys
pub found_start : (marked : Label → Bool) (keys : List (Option Label)) → KeysFound marked keys 0 []
found_start marked keys = record {
  rising = λ p ps e. cc;
  below = λ q h. let clash : false ≡ true = h in cc;
  unmarked = refl;
  others = λ p k lt at none. absurd (omega arith);
}

pub found_passes : (marked : Label → Bool) (keys : List (Option Label)) (i : ℕ) (places : List ℕ) → KeysFound marked keys i places
    → ((k : Label) → slice_get keys i ≡ Some (Some k) → IsTrue (marked k)) → KeysFound marked keys (suc i) places
found_passes marked keys i places found here = record {
  rising = found.rising;
  below = λ q h. let lt = found.below q h in omega (arith, lt);
  unmarked = found.unmarked;
  others = λ p k lt at none. ⊎_elim
      (λ less. found.others p k less at none)
      (λ same. here k (subst (λ j. slice_get keys j ≡ Some (Some k)) same at))
      (last_or p i lt);
}

-- one more place, above the others
rising_push : (places : List ℕ) (i : ℕ) → ((q : ℕ) → IsTrue (list_any (λ p. eqb p q) places) → q < i) → ((p : ℕ) (ps : List ℕ) → places ≡ p ∷ ps → IsTrue (is_rising places))
    → IsTrue (is_rising (places ++ i ∷ []))
rising_push [] i below rising = refl
rising_push (p ∷ []) i below rising =
    and_both (nat_lt p i) true (lt-ltb p i (below p (or_left (eqb p p) false (eq-eqb p p refl)))) refl
rising_push (p ∷ q ∷ ps) i below rising =
    let all : IsTrue (is_rising (p ∷ q ∷ ps)) = rising p (q ∷ ps) refl in
    and_both (nat_lt p q) (is_rising ((q ∷ ps) ++ i ∷ []))
    (and_left (nat_lt p q) (is_rising (q ∷ ps)) all)
    (rising_push (q ∷ ps) i
    (λ r h. below r (or_right (eqb p r) (list_any (λ s. eqb s r) (q ∷ ps)) h))
    (λ _ _ _. and_right (nat_lt p q) (is_rising (q ∷ ps)) all))

all_push : (test : ℕ → Bool) (places : List ℕ) (i : ℕ) → IsTrue (list_all test places) → IsTrue (test i) → IsTrue (list_all test (places ++ i ∷ []))
all_push test [] i all here = and_both (test i) true here refl
all_push test (p ∷ ps) i all here = and_both (test p) (list_all test (ps ++ i ∷ [])) (and_left (test p) (list_all test ps) all)
    (all_push test ps i (and_right (test p) (list_all test ps) all) here)

any_push : (places : List ℕ) (i q : ℕ) → IsTrue (list_any (λ p. eqb p q) (places ++ i ∷ [])) → IsTrue (list_any (λ p. eqb p q) places) ⊎ (i ≡ q)
any_push [] i q h = ⊎_elim (λ here. inr (eqb-true i q here)) (λ none. let clash : false ≡ true = none in cc) (or_cases (eqb i q) false h)
any_push (p ∷ ps) i q h = ⊎_elim
    (λ here. inl (or_left (eqb p q) (list_any (λ r. eqb r q) ps) here))
    (λ later. ⊎_elim (λ a. inl (or_right (eqb p q) (list_any (λ r. eqb r q) ps) a)) (λ b. inr b) (any_push ps i q later))
    (or_cases (eqb p q) (list_any (λ r. eqb r q) (ps ++ i ∷ [])) h)

any_none : (places : List ℕ) (i q : ℕ) → list_any (λ p. eqb p q) (places ++ i ∷ []) ≡ false → (list_any (λ p. eqb p q) places ≡ false) × (i ≡ q → ⊥)
any_none [] i q e = (refl, (λ same. let here : eqb i q ≡ true = eq-eqb i q same in let clash : true ≡ false = sym (or_left (eqb i q) false here) ∙ e in cc))
any_none (p ∷ ps) i q e = go (eqb p q) (any_none ps i q) e
  where
    go : (b : Bool) → (list_any (λ r. eqb r q) (ps ++ i ∷ []) ≡ false → (list_any (λ r. eqb r q) ps ≡ false) × (i ≡ q → ⊥))
        → b || list_any (λ r. eqb r q) (ps ++ i ∷ []) ≡ false → (b || list_any (λ r. eqb r q) ps ≡ false) × (i ≡ q → ⊥)
    go true rest e = cc
    go false rest e = rest e

pub found_takes : (marked : Label → Bool) (keys : List (Option Label)) (i : ℕ) (places : List ℕ) → KeysFound marked keys i places
    → (k : Label) → slice_get keys i ≡ Some (Some k) → IsTrue (not (marked k)) → KeysFound marked keys (suc i) (places ++ i ∷ [])
found_takes marked keys i places found k at un = record {
  rising = λ _ _ _. rising_push places i found.below found.rising;
  below = λ q h. ⊎_elim (λ old. let lt = found.below q old in omega (arith, lt)) (λ same. omega (arith, same)) (any_push places i q h);
  unmarked = all_push (λ p. is_some_and (is_some_and (λ j. not (marked j))) (slice_get keys p)) places i found.unmarked
      (subst (λ o. IsTrue (is_some_and (is_some_and (λ j. not (marked j))) o)) (sym at) un);
  others = λ p j lt there none. let t = any_none places i p none in ⊎_elim
      (λ less. found.others p j less there t.0)
      (λ same. absurd (t.1 (sym same)))
      (last_or p i lt);
}

pub found_end : (marked : Label → Bool) (keys : List (Option Label)) (i : ℕ) (places : List ℕ) → KeysFound marked keys i places → length keys ≤ i
    → (p : ℕ) (k : Label) → slice_get keys p ≡ Some (Some k) → list_any (λ q. eqb q p) places ≡ false → IsTrue (marked k)
found_end marked keys i places found all p k at none = let inside = slice_get_within keys p (Some k) at in found.others p k (omega (arith, inside, all)) at none

pub progress_law : ProgressLaw
progress_law = record {
  fields_start = fields_start;
  fields_next = fields_next;
  fields_end = fields_end;
  keys_start = keys_start;
  keys_next = keys_next;
  keys_end = keys_end;
  keys_fail = keys_fail;
  found_start = found_start;
  found_passes = found_passes;
  found_takes = found_takes;
  found_end = found_end;
}
