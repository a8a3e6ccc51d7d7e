-- How far a domain is in a block: which fields it has done in a scan, which keys it has looked at, and which keys it will empty.
use Rattle.std.specs.Prelude.{◌≡◌, ℕ, suc, ◌<◌, ◌≤◌, Bool, false, not, ◌==◌, IsTrue, List, [], ◌∷◌, ◌++◌, length, slice_get, Option, Some}
use Rattle.std.specs.List.{list_all, list_any}
use Rattle.model_core.specs.declared.label.Label.{Label}
use Rattle.model_core.specs.declared.graph.Value.{Value}
use Rattle.model_core.specs.declared.graph.Value.TheVariants.{Block}
use Rattle.model_core.specs.declared.graph.Node.TheVariants.{Plain, Ephe}
use Rattle.model_core.specs.Graph.{Graph, node_at}
use Rattle.model_core.specs.Entries.{is_some_and, is_rising}
use Rattle.model_cycle.specs.Marks.{FieldsMarked, KeysMarked}

-- the blocks in the first i fields are marked
abbrev pub FieldsDone : (Label → Bool) → List Value → ℕ → Type 0
FieldsDone marked fields i = (p : ℕ) (x : Label) → p < i → slice_get fields p ≡ Some (Block x) → IsTrue (marked x)

-- of the first i keys those that are full are marked
abbrev pub KeysDone : (Label → Bool) → List (Option Label) → ℕ → Type 0
KeysDone marked keys i = (p : ℕ) (k : Label) → p < i → slice_get keys p ≡ Some (Some k) → IsTrue (marked k)

-- of the first i keys those at these places are unmarked, and the other full ones are marked
pub record KeysFound (marked : Label → Bool) (keys : List (Option Label)) (i : ℕ) (places : List ℕ) : Type 0 where
  pub rising : (p : ℕ) (ps : List ℕ) → places ≡ p ∷ ps → IsTrue (is_rising places)
  pub below : (q : ℕ) → IsTrue (list_any (λ p. p == q) places) → q < i
  pub unmarked : IsTrue (list_all (λ p. is_some_and (is_some_and (λ k. not (marked k))) (slice_get keys p)) places)
  pub others : (p : ℕ) (k : Label) → p < i → slice_get keys p ≡ Some (Some k) → list_any (λ q. q == p) places ≡ false → IsTrue (marked k)

-- a domain goes through a block from its first field, or key, to its last
pub record ProgressLaw : Type 0 where
  -- the scan of a plain block
  pub fields_start : (marked : Label → Bool) (fields : List Value) → FieldsDone marked fields 0
  pub fields_next : (marked : Label → Bool) (fields : List Value) (i : ℕ) → FieldsDone marked fields i
      → ((x : Label) → slice_get fields i ≡ Some (Block x) → IsTrue (marked x)) → FieldsDone marked fields (suc i)
  pub fields_end : (g : Graph) (marked : Label → Bool) (l : Label) (tag : ℕ) (fields : List Value) (i : ℕ) → node_at g l ≡ Some (Plain tag fields)
      → FieldsDone marked fields i → length fields ≤ i → FieldsMarked g marked l
  -- the look at an ephemeron's keys
  pub keys_start : (marked : Label → Bool) (keys : List (Option Label)) → KeysDone marked keys 0
  pub keys_next : (marked : Label → Bool) (keys : List (Option Label)) (i : ℕ) → KeysDone marked keys i
      → ((k : Label) → slice_get keys i ≡ Some (Some k) → IsTrue (marked k)) → KeysDone marked keys (suc i)
  pub keys_end : (g : Graph) (marked : Label → Bool) (l : Label) (keys : List (Option Label)) (datum : Value) (i : ℕ) → node_at g l ≡ Some (Ephe keys datum)
      → KeysDone marked keys i → length keys ≤ i → KeysMarked g marked l
  -- a key that isn't marked tells that not all are
  pub keys_fail : (g : Graph) (marked : Label → Bool) (l : Label) (keys : List (Option Label)) (datum : Value) (p : ℕ) (k : Label) → node_at g l ≡ Some (Ephe keys datum)
      → slice_get keys p ≡ Some (Some k) → IsTrue (not (marked k)) → KeysMarked g marked l → ⊥
  -- the search for unmarked keys
  pub found_start : (marked : Label → Bool) (keys : List (Option Label)) → KeysFound marked keys 0 []
  pub found_passes : (marked : Label → Bool) (keys : List (Option Label)) (i : ℕ) (places : List ℕ) → KeysFound marked keys i places
      → ((k : Label) → slice_get keys i ≡ Some (Some k) → IsTrue (marked k)) → KeysFound marked keys (suc i) places
  pub found_takes : (marked : Label → Bool) (keys : List (Option Label)) (i : ℕ) (places : List ℕ) → KeysFound marked keys i places
      → (k : Label) → slice_get keys i ≡ Some (Some k) → IsTrue (not (marked k)) → KeysFound marked keys (suc i) (places ++ i ∷ [])
  pub found_end : (marked : Label → Bool) (keys : List (Option Label)) (i : ℕ) (places : List ℕ) → KeysFound marked keys i places → length keys ≤ i
      → (p : ℕ) (k : Label) → slice_get keys p ≡ Some (Some k) → list_any (λ q. q == p) places ≡ false → IsTrue (marked k)
