-- The laws of tables and weak arrays.
use Rattle.std.proofs.Common.{◌≡◌, ◌⊎◌, inl, inr, ⊎_elim, ℕ, zero, suc, ◌+◌, ◌<◌, ◌%◌, Bool, true, false, IsTrue, List, [], ◌∷◌, ◌++◌, length, get_or, flat_map, filter_map, Option, Some, None, refl, ap, sym, ◌∙◌, subst, arith}
use Rattle.std.specs.List.{list_all}
use Rattle.std.specs.Option.{option_map_or}
use Rattle.model_core.specs.declared.label.Label.{Label}
use Rattle.model_core.specs.declared.entry.Entry.TheVariants.{Collected}
use Rattle.model_core.specs.declared.graph.Value.{Value}
use Rattle.model_core.specs.declared.graph.Value.TheVariants.{Block}
use Rattle.model_core.specs.declared.graph.Node.{Node}
use Rattle.model_core.specs.declared.graph.Node.TheVariants.{Plain, Raw, Ephe}
use Rattle.model_core.specs.declared.state.State.{State}
use Rattle.model_core.specs.Graph.{Graph, same_label, has_label, has_no_repeats, label_of, node_at}
use Rattle.model_core.specs.Domains.{opening, reach}
use Rattle.model_core.specs.Entries.{CollectedAllowed, keys_are_live, has_live_keys, next}
use Rattle.model_core.specs.Reach.{edges_of, IsClosedUnder}
use Rattle.model_core.proofs.Graphs.GraphLemmas.{same_label-true, same_label_refl}
use Rattle.model_core.proofs.Collections.CollectedLemmas.{reach_fresh}
use Rattle.model_core.proofs.Collections.CollectionLemmas.{all_has}
use Rattle.model_core.proofs.Histories.HistoryLemmas.{state_after-push}
use Rattle.model_core.proofs.Histories.WellFormedLemmas.{reach_after}
use Rattle.model_core.proofs.Reach.LabelListLemmas.{no_repeats_append}
use Rattle.model_core.proofs.Reach.ReachLemmas.{or_cases, or_left, or_right, and_left, and_right, and_both, not_false, has-append_cases}
use Rattle.weak_laws.specs.Tables.Structures.{Binding, Cell, bucket_count, is_weak, key_of, bound, binding_of, keys_of, chain_bindings, bindings, Links, is_bucket, IsTable, slot_keys}
use Rattle.weak_laws.specs.Tables.Thinning.{state_of, IsOutside, EmptiedBy, Thin, Changes}
use Rattle.weak_laws.specs.Tables.TableLaws.{TakesFromTables, TakesFromArrays, CollectedKeysAreReached, KeysDiffer}
use Rattle.weak_laws.proofs.OfTables.LookupLemmas.{bucket_parts}
use Rattle.weak_laws.proofs.OfTables.ChangeLemmas.{table_kept, bindings_thinned, array_kept}
use Rattle.weak_laws.proofs.OfTables.CollectorLemmas.{collector_outside, field_named}
use Rattle.weak_laws.proofs.OfTables.StepLemmas.{legal_parts}

pub tables_law : TakesFromTables
tables_law s e mine allowed root chains table =
    let changes = collector_outside s e mine allowed in
    (table_kept (IsOutside s) [] s.graph (next s e).graph changes root chains (λ l h. refl) table, bindings_thinned (IsOutside s) [] s.graph (next s e).graph changes root chains (λ l h. refl) table)

-- the keys of slots
module _ (P : Label → Type 0) (own : List Label) (g h : Graph) (changes : Changes P own g h) where
  pub key_emptied : (o : Option Node) → IsTrue (is_weak o) → (left : Option Node) → ((n : Node) → o ≡ Some n → Thin P n left) → (key_of left ≡ key_of o) ⊎ ((key_of left ≡ None) × ((k : Label) × (key_of o ≡ Some k) × P k))
  key_emptied None w left each = cc
  key_emptied (Some (Plain tag fields)) w left each = cc
  key_emptied (Some (Raw tag fields)) w left each = cc
  key_emptied (Some (Ephe [] datum)) w left each = cc
  key_emptied (Some (Ephe (key ∷ other ∷ keys) datum)) w left each = cc
  key_emptied (Some (Ephe (key ∷ []) datum)) w left each = go (each (Ephe (key ∷ []) datum) refl)
    where
      go : Thin P (Ephe (key ∷ []) datum) left → (key_of left ≡ key) ⊎ ((key_of left ≡ None) × ((k : Label) × (key ≡ Some k) × P k))
      go (inl same) = inl (ap key_of same)
      go (inr (k, is, gone, empty)) = inr (ap key_of empty, (k, is, gone))

  pub keys_emptied : (slots : List Label) → ((l : Label) → IsTrue (has_label slots l) → has_label own l ≡ false) → IsTrue (list_all (λ e. is_weak (node_at g e)) slots) → EmptiedBy P (slot_keys g slots) (slot_keys h slots)
  keys_emptied [] apart weak = refl
  keys_emptied (e ∷ slots) apart weak = (
    key_of (node_at h e),
    slot_keys h slots,
    refl,
    key_emptied (node_at g e) (and_left (is_weak (node_at g e)) _ weak) (node_at h e) (λ n at. changes e n at (apart e (or_left (same_label e e) _ (same_label_refl e)))),
    keys_emptied slots (λ l later. apart l (or_right (same_label e l) _ later)) (and_right (is_weak (node_at g e)) _ weak),
  )

pub arrays_law : TakesFromArrays
arrays_law s e mine allowed root slots array =
    let changes = collector_outside s e mine allowed in
    (array_kept (IsOutside s) [] s.graph (next s e).graph changes root slots (λ l h. refl) array, keys_emptied (IsOutside s) [] s.graph (next s e).graph changes slots (λ l h. refl) array.weak)

-- what a set that is closed holds of a table that it holds
module _ (g : Graph) (alive : Label → Bool) (closed : IsClosedUnder g alive) where
  edge : (l m : Label) (tag : ℕ) (fields : List Value) → IsTrue (alive l) → node_at g l ≡ Some (Plain tag fields) → IsTrue (has_label (filter_map label_of fields) m) → IsTrue (alive m)
  edge l m tag fields lives at named = closed l m lives (subst (λ o. IsTrue (has_label (option_map_or (edges_of alive) o []) m)) (sym at) named)

  -- each key in a chain, if each full key of an ephemeron that is held is held
  module _ (keys : (l : Label) → IsTrue (alive l) → IsTrue (keys_are_live alive (node_at g l))) where
    key_held : (o : Option Node) (k : Label) → IsTrue (keys_are_live alive o) → IsTrue (has_label (keys_of (binding_of o)) k) → IsTrue (alive k)
    key_held None k live h = let clash : false ≡ true = h in cc
    key_held (Some (Plain tag fields)) k live h = let clash : false ≡ true = h in cc
    key_held (Some (Raw tag fields)) k live h = let clash : false ≡ true = h in cc
    key_held (Some (Ephe [] datum)) k live h = let clash : false ≡ true = h in cc
    key_held (Some (Ephe (key ∷ other ∷ more) datum)) k live h = let clash : false ≡ true = h in cc
    key_held (Some (Ephe (None ∷ []) datum)) k live h = let clash : false ≡ true = h in cc
    key_held (Some (Ephe (Some l ∷ []) datum)) k live h =
        let same : l ≡ k = ⊎_elim (λ here. same_label-true l k here) (λ none. absurd (let clash : false ≡ true = none in cc)) (or_cases (same_label l k) false h) in
        subst (λ x. IsTrue (alive x)) same (and_left (alive l) true live)

    keys-append : (a b : List Binding) → keys_of (a ++ b) ≡ keys_of a ++ keys_of b
    keys-append [] b = refl
    keys-append (x ∷ a) b = ap (λ (l : List Label). x.0 ∷ l) (keys-append a b)

    chain_held : (v : Value) (cells : List Cell) (k : Label) → Links g v cells → ((m : Label) → v ≡ Block m → IsTrue (alive m)) → IsTrue (has_label (keys_of (chain_bindings g cells)) k) → IsTrue (alive k)
    chain_held v [] k links lives h = let clash : false ≡ true = h in cc
    chain_held v (c ∷ cs) k (here, (rest, cell, later)) lives h =
        let node = lives c.node here in
        let ephe = edge c.node c.ephe cell.tag _ node cell.node (field_named (Block c.ephe ∷ rest ∷ []) 0 c.ephe refl) in
        ⊎_elim (λ first. key_held (node_at g c.ephe) k (keys c.ephe ephe) first)
        (λ behind. chain_held rest cs k later (λ m is. edge c.node m cell.tag _ node cell.node (field_named (Block c.ephe ∷ rest ∷ []) 1 m is)) behind)
        (has-append_cases (keys_of (binding_of (node_at g c.ephe))) (keys_of (chain_bindings g cs)) k
        (subst (λ ls. IsTrue (has_label ls k)) (keys-append (binding_of (node_at g c.ephe)) (chain_bindings g cs)) h))

    flat_held : (css : List (List Cell)) (k : Label) → IsTrue (has_label (keys_of (flat_map (chain_bindings g) css)) k) → (i : ℕ) × (i < length css) × IsTrue (has_label (keys_of (chain_bindings g (get_or css i []))) k)
    flat_held [] k h = absurd (let clash : false ≡ true = h in cc)
    flat_held (cs ∷ css) k h =
        ⊎_elim (λ here. (0, omega arith, here)) (λ later. let t = flat_held css k later in (suc t.0, (let b : t.0 < length css = t.1 in omega arith), t.2))
        (has-append_cases (keys_of (chain_bindings g cs)) (keys_of (flat_map (chain_bindings g) css)) k
        (subst (λ ls. IsTrue (has_label ls k)) (keys-append (chain_bindings g cs) (flat_map (chain_bindings g) css)) h))

    pub table_keys_held : (root : Label) (chains : List (List Cell)) (k : Label) → IsTable g root chains → IsTrue (alive root) → IsTrue (has_label (keys_of (bindings g chains)) k) → IsTrue (alive k)
    table_keys_held root chains k table lives h =
        let t = flat_held chains k h in
        chain_held _ _ k (table.linked t.0 (subst (λ n. t.0 < n) table.count t.1)) (λ m is. edge root m table.tag table.fields lives table.node (field_named table.fields t.0 m is)) t.2

pub collected_law : CollectedKeysAreReached
collected_law z h legal root chains table reached k bound =
    let s = state_of z h in
    let allowed : CollectedAllowed s = (legal_parts (opening z) h (Collected ∷ []) legal).1.0 in
    let there : state_of z (h ++ Collected ∷ []) ≡ next s Collected = state_after-push (opening z) h Collected in
    let same : reach (state_of z (h ++ Collected ∷ [])) ≡ reach s = ap reach there ∙ reach_fresh s in
    let graph : (state_of z (h ++ Collected ∷ [])).graph ≡ s.graph = ap (λ (t : State). t.graph) there in
    let lives : IsTrue (has_label (reach s) root) = subst (λ ls. IsTrue (has_label ls root)) same reached in
    subst (λ ls. IsTrue (has_label ls k)) (sym same)
    (table_keys_held s.graph (has_label (reach s)) (reach_after z h).closed (λ l live. all_has (λ l. has_live_keys s (node_at s.graph l)) (reach s) allowed.keys l live) root chains k
    (subst (λ (g : Graph). IsTable g root chains) graph table) lives (subst (λ (g : Graph). IsTrue (has_label (keys_of (bindings g chains)) k)) graph bound))

-- the keys of one bucket are of it, and differ
bucket_keys : (i : ℕ) (bs : List Binding) (k : Label) → IsTrue (is_bucket i bs) → IsTrue (has_label (keys_of bs) k) → k.serial % bucket_count ≡ i
bucket_keys i [] k h there = absurd (let clash : false ≡ true = there in cc)
bucket_keys i (b ∷ bs) k h there =
    let p = bucket_parts i b bs h in
    ⊎_elim (λ here. ap (λ (l : Label). l.serial % bucket_count) (sym (same_label-true b.0 k here)) ∙ p.placed) (λ later. bucket_keys i bs k p.rest later) (or_cases (same_label b.0 k) _ there)

bucket_once : (i : ℕ) (bs : List Binding) → IsTrue (is_bucket i bs) → IsTrue (has_no_repeats (keys_of bs))
bucket_once i [] h = refl
bucket_once i (b ∷ bs) h = let p = bucket_parts i b bs h in and_both _ _ (not_false _ p.once) (bucket_once i bs p.rest)

pairs_append : (a b : List Binding) → keys_of (a ++ b) ≡ keys_of a ++ keys_of b
pairs_append [] b = refl
pairs_append (x ∷ a) b = ap (λ (l : List Label). x.0 ∷ l) (pairs_append a b)

module _ (f : List Cell → List Binding) where
  placed_behind : (o : ℕ) (css : List (List Cell)) (k : Label) → ((t : ℕ) → t < length css → IsTrue (is_bucket (o + t) (f (get_or css t [])))) → IsTrue (has_label (keys_of (flat_map f css)) k)
      → (t : ℕ) × (k.serial % bucket_count ≡ o + t)
  placed_behind o [] k each h = absurd (let clash : false ≡ true = h in cc)
  placed_behind o (cs ∷ css) k each h = ⊎_elim
      (λ here. (0, bucket_keys (o + 0) (f cs) k (each zero (omega arith)) here))
      (λ later. let t = placed_behind (o + 1) css k (λ t below. let same : o + suc t ≡ o + 1 + t = omega arith in subst (λ n. IsTrue (is_bucket n (f (get_or css t [])))) same (each (suc t) (omega arith))) later in
      let same : o + 1 + t.0 ≡ o + suc t.0 = omega arith in (suc t.0, t.1 ∙ same))
      (has-append_cases (keys_of (f cs)) (keys_of (flat_map f css)) k (subst (λ ls. IsTrue (has_label ls k)) (pairs_append (f cs) (flat_map f css)) h))

  flat_once : (o : ℕ) (css : List (List Cell)) → ((t : ℕ) → t < length css → IsTrue (is_bucket (o + t) (f (get_or css t [])))) → IsTrue (has_no_repeats (keys_of (flat_map f css)))
  flat_once o [] each = refl
  flat_once o (cs ∷ css) each =
      let later : (t : ℕ) → t < length css → IsTrue (is_bucket (o + 1 + t) (f (get_or css t []))) =
      λ t below. let same : o + suc t ≡ o + 1 + t = omega arith in subst (λ n. IsTrue (is_bucket n (f (get_or css t [])))) same (each (suc t) (omega arith)) in
      subst (λ ls. IsTrue (has_no_repeats ls)) (sym (pairs_append (f cs) (flat_map f css)))
      (no_repeats_append (keys_of (f cs)) (keys_of (flat_map f css)) (bucket_once (o + 0) (f cs) (each zero (omega arith))) (flat_once (o + 1) css later)
      (λ l first second.
      let here = bucket_keys (o + 0) (f cs) l (each zero (omega arith)) first in
      let there = placed_behind (o + 1) css l later second in
      let where_is = there.1 in
      absurd (omega (arith, here, where_is))))

pub differ_law : KeysDiffer
differ_law g root chains table =
    flat_once (chain_bindings g) 0 chains
    (λ t below. let same : t ≡ 0 + t = omega arith in subst (λ n. IsTrue (is_bucket n (chain_bindings g (get_or chains t [])))) same (table.bucket t (subst (λ n. t < n) table.count below)))
