-- A new cell, whose ephemeron has no key, comes first in a chain: the table binds what it bound.
use Rattle.std.proofs.Common.{◌≡◌, ◌≢◌, inl, inr, ⊎_elim, ℕ, zero, suc, ◌<◌, Bool, true, false, not, eqb, eqb-true, eq-eqb, IsTrue, List, [], ◌∷◌, ◌++◌, length, get_or, set, flat_map, Option, Some, None, refl, ap, sym, ◌∙◌, subst, arith, length-set, get_or-set_same, get_or-set_other}
use Rattle.model_core.specs.declared.label.Label.{Label}
use Rattle.model_core.specs.declared.graph.Value.{Value}
use Rattle.model_core.specs.declared.graph.Value.TheVariants.{Block, Nothing}
use Rattle.model_core.specs.declared.graph.Node.{Node}
use Rattle.model_core.specs.declared.graph.Node.TheVariants.{Plain, Ephe}
use Rattle.model_core.specs.Graph.{Graph, same_label, has_label, node_at}
use Rattle.model_core.proofs.Graphs.GraphLemmas.{same_label-true, same_label_refl, same_label-false}
use Rattle.model_core.proofs.Reach.ReachLemmas.{or_cases, and_left, and_right, and_both, is_false, not_false}
use Rattle.weak_laws.specs.Tables.Structures.{Binding, Cell, bucket_count, is_weak, binding_of, chain_bindings, bindings, Links, cell_labels, table_labels, is_bucket, IsTable}
use Rattle.weak_laws.specs.Tables.Thinning.{ThinnedBy, Thin, Changes}
use Rattle.weak_laws.proofs.OfTables.BindingLemmas.{thinned_append, thinned_bucket, thinned_flat}
use Rattle.weak_laws.proofs.OfTables.OnceLemmas.{lacks, not_both, chain_label, more_labels, once_more}
use Rattle.weak_laws.proofs.OfTables.ChangeLemmas.{links_kept, chain_thinned, not_first}

-- an ephemeron without a key stays one
pub empty_stays : (P : Label → Type 0) (datum : Value) (o : Option Node) → Thin P (Ephe (None ∷ []) datum) o → o ≡ Some (Ephe (None ∷ []) datum)
empty_stays P datum o (inl same) = same
empty_stays P datum o (inr (k, is, gone, empty)) = let clash : ◌≡◌ {A = Option Label} None (Some k) = is in cc

-- bindings of chains of which one is another list with the same bindings
flat_set : (P : Label → Type 0) (f g : List Cell → List Binding) (css : List (List Cell)) (i : ℕ) (cs : List Cell) → i < length css → ThinnedBy P (f (get_or css i [])) (g cs)
    → ((t : ℕ) → t < length css → t ≢ i → ThinnedBy P (f (get_or css t [])) (g (get_or css t []))) → ThinnedBy P (flat_map f css) (flat_map g (set css i cs))
flat_set P f g [] i cs below here each = absurd (omega arith)
flat_set P f g (x ∷ css) zero cs below here each =
    thinned_append P _ _ _ _ here (thinned_flat P f g css (λ t inside. each (suc t) (omega arith) (λ same. let clash : suc t ≡ zero = same in absurd (omega arith))))
flat_set P f g (x ∷ css) (suc i) cs below here each =
    thinned_append P _ _ _ _ (each zero (omega arith) (λ same. absurd (omega arith)))
    (flat_set P f g css i cs (omega arith) here (λ t inside other. each (suc t) (omega arith) (λ same. other (omega arith))))

module _ (P : Label → Type 0) (g h : Graph) (root : Label) (chains : List (List Cell)) (table : IsTable g root chains) (i : ℕ) (below : i < bucket_count) (c : Cell) (tag : ℕ)
    (changes : Changes P (root ∷ []) g h) (at : node_at h root ≡ Some (Plain table.tag (set table.fields i (Block c.node))))
    (cell : node_at g c.node ≡ Some (Plain tag (Block c.ephe ∷ get_or table.fields i Nothing ∷ []))) (spare : node_at g c.ephe ≡ Some (Ephe (None ∷ []) Nothing))
    (fresh_node : has_label (table_labels root chains) c.node ≡ false) (fresh_ephe : has_label (table_labels root chains) c.ephe ≡ false) where
  abbrev more : List (List Cell)
  more = set chains i (c ∷ get_or chains i [])

  inside : i < length chains
  inside = subst (λ n. i < n) (sym table.count) below

  root_apart : has_label (flat_map cell_labels chains) root ≡ false
  root_apart = is_false _ (and_left (not (has_label (flat_map cell_labels chains) root)) _ table.once)

  node_new : (same_label root c.node ≡ false) × (has_label (flat_map cell_labels chains) c.node ≡ false)
  node_new = not_first root (flat_map cell_labels chains) c.node fresh_node

  ephe_new : (same_label root c.ephe ≡ false) × (has_label (flat_map cell_labels chains) c.ephe ≡ false)
  ephe_new = not_first root (flat_map cell_labels chains) c.ephe fresh_ephe

  other_than_root : (l : Label) → same_label root l ≡ false → has_label (root ∷ []) l ≡ false
  other_than_root l differ = rw differ refl

  node_after : node_at h c.node ≡ Some (Plain tag (Block c.ephe ∷ get_or table.fields i Nothing ∷ []))
  node_after = changes c.node _ cell (other_than_root c.node node_new.0)

  ephe_after : node_at h c.ephe ≡ Some (Ephe (None ∷ []) Nothing)
  ephe_after = empty_stays P Nothing (node_at h c.ephe) (changes c.ephe _ spare (other_than_root c.ephe ephe_new.0))

  differ : same_label c.ephe c.node ≡ false
  differ = same_label-false c.ephe c.node (λ same.
      let both : Some (Ephe (None ∷ []) Nothing) ≡ Some (Plain tag (Block c.ephe ∷ get_or table.fields i Nothing ∷ [])) = sym spare ∙ (ap (node_at g) same ∙ cell) in cc)

  apart : (t : ℕ) (l : Label) → IsTrue (has_label (cell_labels (get_or chains t [])) l) → has_label (root ∷ []) l ≡ false
  apart t l h = lacks (root ∷ []) l (λ mine. ⊎_elim
      (λ same. not_both (flat_map cell_labels chains) root (subst (λ k. IsTrue (has_label (flat_map cell_labels chains) k)) (sym (same_label-true root l same)) (chain_label chains t l h)) root_apart)
      (λ none. let clash : false ≡ true = none in cc)
      (or_cases (same_label root l) false mine))

  old_links : (t : ℕ) → t < bucket_count → Links h (get_or table.fields t Nothing) (get_or chains t [])
  old_links t few = links_kept P (root ∷ []) g h changes _ _ (apart t) (table.linked t few)

  old_thinned : (t : ℕ) → t < bucket_count → ThinnedBy P (chain_bindings g (get_or chains t [])) (chain_bindings h (get_or chains t []))
  old_thinned t few = chain_thinned P (root ∷ []) g h changes _ _ (apart t) (table.linked t few)

  -- the new cell binds nothing
  new_bindings : chain_bindings h (c ∷ get_or chains i []) ≡ chain_bindings h (get_or chains i [])
  new_bindings = ap (λ o. binding_of o ++ chain_bindings h (get_or chains i [])) ephe_after

  new_links : Links h (Block c.node) (c ∷ get_or chains i [])
  new_links = (
    refl,
    (
      get_or table.fields i Nothing,
      record { tag = tag; node = node_after; weak = subst (λ o. IsTrue (is_weak o)) (sym ephe_after) refl },
      old_links i below,
    ),
  )

  links_each : (t : ℕ) → t < bucket_count → (b : Bool) → eqb t i ≡ b → Links h (get_or (set table.fields i (Block c.node)) t Nothing) (get_or more t [])
  links_each t few true e =
      let is : t ≡ i = eqb-true t i e in
      let field : get_or (set table.fields i (Block c.node)) t Nothing ≡ Block c.node = ap (λ n. get_or (set table.fields i (Block c.node)) n Nothing) is ∙ get_or-set_same table.fields i (Block c.node) Nothing (subst (λ n. i < n) (sym table.size) below) in
      let chain : get_or more t [] ≡ c ∷ get_or chains i [] = ap (λ n. get_or more n []) is ∙ get_or-set_same chains i (c ∷ get_or chains i []) [] inside in
      subst (λ v. Links h v (get_or more t [])) (sym field) (subst (λ cs. Links h (Block c.node) cs) (sym chain) new_links)
  links_each t few false e =
      let other : t ≢ i = λ same. let clash : true ≡ false = sym (eq-eqb t i same) ∙ e in cc in
      let field : get_or (set table.fields i (Block c.node)) t Nothing ≡ get_or table.fields t Nothing = get_or-set_other table.fields i t (Block c.node) Nothing other in
      let chain : get_or more t [] ≡ get_or chains t [] = get_or-set_other chains i t (c ∷ get_or chains i []) [] other in
      subst (λ v. Links h v (get_or more t [])) (sym field) (subst (λ cs. Links h (get_or table.fields t Nothing) cs) (sym chain) (old_links t few))

  bucket_each : (t : ℕ) → t < bucket_count → (b : Bool) → eqb t i ≡ b → IsTrue (is_bucket t (chain_bindings h (get_or more t [])))
  bucket_each t few true e =
      let is : t ≡ i = eqb-true t i e in
      let chain : get_or more t [] ≡ c ∷ get_or chains i [] = ap (λ n. get_or more n []) is ∙ get_or-set_same chains i (c ∷ get_or chains i []) [] inside in
      subst (λ bs. IsTrue (is_bucket t bs)) (sym (ap (chain_bindings h) chain ∙ new_bindings))
      (subst (λ n. IsTrue (is_bucket n (chain_bindings h (get_or chains i [])))) (sym is) (thinned_bucket P i _ _ (old_thinned i below) (table.bucket i below)))
  bucket_each t few false e =
      let other : t ≢ i = λ same. let clash : true ≡ false = sym (eq-eqb t i same) ∙ e in cc in
      let chain : get_or more t [] ≡ get_or chains t [] = get_or-set_other chains i t (c ∷ get_or chains i []) [] other in
      subst (λ cs. IsTrue (is_bucket t (chain_bindings h cs))) (sym chain) (thinned_bucket P t _ _ (old_thinned t few) (table.bucket t few))

  pub table_linked : IsTable h root more
  table_linked = record {
    tag = table.tag;
    fields = set table.fields i (Block c.node);
    node = at;
    size = length-set table.fields i (Block c.node) ∙ table.size;
    count = length-set chains i (c ∷ get_or chains i []) ∙ table.count;
    linked = λ t few. links_each t few (eqb t i) refl;
    once = and_both _ _
        (not_false _ (lacks (flat_map cell_labels more) root (λ h. ⊎_elim
        (λ is. let clash : true ≡ false = sym (same_label_refl root) ∙ subst (λ k. same_label root k ≡ false) (sym is) node_new.0 in cc)
        (λ others. ⊎_elim
        (λ is. let clash : true ≡ false = sym (same_label_refl root) ∙ subst (λ k. same_label root k ≡ false) (sym is) ephe_new.0 in cc)
        (λ old. not_both (flat_map cell_labels chains) root old root_apart)
        others)
        (more_labels chains i c root inside h))))
        (once_more chains i c inside node_new.1 ephe_new.1 differ (and_right (not (has_label (flat_map cell_labels chains) root)) _ table.once));
    bucket = λ t few. bucket_each t few (eqb t i) refl;
  }

  pub bindings_linked : ThinnedBy P (bindings g chains) (bindings h more)
  bindings_linked = flat_set P (chain_bindings g) (chain_bindings h) chains i (c ∷ get_or chains i []) inside
      (subst (λ bs. ThinnedBy P (chain_bindings g (get_or chains i [])) bs) (sym new_bindings) (old_thinned i below))
      (λ t few other. old_thinned t (subst (λ n. t < n) table.count few))
