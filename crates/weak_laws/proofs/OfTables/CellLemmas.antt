-- Where a cell's ephemeron gets another key or datum, and where a chain gets a cell more, a table stays a table.
use Rattle.std.proofs.Common.{◌≡◌, ◌≢◌, inr, ⊎_elim, ℕ, ◌<◌, ◌%◌, Bool, true, false, not, eqb, eqb-true, eq-eqb, IsTrue, List, [], ◌∷◌, ◌++◌, get_or, flat_map, Option, Some, None, refl, ap, sym, ◌∙◌, subst}
use Rattle.std.proofs.lemmas.Grind.{flat_map-append}
use Rattle.model_core.specs.declared.label.Label.{Label}
use Rattle.model_core.specs.declared.graph.Value.{Value}
use Rattle.model_core.specs.declared.graph.Value.TheVariants.{Nothing}
use Rattle.model_core.specs.declared.graph.Node.TheVariants.{Plain, Ephe}
use Rattle.model_core.specs.Graph.{Graph, same_label, has_label, has_no_repeats, node_at}
use Rattle.model_core.specs.Commands.{is_full_value}
use Rattle.model_core.proofs.Graphs.GraphLemmas.{same_label-true, same_label_refl, same_label-false}
use Rattle.model_core.proofs.Reach.ReachLemmas.{or_cases, or_left, or_right, and_right}
use Rattle.weak_laws.specs.Tables.Structures.{Binding, Cell, bucket_count, is_weak, bound, binding_of, chain_bindings, bindings, without, datum_at, IsCell, Links, cell_labels, is_bucket, IsTable, head_of}
use Rattle.weak_laws.specs.Tables.Thinning.{ThinnedBy, Changes}
use Rattle.weak_laws.proofs.OfTables.BindingLemmas.{thinned_append, thinned_bucket, thinned_without, thinned_more, without_append}
use Rattle.weak_laws.proofs.OfTables.LookupLemmas.{bucket_insert, without_flat}
use Rattle.weak_laws.proofs.OfTables.OnceLemmas.{lacks, not_both, one_chain, other_chain, other_cells}
use Rattle.weak_laws.proofs.OfTables.ChangeLemmas.{not_first, weak_kept, chain_thinned}

-- what leads to cells
pub links_head : (g : Graph) (v : Value) (cells : List Cell) → Links g v cells → v ≡ head_of cells
links_head g v [] links = links
links_head g v (c ∷ cs) links = links.0

pub links_behind : (g : Graph) (v : Value) (a b : List Cell) → Links g v (a ++ b) → Links g (head_of b) b
links_behind g v [] b links = subst (λ x. Links g x b) (links_head g v b links) links
links_behind g v (c ∷ a) b (here, (rest, cell, later)) = links_behind g rest a b later

-- a block of a cell is no ephemeron
pub node_is_plain : (g : Graph) (l e : Label) (tag : ℕ) (fields : List Value) → node_at g l ≡ Some (Plain tag fields) → IsTrue (is_weak (node_at g e)) → same_label e l ≡ false
node_is_plain g l e tag fields plain weak = same_label-false e l (λ same. let clash : IsTrue (is_weak (Some (Plain tag fields))) = subst (λ o. IsTrue (is_weak o)) (ap (node_at g) same ∙ plain) weak in cc)

alone : (e l : Label) → same_label e l ≡ false → has_label (e ∷ []) l ≡ false
alone e l differ = rw differ refl

-- anything may be taken
Any : Label → Type 0
Any k = Unit {0}

all_taken : (bs : List Binding) → ThinnedBy (λ k. Unit {0}) bs []
all_taken [] = refl
all_taken (b ∷ bs) = inr (tt, all_taken bs)

to_any : (P : Label → Type 0) (a b : List Binding) → ThinnedBy P a b → ThinnedBy (λ k. Unit {0}) a b
to_any P a b t = thinned_more P (λ k. Unit {0}) (λ k p. tt) a b t

-- what a bucket needs where a cell's ephemeron has this key and this datum
abbrev pub FitsIn : ℕ → Option Label → Value → List Binding → Type 0
FitsIn i None datum others = Unit {0}
FitsIn i (Some k) datum others = (k.serial % bucket_count ≡ i) × IsTrue (is_full_value datum) × (datum_at others k ≡ None)

bucket_after : (P : Label → Type 0) (i : ℕ) (a a' x b b' : List Binding) (key : Option Label) (datum : Value) → IsTrue (is_bucket i (a ++ (x ++ b))) → ThinnedBy P a a' → ThinnedBy P b b'
    → FitsIn i key datum (a' ++ b') → IsTrue (is_bucket i (a' ++ (bound key datum ++ b')))
bucket_after P i a a' x b b' key datum bucket left right fits =
    let fewer : IsTrue (is_bucket i (a' ++ b')) = thinned_bucket (λ k. Unit {0}) i (a ++ (x ++ b)) (a' ++ b')
    (thinned_append (λ k. Unit {0}) a a' (x ++ b) b' (to_any P a a' left) (thinned_append (λ k. Unit {0}) x [] b b' (all_taken x) (to_any P b b' right))) bucket in
    go key fits fewer
  where
    go : (key : Option Label) → FitsIn i key datum (a' ++ b') → IsTrue (is_bucket i (a' ++ b')) → IsTrue (is_bucket i (a' ++ (bound key datum ++ b')))
    go None fits fewer = fewer
    go (Some k) fits fewer = bucket_insert i k datum a' b' fewer fits.0 fits.1 fits.2

module _ (P : Label → Type 0) (g h : Graph) (root : Label) (chains : List (List Cell)) (table : IsTable g root chains) (i : ℕ) (below : i < bucket_count)
    (done : List Cell) (c : Cell) (rest : List Cell) (split : get_or chains i [] ≡ done ++ c ∷ rest) where
  once_chains : IsTrue (has_no_repeats (flat_map cell_labels chains))
  once_chains = and_right (not (has_label (flat_map cell_labels chains) root)) _ table.once

  -- the cell
  pub cell_there : (v : Value) × IsCell g c v × Links g v rest
  cell_there =
      let links : Links g (get_or table.fields i Nothing) (done ++ c ∷ rest) = subst (Links g (get_or table.fields i Nothing)) split (table.linked i below) in
      (links_behind g _ done (c ∷ rest) links).1

  others : (has_label (cell_labels done) c.ephe ≡ false) × (has_label (cell_labels rest) c.ephe ≡ false)
  others = other_cells done c rest (subst (λ cs. IsTrue (has_no_repeats (cell_labels cs))) split (one_chain chains i once_chains))

  pub in_chain : IsTrue (has_label (cell_labels (get_or chains i [])) c.ephe)
  in_chain = subst (λ cs. IsTrue (has_label (cell_labels cs) c.ephe)) (sym split) (go done)
    where
      go : (a : List Cell) → IsTrue (has_label (cell_labels (a ++ c ∷ rest)) c.ephe)
      go [] = or_right (same_label c.node c.ephe) _ (or_left (same_label c.ephe c.ephe) _ (same_label_refl c.ephe))
      go (x ∷ a) = or_right (same_label x.node c.ephe) _ (or_right (same_label x.ephe c.ephe) _ (go a))

  module _ (changes : Changes P (c.ephe ∷ []) g h) (key : Option Label) (datum : Value) (at : node_at h c.ephe ≡ Some (Ephe (key ∷ []) datum)) where
    weak_after : (e : Label) → IsTrue (is_weak (node_at g e)) → IsTrue (is_weak (node_at h e))
    weak_after e weak = go (same_label c.ephe e) refl
      where
        go : (b : Bool) → same_label c.ephe e ≡ b → IsTrue (is_weak (node_at h e))
        go true same = subst (λ o. IsTrue (is_weak o)) (sym (ap (node_at h) (sym (same_label-true c.ephe e same)) ∙ at)) refl
        go false differ = (weak_kept P (c.ephe ∷ []) g h changes e (alone c.ephe e differ) weak).0

    links_after : (v : Value) (cells : List Cell) → Links g v cells → Links h v cells
    links_after v [] links = links
    links_after v (x ∷ cells) (here, (next, cell, later)) = (
      here,
      (
        next,
        record { tag = cell.tag; node = changes x.node _ cell.node (alone c.ephe x.node (node_is_plain g x.node c.ephe cell.tag _ cell.node cell_there.1.weak)); weak = weak_after x.ephe cell.weak },
        links_after next cells later,
      ),
    )

    -- cells without the ephemeron
    thinned_apart : (v : Value) (cells : List Cell) → has_label (cell_labels cells) c.ephe ≡ false → Links g v cells → ThinnedBy P (chain_bindings g cells) (chain_bindings h cells)
    thinned_apart v cells none links = chain_thinned P (c.ephe ∷ []) g h changes v cells
        (λ l there. lacks (c.ephe ∷ []) l (λ mine. ⊎_elim
        (λ same. not_both (cell_labels cells) c.ephe (subst (λ k. IsTrue (has_label (cell_labels cells) k)) (sym (same_label-true c.ephe l same)) there) none)
        (λ none. let clash : false ≡ true = none in cc)
        (or_cases (same_label c.ephe l) false mine))) links

    others_thinned : (t : ℕ) → t < bucket_count → t ≢ i → ThinnedBy P (chain_bindings g (get_or chains t [])) (chain_bindings h (get_or chains t []))
    others_thinned t inside other = thinned_apart _ _ (other_chain chains i t c.ephe once_chains in_chain other) (table.linked t inside)

    whole_links : Links g (get_or table.fields i Nothing) (done ++ c ∷ rest)
    whole_links = subst (Links g (get_or table.fields i Nothing)) split (table.linked i below)

    -- the cells before it: each is a cell of the chain, so its blocks are as they were
    front_thinned : (v : Value) (a b : List Cell) → has_label (cell_labels a) c.ephe ≡ false → Links g v (a ++ b) → ThinnedBy P (chain_bindings g a) (chain_bindings h a)
    front_thinned v [] b none links = refl
    front_thinned v (x ∷ a) b none (here, (next, cell, later)) =
        let first = not_first x.node (x.ephe ∷ cell_labels a) c.ephe none in
        let second = not_first x.ephe (cell_labels a) c.ephe first.1 in
        thinned_append P _ _ _ _
        (weak_kept P (c.ephe ∷ []) g h changes x.ephe (lacks (c.ephe ∷ []) x.ephe (λ mine. ⊎_elim
        (λ same. let back : same_label x.ephe c.ephe ≡ true = subst (λ k. same_label x.ephe k ≡ true) (sym (same_label-true c.ephe x.ephe same)) (same_label_refl x.ephe) in let clash : true ≡ false = sym back ∙ second.0 in cc)
        (λ none. let clash : false ≡ true = none in cc)
        (or_cases (same_label c.ephe x.ephe) false mine))) cell.weak).1
        (front_thinned next a b second.1 later)

    pub done_thinned : ThinnedBy P (chain_bindings g done) (chain_bindings h done)
    done_thinned = front_thinned _ done (c ∷ rest) others.0 whole_links

    pub rest_thinned : ThinnedBy P (chain_bindings g rest) (chain_bindings h rest)
    rest_thinned = thinned_apart cell_there.0 rest others.1 cell_there.2

    here_after : chain_bindings h (done ++ c ∷ rest) ≡ chain_bindings h done ++ (bound key datum ++ chain_bindings h rest)
    here_after = flat_map-append (λ x. binding_of (node_at h x.ephe)) done (c ∷ rest) ∙ ap (λ o. chain_bindings h done ++ (binding_of o ++ chain_bindings h rest)) at

    here_before : chain_bindings g (done ++ c ∷ rest) ≡ chain_bindings g done ++ (binding_of (node_at g c.ephe) ++ chain_bindings g rest)
    here_before = flat_map-append (λ x. binding_of (node_at g x.ephe)) done (c ∷ rest)

    module _ (fits : FitsIn i key datum (chain_bindings h done ++ chain_bindings h rest)) where
      bucket_here : IsTrue (is_bucket i (chain_bindings h (get_or chains i [])))
      bucket_here = subst (λ bs. IsTrue (is_bucket i bs)) (sym (ap (chain_bindings h) split ∙ here_after))
          (bucket_after P i _ _ (binding_of (node_at g c.ephe)) _ _ key datum
          (subst (λ bs. IsTrue (is_bucket i bs)) (ap (chain_bindings g) split ∙ here_before) (table.bucket i below)) done_thinned rest_thinned fits)

      bucket_each : (t : ℕ) → t < bucket_count → (b : Bool) → eqb t i ≡ b → IsTrue (is_bucket t (chain_bindings h (get_or chains t [])))
      bucket_each t inside true e = subst (λ n. IsTrue (is_bucket n (chain_bindings h (get_or chains n [])))) (sym (eqb-true t i e)) bucket_here
      bucket_each t inside false e = thinned_bucket P t _ _ (others_thinned t inside (λ same. let clash : true ≡ false = sym (eq-eqb t i same) ∙ e in cc)) (table.bucket t inside)

      -- the table, with that key and datum in its cell
      pub table_changed : IsTable h root chains
      table_changed = record {
        tag = table.tag;
        fields = table.fields;
        node = changes root _ table.node (alone c.ephe root (node_is_plain g root c.ephe table.tag table.fields table.node cell_there.1.weak));
        size = table.size;
        count = table.count;
        linked = λ t inside. links_after _ _ (table.linked t inside);
        once = table.once;
        bucket = λ t inside. bucket_each t inside (eqb t i) refl;
      }

      -- what it binds without a key, where the cell binds nothing else
      module _ (k : Label) (was : without k (binding_of (node_at g c.ephe)) ≡ []) (now : without k (bound key datum) ≡ []) where
        without_middle : (a x b : List Binding) → without k x ≡ [] → without k (a ++ (x ++ b)) ≡ without k a ++ without k b
        without_middle a x b none = without_append k a (x ++ b) ∙ ap (λ l. without k a ++ l) (without_append k x b ∙ ap (λ l. l ++ without k b) none)

        chain_without : ThinnedBy P (without k (chain_bindings g (get_or chains i []))) (without k (chain_bindings h (get_or chains i [])))
        chain_without =
            let t : ThinnedBy P (without k (chain_bindings g done) ++ without k (chain_bindings g rest)) (without k (chain_bindings h done) ++ without k (chain_bindings h rest)) =
            thinned_append P _ _ _ _ (thinned_without P k _ _ done_thinned) (thinned_without P k _ _ rest_thinned) in
            let before : without k (chain_bindings g (get_or chains i [])) ≡ without k (chain_bindings g done) ++ without k (chain_bindings g rest) =
            ap (λ cs. without k (chain_bindings g cs)) split ∙ (ap (without k) here_before ∙ without_middle _ _ _ was) in
            let after : without k (chain_bindings h (get_or chains i [])) ≡ without k (chain_bindings h done) ++ without k (chain_bindings h rest) =
            ap (λ cs. without k (chain_bindings h cs)) split ∙ (ap (without k) here_after ∙ without_middle _ _ _ now) in
            subst (λ (l : List Binding). ThinnedBy P l (without k (chain_bindings h (get_or chains i [])))) (sym before)
            (subst (λ (l : List Binding). ThinnedBy P (without k (chain_bindings g done) ++ without k (chain_bindings g rest)) l) (sym after) t)

        each_without : (t : ℕ) → t < bucket_count → (b : Bool) → eqb t i ≡ b → ThinnedBy P (without k (chain_bindings g (get_or chains t []))) (without k (chain_bindings h (get_or chains t [])))
        each_without t inside true e = subst (λ n. ThinnedBy P (without k (chain_bindings g (get_or chains n []))) (without k (chain_bindings h (get_or chains n [])))) (sym (eqb-true t i e)) chain_without
        each_without t inside false e = thinned_without P k _ _ (others_thinned t inside (λ same. let clash : true ≡ false = sym (eq-eqb t i same) ∙ e in cc))

        pub bindings_without : ThinnedBy P (without k (bindings g chains)) (without k (bindings h chains))
        bindings_without = without_flat P k (chain_bindings g) (chain_bindings h) chains (λ t inside. each_without t (subst (λ n. t < n) table.count inside) (eqb t i) refl)
