-- The block of a key is none of a table's, of a weak array's or of a map's.
use Rattle.std.proofs.Common.{◌≡◌, ⊎_elim, ℕ, suc, ◌<◌, pos, false, true, IsTrue, List, [], ◌∷◌, ◌++◌, map, length, flat_map, get_or, Option, Some, refl, ap, sym, ◌∙◌, subst, arith}
use Rattle.std.specs.List.{list_all}
use Rattle.model_core.specs.declared.label.Label.{Label}
use Rattle.model_core.specs.declared.graph.Value.{Value}
use Rattle.model_core.specs.declared.graph.Value.TheVariants.{Int, Block}
use Rattle.model_core.specs.declared.graph.Node.{Node}
use Rattle.model_core.specs.declared.graph.Node.TheVariants.{Plain}
use Rattle.model_core.specs.Graph.{Graph, same_label, has_label, node_at}
use Rattle.model_core.proofs.Graphs.GraphLemmas.{same_label-true}
use Rattle.model_core.proofs.Reach.ReachLemmas.{or_cases, and_left, and_right, has-append_cases}
use Rattle.weak_laws.specs.Tables.Structures.{Cell, is_weak, Links, cell_labels, table_labels, IsTable, IsWeakArray}
use Rattle.weak_laws.proofs.OfTables.OnceLemmas.{lacks, not_both}
use Rattle.weak_laws.proofs.OfLists.LabelLemmas.{narrow_label}
use Rattle.table_text.specs.declared.version.Version.{Version}
use Rattle.table_text.specs.declared.version.Version.TheVariants.{One, Two}
use Rattle.table_run.specs.Keepers.Keepers.{Shape, IsKeeper, kept_labels}
use Rattle.table_run.specs.Standing.{key_node}

module _ (g : Graph) (k : Label) (at : node_at g k ≡ Some key_node) where
  no_cell : (l : Label) (tag : ℕ) (e : Label) (rest : Value) → node_at g l ≡ Some (Plain tag (Block e ∷ rest ∷ [])) → same_label l k ≡ true → ⊥
  no_cell l tag e rest node same = let clash : Some (Plain tag (Block e ∷ rest ∷ [])) ≡ Some key_node = sym node ∙ (ap (node_at g) (same_label-true l k same) ∙ at) in cc

  no_weak : (l : Label) → IsTrue (is_weak (node_at g l)) → same_label l k ≡ true → ⊥
  no_weak l weak same = let there : IsTrue (is_weak (Some key_node)) = subst (λ (o : Option Node). IsTrue (is_weak o)) (ap (node_at g) (same_label-true l k same) ∙ at) weak in let clash : false ≡ true = there in cc

  chain_without : (v : Value) (cells : List Cell) → Links g v cells → has_label (cell_labels cells) k ≡ false
  chain_without v [] links = refl
  chain_without v (c ∷ cs) (here, (rest, cell, later)) =
      let behind = chain_without rest cs later in
      lacks (c.node ∷ c.ephe ∷ cell_labels cs) k (λ h. ⊎_elim (λ same. no_cell c.node cell.tag c.ephe rest cell.node same)
      (λ more. ⊎_elim (λ same. no_weak c.ephe cell.weak same) (λ there. not_both (cell_labels cs) k there behind) (or_cases (same_label c.ephe k) (has_label (cell_labels cs) k) more))
      (or_cases (same_label c.node k) (has_label (c.ephe ∷ cell_labels cs) k) h))

  flat_without : (css : List (List Cell)) → ((i : ℕ) → i < length css → has_label (cell_labels (get_or css i [])) k ≡ false) → has_label (flat_map cell_labels css) k ≡ false
  flat_without [] each = refl
  flat_without (cs ∷ css) each =
      let first : has_label (cell_labels cs) k ≡ false = each 0 (omega arith) in
      let later = flat_without css (λ i below. each (suc i) (omega arith)) in
      lacks (cell_labels cs ++ flat_map cell_labels css) k (λ h. ⊎_elim (λ here. not_both (cell_labels cs) k here first) (λ behind. not_both (flat_map cell_labels css) k behind later) (has-append_cases (cell_labels cs) (flat_map cell_labels css) k h))

  table_without : (root : Label) (chains : List (List Cell)) → IsTable g root chains → has_label (table_labels root chains) k ≡ false
  table_without root chains table =
      let flat = flat_without chains (λ i below. chain_without _ (get_or chains i []) (table.linked i (subst (λ n. i < n) table.count below))) in
      lacks (table_labels root chains) k (λ h. ⊎_elim
      (λ same. (let is : Some (Plain table.tag table.fields) ≡ Some key_node = sym table.node ∙ (ap (node_at g) (same_label-true root k same) ∙ at) in
      let fields : table.fields ≡ Int (pos 0) ∷ [] = cc in let one : length table.fields ≡ 1 = ap length fields in absurd (let size = table.size in omega (arith, one, size))))
      (λ there. not_both (flat_map cell_labels chains) k there flat) (or_cases (same_label root k) (has_label (flat_map cell_labels chains) k) h))

  slots_without : (slots : List Label) → IsTrue (list_all (λ e. is_weak (node_at g e)) slots) → has_label slots k ≡ false
  slots_without [] weak = refl
  slots_without (e ∷ slots) weak =
      let later = slots_without slots (and_right (is_weak (node_at g e)) _ weak) in
      lacks (e ∷ slots) k (λ h. ⊎_elim (λ same. no_weak e (and_left (is_weak (node_at g e)) _ weak) same) (λ there. not_both slots k there later) (or_cases (same_label e k) (has_label slots k) h))

  not_fields : (tag : ℕ) (slots : List Label) → Some (Plain tag (map Block slots)) ≡ Some key_node → ⊥
  not_fields tag [] is = let fields : ◌≡◌ {A = List Value} [] (Int (pos 0) ∷ []) = cc in cc
  not_fields tag (e ∷ slots) is = let fields : Block e ∷ map Block slots ≡ Int (pos 0) ∷ [] = cc in cc

  pub array_without : (root : Label) (slots : List Label) → IsWeakArray g root slots → has_label (root ∷ slots) k ≡ false
  array_without root slots array =
      let later = slots_without slots array.weak in
      lacks (root ∷ slots) k (λ h. ⊎_elim (λ same. not_fields array.tag slots (sym array.node ∙ (ap (node_at g) (same_label-true root k same) ∙ at))) (λ there. not_both slots k there later) (or_cases (same_label root k) (has_label slots k) h))

  pub keeper_without : (v : Version) (shape : Shape v) (n : ℕ) (root : Label) → IsKeeper v shape n g root → has_label (kept_labels v shape g root) k ≡ false
  keeper_without One chains n root x = table_without root chains x.table
  keeper_without Two shape n root x = narrow_label g root k 0 (Int (pos 0)) x.map at
