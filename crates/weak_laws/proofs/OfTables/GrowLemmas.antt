-- A new cell is made and linked, command by command.
use Rattle.std.proofs.Common.{◌≡◌, ◌≢◌, ◌⊎◌, inl, inr, ⊎_elim, ℕ, zero, suc, ◌<◌, true, false, IsTrue, List, [], ◌∷◌, length, get_or, set, slice_get, flat_map, Option, Some, None, refl, ap, sym, ◌∙◌, subst, arith, pos}
use Rattle.std.proofs.lemmas.Option.{slice_get-get_or}
use Rattle.model_core.specs.declared.label.Label.{Label}
use Rattle.model_core.specs.declared.command.Command.TheVariants.{Alloc, Load, Store, Ephe as NewEphe}
use Rattle.model_core.specs.declared.entry.Entry.{Entry}
use Rattle.model_core.specs.declared.reply.Reply.{Reply}
use Rattle.model_core.specs.declared.reply.Reply.TheVariants.{Done, Block as BlockReply, Full}
use Rattle.model_core.specs.declared.graph.Value.{Value}
use Rattle.model_core.specs.declared.graph.Value.TheVariants.{Int, Block, Nothing}
use Rattle.model_core.specs.declared.graph.Node.{Node}
use Rattle.model_core.specs.declared.graph.Node.TheVariants.{Plain, Ephe}
use Rattle.model_core.specs.declared.state.Sizes.{Sizes}
use Rattle.model_core.specs.Graph.{Graph, same_label, has_label, node_at}
use Rattle.model_core.specs.Domains.{IsWithinLimits}
use Rattle.model_core.specs.Commands.{shown}
use Rattle.model_core.proofs.Graphs.GraphLemmas.{same_label-true, same_label-false}
use Rattle.model_core.proofs.Reach.ReachLemmas.{or_cases, has-append_cases}
use Rattle.weak_laws.specs.Tables.Structures.{Cell, bucket_count, is_weak, bindings, head_of, Links, cell_labels, table_labels, IsTable}
use Rattle.weak_laws.specs.Tables.Thinning.{ThinnedBy, Went}
use Rattle.weak_laws.specs.Tables.Performing.{Performed, After, registers_of}
use Rattle.weak_laws.specs.Tables.Stages.{Linking, graph_of, held_in}
use Rattle.weak_laws.proofs.OfTables.OnceLemmas.{lacks, not_both}
use Rattle.weak_laws.proofs.OfTables.ChangeLemmas.{table_kept, bindings_thinned}
use Rattle.weak_laws.proofs.OfTables.CellLemmas.{links_head}
use Rattle.weak_laws.proofs.OfTables.LinkLemmas.{empty_stays, table_linked, bindings_linked}
use Rattle.weak_laws.proofs.OfTables.StepLemmas.{load_step, store_step, alloc_step, ephe_step}

-- each label of a table has a block
weak_there : (o : Option Node) → IsTrue (is_weak o) → (n : Node) × (o ≡ Some n)
weak_there None w = cc
weak_there (Some n) w = (n, refl)

links_there : (g : Graph) (v : Value) (cells : List Cell) (l : Label) → Links g v cells → IsTrue (has_label (cell_labels cells) l) → (n : Node) × (node_at g l ≡ Some n)
links_there g v [] l links h = absurd (let clash : false ≡ true = h in cc)
links_there g v (c ∷ cs) l (here, (rest, cell, later)) h = ⊎_elim
    (λ same. (_, ap (node_at g) (sym (same_label-true c.node l same)) ∙ cell.node))
    (λ more. ⊎_elim
    (λ same. let there = weak_there (node_at g c.ephe) cell.weak in (there.0, ap (node_at g) (sym (same_label-true c.ephe l same)) ∙ there.1))
    (λ behind. links_there g rest cs l later behind)
    (or_cases (same_label c.ephe l) _ more))
    (or_cases (same_label c.node l) _ h)

flat_there : (g : Graph) (css : List (List Cell)) (l : Label) → ((i : ℕ) → i < length css → (m : Label) → IsTrue (has_label (cell_labels (get_or css i [])) m) → (n : Node) × (node_at g m ≡ Some n))
    → IsTrue (has_label (flat_map cell_labels css) l) → (n : Node) × (node_at g l ≡ Some n)
flat_there g [] l each h = absurd (let clash : false ≡ true = h in cc)
flat_there g (cs ∷ css) l each h = ⊎_elim (λ here. each zero (omega arith) l here) (λ later. flat_there g css l (λ i below. each (suc i) (omega arith)) later) (has-append_cases (cell_labels cs) (flat_map cell_labels css) l h)

pub table_there : (g : Graph) (root : Label) (chains : List (List Cell)) (l : Label) → IsTable g root chains → IsTrue (has_label (table_labels root chains) l) → (n : Node) × (node_at g l ≡ Some n)
table_there g root chains l table h = ⊎_elim
    (λ same. (_, ap (node_at g) (sym (same_label-true root l same)) ∙ table.node))
    (λ more. flat_there g chains l (λ i below m there. links_there g _ (get_or chains i []) m (table.linked i (subst (λ n. i < n) table.count below)) there) more)
    (or_cases (same_label root l) _ h)

-- so a label without one isn't the table's
pub new_to_table : (g : Graph) (root : Label) (chains : List (List Cell)) (l : Label) → IsTable g root chains → node_at g l ≡ None → has_label (table_labels root chains) l ≡ false
new_to_table g root chains l table none = lacks (table_labels root chains) l
    (λ h. let there = table_there g root chains l table h in let clash : ◌≡◌ {A = Option Node} None (Some there.0) = sym none ∙ there.1 in cc)

module _ (z : Sizes) (limits : IsWithinLimits z) (root : Label) (chains : List (List Cell)) where
  -- the table alone, at a command that changes a block that isn't its own
  pub table_apart : (old new : List Entry) (own : List Label) (rs : List Value) → After z old new own rs → ((l : Label) → IsTrue (has_label (table_labels root chains) l) → has_label own l ≡ false) → IsTable (graph_of z old) root chains
      → IsTable (graph_of z new) root chains × ThinnedBy (Went z old new) (bindings (graph_of z old) chains) (bindings (graph_of z new) chains)
  table_apart old new own rs a apart table =
      (table_kept (Went z old new) own (graph_of z old) (graph_of z new) a.changes root chains apart table, bindings_thinned (Went z old new) own (graph_of z old) (graph_of z new) a.changes root chains apart table)

  module _ (c : Cell) (old new : List Entry) where
    differs : (a b : Value) → Linking z old root chains c a b → same_label c.node c.ephe ≡ false
    differs a b x = same_label-false c.node c.ephe (λ same.
        let both : Some (Plain 0 (a ∷ b ∷ [])) ≡ Some (Ephe (None ∷ []) Nothing) = sym x.node ∙ (ap (node_at (graph_of z old)) same ∙ x.ephe) in cc)

    apart_node : (a b : Value) → Linking z old root chains c a b → (l : Label) → IsTrue (has_label (table_labels root chains) l) → has_label (c.node ∷ []) l ≡ false
    apart_node a b x l h = lacks (c.node ∷ []) l (λ mine. ⊎_elim
        (λ same. not_both (table_labels root chains) c.node (subst (λ m. IsTrue (has_label (table_labels root chains) m)) (sym (same_label-true c.node l same)) h) x.fresh_node)
        (λ none. let clash : false ≡ true = none in cc)
        (or_cases (same_label c.node l) false mine))

    -- at a command that reads
    pub linking_reads : (a b : Value) (rs : List Value) → Linking z old root chains c a b → After z old new [] rs
        → Linking z new root chains c a b × ThinnedBy (Went z old new) (bindings (graph_of z old) chains) (bindings (graph_of z new) chains)
    linking_reads a b rs x y =
        let t = table_apart old new [] rs y (λ l h. refl) x.table in (
          record { table = t.0; ephe = empty_stays (Went z old new) Nothing _ (y.changes c.ephe _ x.ephe refl); node = y.changes c.node _ x.node refl; fresh_ephe = x.fresh_ephe; fresh_node = x.fresh_node },
          t.1,
        )

    -- at a store into the node
    linking_writes : (a b v w : Value) (rs : List Value) → Linking z old root chains c a b → After z old new (c.node ∷ []) rs → node_at (graph_of z new) c.node ≡ Some (Plain 0 (v ∷ w ∷ []))
        → Linking z new root chains c v w × ThinnedBy (Went z old new) (bindings (graph_of z old) chains) (bindings (graph_of z new) chains)
    linking_writes a b v w rs x y at =
        let t = table_apart old new (c.node ∷ []) rs y (apart_node a b x) x.table in
        let other : has_label (c.node ∷ []) c.ephe ≡ false = rw (differs a b x) refl in (
          record { table = t.0; ephe = empty_stays (Went z old new) Nothing _ (y.changes c.ephe _ x.ephe other); node = at; fresh_ephe = x.fresh_ephe; fresh_node = x.fresh_node },
          t.1,
        )

    module _ (r : Reply) where
      -- the ephemeron is stored into the node's first field
      pub link_ephe : (a b : Value) → Linking z old root chains c a b → held_in z old 8 ≡ Block c.ephe → held_in z old 9 ≡ Block c.node → Performed z old new (Store 9 0 8) r
          → After z old new (c.node ∷ []) (registers_of z old) × (r ≡ Done) × Linking z new root chains c (Block c.ephe) b × ThinnedBy (Went z old new) (bindings (graph_of z old) chains) (bindings (graph_of z new) chains)
      link_ephe a b x ephe node p =
          let t = store_step z limits old new r 9 0 8 c.node 0 (a ∷ b ∷ []) (Block c.ephe) a node x.node refl ephe (λ same. cc) p in
          let more = linking_writes a b (Block c.ephe) b _ x t.0 t.2 in
          (t.0, t.1, more.0, more.1)

      -- what the bucket holds is loaded
      pub link_head : (a b : Value) (tr i : ℕ) → i < bucket_count → (x : Linking z old root chains c a b) → held_in z old tr ≡ Block root → Performed z old new (Load 10 tr i) r
          → After z old new [] (set (registers_of z old) 10 (head_of (get_or chains i []))) × (r ≡ shown (head_of (get_or chains i []))) × Linking z new root chains c a b × ThinnedBy (Went z old new) (bindings (graph_of z old) chains) (bindings (graph_of z new) chains)
      link_head a b tr i below x holds p =
          let table = x.table in
          let head : get_or table.fields i Nothing ≡ head_of (get_or chains i []) = links_head (graph_of z old) _ _ (table.linked i below) in
          let field : slice_get table.fields i ≡ Some (head_of (get_or chains i [])) = slice_get-get_or table.fields i Nothing (subst (λ n. i < n) (sym table.size) below) ∙ ap Some head in
          let t = load_step z limits old new r 10 tr i root table.tag table.fields _ holds table.node field p in
          let more = linking_reads a b _ x t.0 in
          (t.0, t.1, more.0, more.1)

      -- and stored into its second
      pub link_next : (a b : Value) (cells : List Cell) → Linking z old root chains c a b → held_in z old 10 ≡ head_of cells → held_in z old 9 ≡ Block c.node → Performed z old new (Store 9 1 10) r
          → After z old new (c.node ∷ []) (registers_of z old) × (r ≡ Done) × Linking z new root chains c a (head_of cells) × ThinnedBy (Went z old new) (bindings (graph_of z old) chains) (bindings (graph_of z new) chains)
      link_next a b cells x head node p =
          let t = store_step z limits old new r 9 1 10 c.node 0 (a ∷ b ∷ []) (head_of cells) b node x.node refl head (some cells) p in
          let more = linking_writes a b a (head_of cells) _ x t.0 t.2 in
          (t.0, t.1, more.0, more.1)
        where
          some : (cells : List Cell) → head_of cells ≢ Nothing
          some [] same = cc
          some (x ∷ cells) same = cc

      -- the node is stored into the bucket: the chain has the new cell
      pub link_cell : (tr i : ℕ) → (below : i < bucket_count) → (x : Linking z old root chains c (Block c.ephe) (head_of (get_or chains i []))) → held_in z old tr ≡ Block root → held_in z old 9 ≡ Block c.node → Performed z old new (Store tr i 9) r
          → After z old new (root ∷ []) (registers_of z old) × (r ≡ Done) × IsTable (graph_of z new) root (set chains i (c ∷ get_or chains i []))
          × ThinnedBy (Went z old new) (bindings (graph_of z old) chains) (bindings (graph_of z new) (set chains i (c ∷ get_or chains i [])))
      link_cell tr i below x holds node p =
          let table = x.table in
          let field : slice_get table.fields i ≡ Some (get_or table.fields i Nothing) = slice_get-get_or table.fields i Nothing (subst (λ n. i < n) (sym table.size) below) in
          let head : get_or table.fields i Nothing ≡ head_of (get_or chains i []) = links_head (graph_of z old) _ _ (table.linked i below) in
          let t = store_step z limits old new r tr i 9 root table.tag table.fields (Block c.node) _ holds table.node field node (λ same. cc) p in
          let cell : node_at (graph_of z old) c.node ≡ Some (Plain 0 (Block c.ephe ∷ get_or table.fields i Nothing ∷ [])) = x.node ∙ ap (λ v. Some (Plain 0 (Block c.ephe ∷ v ∷ []))) (sym head) in (
            t.0,
            t.1,
            table_linked (Went z old new) (graph_of z old) (graph_of z new) root chains table i below c 0 t.0.changes t.2 cell x.ephe x.fresh_node x.fresh_ephe,
            bindings_linked (Went z old new) (graph_of z old) (graph_of z new) root chains table i below c 0 t.0.changes t.2 cell x.ephe x.fresh_node x.fresh_ephe,
          )

  -- the ephemeron is made, and then the node
  module _ (old new : List Entry) (r : Reply) where
    pub grow_ephe : IsTable (graph_of z old) root chains → Performed z old new (NewEphe 8 1) r → (After z old new [] (registers_of z old) × (r ≡ Full))
        ⊎ ((e : Label) × After z old new [] (set (registers_of z old) 8 (Block e)) × (r ≡ BlockReply e) × (node_at (graph_of z old) e ≡ None) × (node_at (graph_of z new) e ≡ Some (Ephe (None ∷ []) Nothing)) × (has_label (table_labels root chains) e ≡ false))
    grow_ephe table p = ⊎_elim (λ full. inl full)
        (λ made. inr (made.0, made.1, made.2, made.3, made.4, new_to_table (graph_of z old) root chains made.0 table made.3))
        (ephe_step z limits old new r 8 p)

    pub grow_node : (e : Label) → IsTable (graph_of z old) root chains → node_at (graph_of z old) e ≡ Some (Ephe (None ∷ []) Nothing) → has_label (table_labels root chains) e ≡ false → Performed z old new (Alloc 9 0 2) r
        → (After z old new [] (registers_of z old) × (r ≡ Full))
        ⊎ ((n : Label) × After z old new [] (set (registers_of z old) 9 (Block n)) × (r ≡ BlockReply n) × (node_at (graph_of z old) n ≡ None) × Linking z new root chains (record { node = n; ephe = e }) (Int (pos 0)) (Int (pos 0))
        × ThinnedBy (Went z old new) (bindings (graph_of z old) chains) (bindings (graph_of z new) chains))
    grow_node e table spare fresh p = ⊎_elim (λ full. inl full)
        (λ made.
        let t = table_apart old new [] _ made.1 (λ l h. refl) table in
        inr (
          made.0,
          made.1,
          made.2,
          made.3,
          record {
            table = t.0;
            ephe = empty_stays (Went z old new) Nothing _ (made.1.changes e _ spare refl);
            node = made.4;
            fresh_ephe = fresh;
            fresh_node = new_to_table (graph_of z old) root chains made.0 table made.3;
          },
          t.1,
        ))
        (alloc_step z limits old new r 9 0 2 p)
