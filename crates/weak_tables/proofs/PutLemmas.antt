-- What `table_put` and `table_get` leave.
use Rattle.std.specs.Prelude.{not, ◌↔◌}
use Rattle.std.proofs.Common.{◌≡◌, ◌≢◌, ◌⊎◌, inl, inr, ⊎_elim, ℕ, ◌+◌, ◌<◌, ◌%◌, Bool, true, false, IsTrue, List, [], ◌∷◌, ◌++◌, length, get_or, set, flat_map, Option, Some, None, refl, ap, sym, ◌∙◌, subst, arith, pos, append_assoc, get_or-set_same}
use Rattle.model_core.specs.declared.label.Label.{Label}
use Rattle.model_core.specs.declared.command.Command.TheVariants.{Forget, Alloc, Load, Store, Ephe as NewEphe, SetKey, SetData, GetData}
use Rattle.model_core.specs.declared.entry.Entry.{Entry}
use Rattle.model_core.specs.declared.reply.Reply.{Reply}
use Rattle.model_core.specs.declared.reply.Reply.TheVariants as reply
use Rattle.model_core.specs.declared.graph.Value.{Value}
use Rattle.model_core.specs.declared.graph.Value.TheVariants.{Int, Block, Nothing}
use Rattle.model_core.specs.declared.graph.Node.{Node}
use Rattle.model_core.specs.declared.graph.Node.TheVariants.{Plain, Ephe}
use Rattle.model_core.specs.declared.state.State.{State}
use Rattle.model_core.specs.declared.state.Sizes.{Sizes}
use Rattle.model_core.specs.Graph.{Graph, same_label, has_label, label_of, node_at}
use Rattle.model_core.specs.Domains.{IsWithinLimits, opening}
use Rattle.model_core.specs.Entries.{next}
use Rattle.model_core.proofs.Commands.FrameLemmas.{grew_next}
use Rattle.model_core.proofs.Histories.HistoryLemmas.{state_after-append}
use Rattle.model_core.specs.Commands.{shown, is_full_value}
use Rattle.model_core.specs.History.{IsPrefix, Legal, state_after}
use Rattle.model_core.proofs.Graphs.GraphLemmas.{same_label-true, same_label_refl}
use Rattle.model_core.proofs.Reach.ReachLemmas.{never_true, or_cases, or_left, or_right, true_or_false}
use Rattle.weak_laws.specs.Tables.Structures.{Binding, Cell, bucket_count, binding_of, chain_bindings, bindings, datum_at, without, head_of, is_bucket_full, cell_labels, table_labels, is_bucket, IsTable}
use Rattle.weak_laws.specs.Tables.Thinning.{ThinnedBy, WasOutside, Went}
use Rattle.weak_laws.specs.Tables.Performing.{Performed, After, registers_of}
use Rattle.weak_laws.specs.Tables.Stages.{Goes, Holding, Linking, graph_of, held_in}
use Rattle.weak_laws.proofs.OfTables.BindingLemmas.{thinned_more, thinned_twice, thinned_without}
use Rattle.weak_laws.proofs.OfTables.LookupLemmas.{datum_of_bucket}
use Rattle.weak_laws.proofs.OfTables.OnceLemmas.{chain_label, more_labels}
use Rattle.weak_laws.proofs.OfTables.ChangeLemmas.{not_first, changes_on, changes_more}
use Rattle.weak_laws.proofs.OfTables.CellLemmas.{in_chain}
use Rattle.weak_laws.proofs.OfTables.LinkLemmas.{empty_stays}
use Rattle.weak_laws.proofs.OfTables.StepLemmas.{forget_step, get_data_step}
use Rattle.weak_laws.proofs.OfTables.StageLemmas.{goes_from, goes_on, goes_reading, thinned_on}
use Rattle.weak_laws.proofs.OfTables.FillLemmas.{whole, fill_data, fill_key, holding_datum}
use Rattle.weak_laws.proofs.OfTables.GrowLemmas.{grow_ephe, grow_node, link_ephe, link_head, link_next, link_cell}
use Rattle.weak_tables.specs.Held.{AllHave, Has, IsTidy, KeepsOthers, IsClean, HoldsTable, Reads, Cleared}
use Rattle.weak_tables.specs.Walks.{CellAnswers, LinksCell, Found, Missed, Ready, Refused, Placed, PlacedAt, LooksUp}
use Rattle.weak_tables.specs.Tables.{Puts, PutAnswers, Gets, GetAnswers}
use Rattle.weak_tables.proofs.SearchLemmas.{set_here, set_other, keeps_set, below_eight, keeps_all, reads_on, reads_from}
use Rattle.weak_tables.proofs.TakeLemmas.{shown_label, thinned_none, goes_wider, cleared_clean, cleared_keeps, cleared_goes, cleared_reads, cleared_table, cleared_without, cleared_datum, same_registers}
use Rattle.weak_tables.proofs.TidyLemmas.{tidy_lasts, all_kept, has_cleared, has_kept, has_twice, one_other}

pub prefix_on : (a b c : List Entry) → IsPrefix a b → IsPrefix b c → IsPrefix a c
prefix_on a b c x y = record { rest = x.rest ++ y.rest; appends = y.appends ∙ (ap (λ (h : List Entry). h ++ y.rest) x.appends ∙ append_assoc a x.rest y.rest) }

module _ (z : Sizes) (a b c : List Entry) (ab : IsPrefix a b) (bc : IsPrefix b c) where
  pub wider_left : (k : Label) → WasOutside z a b k → WasOutside z a c k
  wider_left k w = record { front = w.front; since = w.since; until = prefix_on w.front b c w.until bc; outside = w.outside; entry = w.entry; through = prefix_on (w.front ++ w.entry ∷ []) b c w.through bc; taken = w.taken }

  wider_right : (k : Label) → WasOutside z b c k → WasOutside z a c k
  wider_right k w = record { front = w.front; since = prefix_on a b w.front ab w.since; until = w.until; outside = w.outside; entry = w.entry; through = w.through; taken = w.taken }

  pub thinned_both : (x y w : List Binding) → ThinnedBy (WasOutside z a b) x y → ThinnedBy (WasOutside z b c) y w → ThinnedBy (WasOutside z a c) x w
  thinned_both x y w s t = thinned_twice (WasOutside z a c) x y w (thinned_more (WasOutside z a b) (WasOutside z a c) wider_left x y s) (thinned_more (WasOutside z b c) (WasOutside z a c) wider_right y w t)

  pub goes_both : (own more : List Label) → Goes z a b own → Goes z b c more → ((l : Label) → IsTrue (has_label more l) → IsTrue (has_label own l) ⊎ (node_at (graph_of z a) l ≡ None)) → Goes z a c own
  goes_both own more g h fresh = record {
    legal = h.legal;
    grows = prefix_on a b c ab bc;
    changes = changes_on (WasOutside z a c) own more (graph_of z a) (graph_of z b) (graph_of z c)
        (changes_more (WasOutside z a b) (WasOutside z a c) own own _ _ wider_left (λ l h. h) g.changes)
        (changes_more (WasOutside z b c) (WasOutside z a c) more more _ _ wider_right (λ l h. h) h.changes)
        fresh;
  }

-- a label that is new later was new before
still_there : (s : State) (h : List Entry) (l : Label) (n : Node) → node_at s.graph l ≡ Some n → (m : Node) × (node_at (state_after s h).graph l ≡ Some m)
still_there s [] l n at = (n, at)
still_there s (e ∷ h) l n at = let here = grew_next s e l n at in still_there (next s e) h l here.0 here.1

pub new_earlier : (z : Sizes) (a b : List Entry) (l : Label) → IsPrefix a b → node_at (graph_of z b) l ≡ None → node_at (graph_of z a) l ≡ None
new_earlier z a b l grows none = go (node_at (graph_of z a) l) refl
  where
    go : (o : Option Node) → node_at (graph_of z a) l ≡ o → node_at (graph_of z a) l ≡ None
    go None e = e
    go (Some n) e = absurd (
        let there = still_there (state_after (opening z) a) grows.rest l n e in
        let same : graph_of z b ≡ (state_after (state_after (opening z) a) grows.rest).graph = ap (λ (t : State). t.graph) (ap (state_after (opening z)) grows.appends ∙ state_after-append (opening z) a grows.rest) in
        let clash : ◌≡◌ {A = Option Node} None (Some there.0) = sym none ∙ (ap (λ (g : Graph). node_at g l) same ∙ there.1) in cc)

-- a cell is made and linked
module _ (z : Sizes) (limits : IsWithinLimits z) (root : Label) (chains : List (List Cell)) (k : Label) (tr : ℕ) (few : tr < 8) (f0 : List Entry) (legal : Legal z f0) (below : k.serial % bucket_count < bucket_count)
    (held : held_in z f0 tr ≡ Block root) (table : IsTable (graph_of z f0) root chains) where
  abbrev i : ℕ
  i = k.serial % bucket_count

  -- a label is the table's, or new
  Own : List Label → Type 0
  Own own = (l : Label) → IsTrue (has_label own l) → IsTrue (has_label (table_labels root chains) l) ⊎ (node_at (graph_of z f0) l ≡ None)

  own_new : (l : Label) → node_at (graph_of z f0) l ≡ None → (m : Label) → IsTrue (has_label (l ∷ []) m) → IsTrue (has_label (table_labels root chains) m) ⊎ (node_at (graph_of z f0) m ≡ None)
  own_new l none m mine = ⊎_elim (λ same. inr (ap (node_at (graph_of z f0)) (sym (same_label-true l m same)) ∙ none)) (λ no. absurd (let clash : false ≡ true = no in cc)) (or_cases (same_label l m) false mine)

  own_root : (m : Label) → IsTrue (has_label (root ∷ []) m) → IsTrue (has_label (table_labels root chains) m) ⊎ (node_at (graph_of z f0) m ≡ None)
  own_root m mine = ⊎_elim (λ same. inl (or_left (same_label root m) _ same)) (λ no. absurd (let clash : false ≡ true = no in cc)) (or_cases (same_label root m) false mine)

  goes_0 : Goes z f0 f0 (table_labels root chains)
  goes_0 = goes_from z f0 (table_labels root chains) legal

  reads_0 : Reads z f0 f0 root chains
  reads_0 = reads_from z f0 root chains legal table

  module _ (f1 : List Entry) (r1 : Reply) (p1 : Performed z f0 f1 (NewEphe 8 1) r1) where
    pub refused_ephe : r1 ≡ reply.Full → Refused z f0 f1 root chains
    refused_ephe full = ⊎_elim
        (λ no. record { reads = reads_on z f0 f0 f1 _ root chains reads_0 no.0; keeps = same_registers z f0 f0 f1 (keeps_all z f0) no.0.registers_are })
        (λ made. absurd (let clash : reply.Block made.0 ≡ reply.Full = sym made.2 ∙ full in cc))
        (grow_ephe z limits root chains f0 f1 r1 table p1)

    module _ (room : r1 ≡ reply.Full → ⊥) where
      made_ephe : (e : Label) × After z f0 f1 [] (set (registers_of z f0) 8 (Block e)) × (r1 ≡ reply.Block e) × (node_at (graph_of z f0) e ≡ None) × (node_at (graph_of z f1) e ≡ Some (Ephe (None ∷ []) Nothing)) × (has_label (table_labels root chains) e ≡ false)
      made_ephe = ⊎_elim (λ no. absurd (room no.1)) (λ made. made) (grow_ephe z limits root chains f0 f1 r1 table p1)

      abbrev e : Label
      e = made_ephe.0

      reads_1 : Reads z f0 f1 root chains
      reads_1 = reads_on z f0 f0 f1 _ root chains reads_0 made_ephe.1

      keeps_1 : KeepsOthers z f0 f1
      keeps_1 = keeps_set z limits f0 f0 f1 8 _ made_ephe.1.registers_are (keeps_all z f0) (λ r a b c. a)

      eight_1 : held_in z f1 8 ≡ Block e
      eight_1 = set_here z limits f0 f0 f1 8 _ made_ephe.1.registers_are (omega arith)

      module _ (f2 : List Entry) (r2 : Reply) (p2 : Performed z f1 f2 (Alloc 9 0 2) r2) where
        pub refused_node : r2 ≡ reply.Full → Refused z f0 f2 root chains
        refused_node full = ⊎_elim
            (λ no. record { reads = reads_on z f0 f1 f2 _ root chains reads_1 no.0; keeps = same_registers z f0 f1 f2 keeps_1 no.0.registers_are })
            (λ made. absurd (let clash : reply.Block made.0 ≡ reply.Full = sym made.2 ∙ full in cc))
            (grow_node z limits root chains f1 f2 r2 e reads_1.table made_ephe.4 made_ephe.5 p2)

        module _ (more : r2 ≡ reply.Full → ⊥) (none : datum_at (bindings (graph_of z f0) chains) k ≡ None) (f3 f4 f5 f6 : List Entry) (r3 r4 r5 r6 : Reply) (p3 : Performed z f2 f3 (Store 9 0 8) r3) (p4 : Performed z f3 f4 (Load 10 tr i) r4)
            (p5 : Performed z f4 f5 (Store 9 1 10) r5) (p6 : Performed z f5 f6 (Store tr i 9) r6) where
          made_node : (n : Label) × After z f1 f2 [] (set (registers_of z f1) 9 (Block n)) × (r2 ≡ reply.Block n) × (node_at (graph_of z f1) n ≡ None) × Linking z f2 root chains (record { node = n; ephe = e }) (Int (pos 0)) (Int (pos 0))
              × ThinnedBy (Went z f1 f2) (bindings (graph_of z f1) chains) (bindings (graph_of z f2) chains)
          made_node = ⊎_elim (λ no. absurd (more no.1)) (λ made. made) (grow_node z limits root chains f1 f2 r2 e reads_1.table made_ephe.4 made_ephe.5 p2)

          abbrev n : Label
          n = made_node.0

          abbrev c : Cell
          c = record { node = n; ephe = e }

          new_node : node_at (graph_of z f0) n ≡ None
          new_node = new_earlier z f0 f1 n made_ephe.1.grows made_node.3

          keeps_2 : KeepsOthers z f0 f2
          keeps_2 = keeps_set z limits f0 f1 f2 9 _ made_node.1.registers_are keeps_1 (λ r a b c. b)

          eight_2 : held_in z f2 8 ≡ Block e
          eight_2 = set_other z limits f0 f1 f2 9 _ made_node.1.registers_are 8 (λ x. absurd (omega arith)) ∙ eight_1

          nine_2 : held_in z f2 9 ≡ Block n
          nine_2 = set_here z limits f0 f1 f2 9 _ made_node.1.registers_are (omega arith)

          step_3 : After z f2 f3 (n ∷ []) (registers_of z f2) × (r3 ≡ reply.Done) × Linking z f3 root chains c (Block e) (Int (pos 0)) × ThinnedBy (Went z f2 f3) (bindings (graph_of z f2) chains) (bindings (graph_of z f3) chains)
          step_3 = link_ephe z limits root chains c f2 f3 r3 _ _ made_node.4 eight_2 nine_2 p3

          keeps_3 : KeepsOthers z f0 f3
          keeps_3 = same_registers z f0 f2 f3 keeps_2 step_3.0.registers_are

          table_3 : held_in z f3 tr ≡ Block root
          table_3 = below_eight z f0 f3 tr few keeps_3 ∙ held

          step_4 : After z f3 f4 [] (set (registers_of z f3) 10 (head_of (get_or chains i []))) × (r4 ≡ shown (head_of (get_or chains i []))) × Linking z f4 root chains c (Block e) (Int (pos 0))
              × ThinnedBy (Went z f3 f4) (bindings (graph_of z f3) chains) (bindings (graph_of z f4) chains)
          step_4 = link_head z limits root chains c f3 f4 r4 _ _ tr i below step_3.2 table_3 p4

          keeps_4 : KeepsOthers z f0 f4
          keeps_4 = keeps_set z limits f0 f3 f4 10 _ step_4.0.registers_are keeps_3 (λ r a b c. c)

          same_3 : (r : ℕ) → held_in z f3 r ≡ held_in z f2 r
          same_3 r = ap (λ (rs : List Value). get_or rs r Nothing) step_3.0.registers_are

          nine_4 : held_in z f4 9 ≡ Block n
          nine_4 = set_other z limits f0 f3 f4 10 _ step_4.0.registers_are 9 (λ x. absurd (omega arith)) ∙ (same_3 9 ∙ nine_2)

          eight_4 : held_in z f4 8 ≡ Block e
          eight_4 = set_other z limits f0 f3 f4 10 _ step_4.0.registers_are 8 (λ x. absurd (omega arith)) ∙ (same_3 8 ∙ eight_2)

          ten_4 : held_in z f4 10 ≡ head_of (get_or chains i [])
          ten_4 = set_here z limits f0 f3 f4 10 _ step_4.0.registers_are (omega arith)

          step_5 : After z f4 f5 (n ∷ []) (registers_of z f4) × (r5 ≡ reply.Done) × Linking z f5 root chains c (Block e) (head_of (get_or chains i [])) × ThinnedBy (Went z f4 f5) (bindings (graph_of z f4) chains) (bindings (graph_of z f5) chains)
          step_5 = link_next z limits root chains c f4 f5 r5 _ _ (get_or chains i []) step_4.2 ten_4 nine_4 p5

          keeps_5 : KeepsOthers z f0 f5
          keeps_5 = same_registers z f0 f4 f5 keeps_4 step_5.0.registers_are

          same_5 : (r : ℕ) → held_in z f5 r ≡ held_in z f4 r
          same_5 r = ap (λ (rs : List Value). get_or rs r Nothing) step_5.0.registers_are

          abbrev grown : List (List Cell)
          grown = set chains i (c ∷ get_or chains i [])

          step_6 : After z f5 f6 (root ∷ []) (registers_of z f5) × (r6 ≡ reply.Done) × IsTable (graph_of z f6) root grown × ThinnedBy (Went z f5 f6) (bindings (graph_of z f5) chains) (bindings (graph_of z f6) grown)
          step_6 = link_cell z limits root chains c f5 f6 r6 tr i below step_5.2 (below_eight z f0 f5 tr few keeps_5 ∙ held) (same_5 9 ∙ nine_4) p6

          goes_1 : Goes z f0 f1 (table_labels root chains)
          goes_1 = goes_reading z f0 f0 f1 _ _ goes_0 made_ephe.1

          goes_2 : Goes z f0 f2 (table_labels root chains)
          goes_2 = goes_reading z f0 f1 f2 _ _ goes_1 made_node.1

          goes_3 : Goes z f0 f3 (table_labels root chains)
          goes_3 = goes_on z f0 f2 f3 _ (n ∷ []) _ goes_2 step_3.0 (own_new n new_node)

          goes_4 : Goes z f0 f4 (table_labels root chains)
          goes_4 = goes_reading z f0 f3 f4 _ _ goes_3 step_4.0

          goes_5 : Goes z f0 f5 (table_labels root chains)
          goes_5 = goes_on z f0 f4 f5 _ (n ∷ []) _ goes_4 step_5.0 (own_new n new_node)

          goes_6 : Goes z f0 f6 (table_labels root chains)
          goes_6 = goes_on z f0 f5 f6 _ (root ∷ []) _ goes_5 step_6.0 own_root

          thin_6 : ThinnedBy (WasOutside z f0 f6) (bindings (graph_of z f0) chains) (bindings (graph_of z f6) grown)
          thin_6 =
              let t2 = thinned_on z f0 f1 f2 _ _ _ goes_1.grows made_node.1.grows reads_1.thinned made_node.5 in
              let t3 = thinned_on z f0 f2 f3 _ _ _ goes_2.grows step_3.0.grows t2 step_3.3 in
              let t4 = thinned_on z f0 f3 f4 _ _ _ goes_3.grows step_4.0.grows t3 step_4.3 in
              let t5 = thinned_on z f0 f4 f5 _ _ _ goes_4.grows step_5.0.grows t4 step_5.3 in
              thinned_on z f0 f5 f6 _ _ _ goes_5.grows step_6.0.grows t5 step_6.3

          none_6 : datum_at (bindings (graph_of z f6) grown) k ≡ None
          none_6 = thinned_none (WasOutside z f0 f6) k _ _ thin_6 none

          inside : i < length chains
          inside = subst (λ n. i < n) (sym table.count) below

          chain_6 : get_or grown i [] ≡ c ∷ get_or chains i []
          chain_6 = get_or-set_same chains i (c ∷ get_or chains i []) [] inside

          ephe_6 : node_at (graph_of z f6) e ≡ Some (Ephe (None ∷ []) Nothing)
          ephe_6 =
              let differ = (not_first root (flat_map cell_labels chains) e made_ephe.5).0 in
              let other : has_label (root ∷ []) e ≡ false = rw differ refl in
              empty_stays (Went z f5 f6) Nothing _ (step_6.0.changes e _ step_5.2.ephe other)

          behind_6 : datum_at (chain_bindings (graph_of z f6) (get_or chains i [])) k ≡ None
          behind_6 =
              let g = graph_of z f6 in
              sym (ap (λ o. datum_at (binding_of o ++ chain_bindings g (get_or chains i [])) k) ephe_6)
              ∙ (sym (ap (λ (cells : List Cell). datum_at (chain_bindings g cells) k) chain_6)
              ∙ (sym (datum_of_bucket (chain_bindings g) k 0 grown i (subst (λ n. i < n) (sym step_6.2.count) below) (let same : i ≡ 0 + i = omega arith in same)
              (λ t b. let same : t ≡ 0 + t = omega arith in subst (λ n. IsTrue (is_bucket n (chain_bindings g (get_or grown t [])))) same (step_6.2.bucket t (subst (λ n. t < n) step_6.2.count b)))) ∙ none_6))

          -- the blocks of the grown table
          root_6 : Has IsTidy (graph_of z f6) root
          root_6 = record { node = Plain step_6.2.tag step_6.2.fields; at = step_6.2.node; is = tt }

          node_6 : Has IsTidy (graph_of z f6) n
          node_6 = has_kept IsTidy tidy_lasts (Went z f5 f6) (root ∷ []) (graph_of z f5) (graph_of z f6) step_6.0.changes n (one_other root n (not_first root (flat_map cell_labels chains) n step_5.2.fresh_node).0)
              (record { node = Plain 0 (Block e ∷ head_of (get_or chains i []) ∷ []); at = step_5.2.node; is = tt })

          cell_6 : Has IsTidy (graph_of z f6) e
          cell_6 = record { node = Ephe (None ∷ []) Nothing; at = ephe_6; is = refl }

          -- one that was there is neither the node nor, if it isn't the root, written
          old_6 : (l : Label) → same_label root l ≡ false → Has IsTidy (graph_of z f0) l → Has IsTidy (graph_of z f6) l
          old_6 l differ x =
              let apart : same_label n l ≡ false = never_true (same_label n l) (λ same. let clash : ◌≡◌ {A = Option Node} None (Some x.node) = sym new_node ∙ (ap (node_at (graph_of z f0)) (same_label-true n l same) ∙ x.at) in cc) in
              let x1 = has_kept IsTidy tidy_lasts (Went z f0 f1) [] (graph_of z f0) (graph_of z f1) made_ephe.1.changes l refl x in
              let x2 = has_kept IsTidy tidy_lasts (Went z f1 f2) [] (graph_of z f1) (graph_of z f2) made_node.1.changes l refl x1 in
              let x3 = has_kept IsTidy tidy_lasts (Went z f2 f3) (n ∷ []) (graph_of z f2) (graph_of z f3) step_3.0.changes l (one_other n l apart) x2 in
              let x4 = has_kept IsTidy tidy_lasts (Went z f3 f4) [] (graph_of z f3) (graph_of z f4) step_4.0.changes l refl x3 in
              let x5 = has_kept IsTidy tidy_lasts (Went z f4 f5) (n ∷ []) (graph_of z f4) (graph_of z f5) step_5.0.changes l (one_other n l apart) x4 in
              has_kept IsTidy tidy_lasts (Went z f5 f6) (root ∷ []) (graph_of z f5) (graph_of z f6) step_6.0.changes l (one_other root l differ) x5

          tidy_6 : AllHave IsTidy (graph_of z f0) (table_labels root chains) → AllHave IsTidy (graph_of z f6) (table_labels root grown)
          tidy_6 before l h =
              let as_root : IsTrue (same_label root l) → Has IsTidy (graph_of z f6) l = λ same. subst (Has IsTidy (graph_of z f6)) (same_label-true root l same) root_6 in
              ⊎_elim as_root
              (λ later. ⊎_elim
              (λ is. subst (Has IsTidy (graph_of z f6)) (sym is) node_6)
              (λ others. ⊎_elim (λ is. subst (Has IsTidy (graph_of z f6)) (sym is) cell_6)
              (λ old. ⊎_elim as_root (λ differ. old_6 l differ (before l (or_right (same_label root l) _ old))) (true_or_false (same_label root l))) others)
              (more_labels chains i c l inside later))
              (or_cases (same_label root l) _ h)

          pub grown_ready : (full : Bool) → IsTrue full → Ready z f0 f6 root chains k full
          grown_ready full all = record {
            goes = goes_6;
            keeps = same_registers z f0 f5 f6 keeps_5 step_6.0.registers_are;
            grown = grown;
            cells = inr (record { cell = c; more = refl; node = new_node; ephe = made_ephe.3 });
            spare = inr all;
            labels = λ l h. ⊎_elim
                (λ same. inl (or_left (same_label root l) _ same))
                (λ later. ⊎_elim
                (λ is. inr (ap (node_at (graph_of z f0)) is ∙ new_node))
                (λ others. ⊎_elim (λ is. inr (ap (node_at (graph_of z f0)) is ∙ made_ephe.3)) (λ old. inl (or_right (same_label root l) _ old)) others)
                (more_labels chains i c l inside later))
                (or_cases (same_label root l) _ h);
            done = [];
            cell = c;
            rest = get_or chains i [];
            key = None;
            datum = Nothing;
            holding = record { table = step_6.2; below = below; placed = refl; split = chain_6; at = ephe_6; mine = inl refl; before = refl; behind = behind_6 };
            ephe = ap (λ (rs : List Value). get_or rs 8 Nothing) step_6.0.registers_are ∙ (same_5 8 ∙ eight_4);
            left = thinned_without (WasOutside z f0 f6) k _ _ thin_6;
            tidy = tidy_6;
          }

  -- by what the making of a cell answers
  pub cell_refused : (f : List Entry) → CellAnswers z f0 f false → Refused z f0 f root chains
  cell_refused f answers = ⊎_elim (λ p. refused_ephe f reply.Full p refl) (λ m. refused_node m.between m.ephe m.first m.room f reply.Full m.second refl) answers

  pub cell_linked : (f new : List Entry) → CellAnswers z f0 f true → datum_at (bindings (graph_of z f0) chains) k ≡ None → LinksCell z f new tr i → (full : Bool) → IsTrue full → Ready z f0 new root chains k full
  cell_linked f new made none l full all =
      let m = made.2 in
      grown_ready m.between m.ephe m.first m.room f made.0 m.second made.1 none l.named l.read l.followed new l.ephe_reply l.head_reply l.next_reply l.linked_reply l.ephe l.head l.next l.linked full all

-- what the making of a cell answers, by whether its block was refused
pub cell_answers : (z : Sizes) (a b c : List Entry) (ephe node : Reply) (full : Bool) → Performed z a b (NewEphe 8 1) ephe → ephe ≢ reply.Full → Performed z b c (Alloc 9 0 2) node → (full ≡ true) ↔ (node ≡ reply.Full) → CellAnswers z a c (not full)
cell_answers z a b c ephe node true p room q is = inr (record { ephe = ephe; between = b; first = p; room = room; second = subst (λ (r : Reply). Performed z b c (Alloc 9 0 2) r) (is.0 refl) q })
cell_answers z a b c ephe node false p room q is = (node, (λ full. let clash : false ≡ true = is.1 full in cc), record { ephe = ephe; between = b; first = p; room = room; second = q })

-- a search that found the key, and one that was followed by a new cell
found_own : (root : Label) (chains : List (List Cell)) (l : Label) → IsTrue (has_label [] l) → IsTrue (has_label (table_labels root chains) l)
found_own root chains l h = absurd (let clash : false ≡ true = h in cc)

-- an ephemeron that was found, with the key or without one, may bind it
pub ready_found : (z : Sizes) (first f : List Entry) (root : Label) (chains : List (List Cell)) (k : Label) (key : Option Label) (full : Bool) → Found z first f root chains k key → Ready z first f root chains k full
ready_found z first f root chains k key full x = record {
  goes = goes_wider z first f [] (table_labels root chains) (found_own root chains) x.reads.goes;
  keeps = x.keeps;
  grown = chains;
  cells = inl refl;
  spare = inl refl;
  labels = λ l h. inl h;
  done = x.done;
  cell = x.cell;
  rest = x.rest;
  key = key;
  datum = x.datum;
  holding = x.holding;
  ephe = x.ephe;
  left = thinned_without (WasOutside z first f) k _ _ x.reads.thinned;
  tidy = λ before. all_kept IsTidy tidy_lasts (WasOutside z first f) (graph_of z first) (graph_of z f) x.reads.goes.changes (table_labels root chains) before;
}

keeps_both : (z : Sizes) (a b c : List Entry) → KeepsOthers z a b → KeepsOthers z b c → KeepsOthers z a c
keeps_both z a b c x y r p q s = y r p q s ∙ x r p q s

pub ready_grown : (z : Sizes) (first f g : List Entry) (root : Label) (chains : List (List Cell)) (k : Label) (full : Bool) → Missed z first f root chains k → Ready z f g root chains k full → Ready z first g root chains k full
ready_grown z first f g root chains k full m x = record {
  goes = goes_both z first f g m.reads.goes.grows x.goes.grows (table_labels root chains) (table_labels root chains) (goes_wider z first f [] (table_labels root chains) (found_own root chains) m.reads.goes) x.goes (λ l h. inl h);
  keeps = keeps_both z first f g m.keeps x.keeps;
  grown = x.grown;
  cells = ⊎_elim (λ same. inl same) (λ one. inr (record { cell = one.cell; more = one.more; node = new_earlier z first f one.cell.node m.reads.goes.grows one.node; ephe = new_earlier z first f one.cell.ephe m.reads.goes.grows one.ephe })) x.cells;
  spare = x.spare;
  labels = λ l h. ⊎_elim (λ old. inl old) (λ none. inr (new_earlier z first f l m.reads.goes.grows none)) (x.labels l h);
  done = x.done;
  cell = x.cell;
  rest = x.rest;
  key = x.key;
  datum = x.datum;
  holding = x.holding;
  ephe = x.ephe;
  left = thinned_both z first f g m.reads.goes.grows x.goes.grows _ _ _ (thinned_without (WasOutside z first f) k _ _ m.reads.thinned) x.left;
  tidy = λ before. x.tidy (all_kept IsTidy tidy_lasts (WasOutside z first f) (graph_of z first) (graph_of z f) m.reads.goes.changes (table_labels root chains) before);
}

pub refused_grown : (z : Sizes) (first f g : List Entry) (root : Label) (chains : List (List Cell)) (k : Label) → Missed z first f root chains k → Refused z f g root chains → Refused z first g root chains
refused_grown z first f g root chains k m x = record {
  reads = record {
    goes = goes_both z first f g m.reads.goes.grows x.reads.goes.grows [] [] m.reads.goes x.reads.goes (λ l h. absurd (let clash : false ≡ true = h in cc));
    table = x.reads.table;
    thinned = thinned_both z first f g m.reads.goes.grows x.reads.goes.grows _ _ _ m.reads.thinned x.reads.thinned;
  };
  keeps = keeps_both z first f g m.keeps x.keeps;
}

pub refused_cleared : (z : Sizes) (limits : IsWithinLimits z) (first f new : List Entry) (root : Label) (chains : List (List Cell)) → Refused z first f root chains → Cleared z f new → Refused z first new root chains × IsClean z new
refused_cleared z limits first f new root chains x c = (record { reads = cleared_reads z limits f new c root chains first x.reads; keeps = cleared_keeps z limits f new c first x.keeps }, cleared_clean z limits f new c)

full_datum : (v : Value) → v ≢ Nothing → IsTrue (is_full_value v)
full_datum (Int w) some = refl
full_datum (Block l) some = refl
full_datum Nothing some = absurd (some refl)

-- the datum and the key are set
module _ (z : Sizes) (limits : IsWithinLimits z) (root : Label) (chains : List (List Cell)) (k : Label) (v : Value) (some : v ≢ Nothing) (kr ir : ℕ) (few_key : kr < 8) (few_item : ir < 8) (first f g h new : List Entry) (r s : Reply) (full : Bool) (x : Ready z first f root chains k full) (whole_bucket : IsTrue full → IsTrue (is_bucket_full (graph_of z first) k chains))
    (held : held_in z first kr ≡ Block k) (item : held_in z first ir ≡ v) (p : Performed z f g (SetData 8 ir) r) (q : Performed z g h (SetKey 8 0 kr) s) (c : Cleared z h new) where
  abbrev at : ℕ
  at = k.serial % bucket_count

  key_f : held_in z f kr ≡ Block k
  key_f = below_eight z first f kr few_key x.keeps ∙ held

  step_g : After z f g (x.cell.ephe ∷ []) (registers_of z f) × (r ≡ reply.Done) × Holding z g root x.grown k at x.done x.cell x.rest x.key v × ThinnedBy (Went z f g) (without k (bindings (graph_of z f) x.grown)) (without k (bindings (graph_of z g) x.grown))
  step_g = fill_data z limits root x.grown k kr at x.done x.cell x.rest f g r x.key x.datum x.holding key_f x.ephe ir v (below_eight z first f ir few_item x.keeps ∙ item) some p

  same_g : (r : ℕ) → held_in z g r ≡ held_in z f r
  same_g r = ap (λ (rs : List Value). get_or rs r Nothing) step_g.0.registers_are

  step_h : After z g h (x.cell.ephe ∷ []) (registers_of z g) × (s ≡ reply.Done) × Holding z h root x.grown k at x.done x.cell x.rest (Some k) v × ThinnedBy (Went z g h) (without k (bindings (graph_of z g) x.grown)) (without k (bindings (graph_of z h) x.grown))
  step_h = fill_key z limits root x.grown k kr at x.done x.cell x.rest g h s x.key v step_g.2 (same_g kr ∙ key_f) (same_g 8 ∙ x.ephe) (full_datum v some) q

  own : (l : Label) → IsTrue (has_label (x.cell.ephe ∷ []) l) → IsTrue (has_label (table_labels root chains) l) ⊎ (node_at (graph_of z first) l ≡ None)
  own l mine = ⊎_elim
      (λ same. x.labels l (subst (λ m. IsTrue (has_label (table_labels root x.grown) m)) (same_label-true x.cell.ephe l same)
      (or_right (same_label root x.cell.ephe) _ (chain_label x.grown at x.cell.ephe
      (in_chain (Went z f g) (graph_of z f) (graph_of z g) root x.grown x.holding.table at x.holding.below x.done x.cell x.rest x.holding.split)))))
      (λ none. absurd (let clash : false ≡ true = none in cc))
      (or_cases (same_label x.cell.ephe l) false mine)

  goes_g : Goes z first g (table_labels root chains)
  goes_g = goes_on z first f g _ (x.cell.ephe ∷ []) _ x.goes step_g.0 own

  goes_h : Goes z first h (table_labels root chains)
  goes_h = goes_on z first g h _ (x.cell.ephe ∷ []) _ goes_g step_h.0 own

  left_h : ThinnedBy (WasOutside z first h) (without k (bindings (graph_of z first) chains)) (without k (bindings (graph_of z h) x.grown))
  left_h = thinned_on z first g h _ _ _ goes_g.grows step_h.0.grows (thinned_on z first f g _ _ _ x.goes.grows step_g.0.grows x.left step_g.3) step_h.3

  bound_h : datum_at (bindings (graph_of z h) x.grown) k ≡ Some v
  bound_h = holding_datum z limits root x.grown k kr at x.done x.cell x.rest h (Some k) v step_h.2 ∙ rw (same_label_refl k) refl

  keeps_h : KeepsOthers z first h
  keeps_h = same_registers z first g h (same_registers z first f g x.keeps step_g.0.registers_are) step_h.0.registers_are

  key_h : held_in z h kr ≡ Block k
  key_h = below_eight z first h kr few_key keeps_h ∙ held

  pub put_done : Puts z first new root chains k v
  put_done = record {
    goes = cleared_goes z limits h new c first _ goes_h;
    keeps = cleared_keeps z limits h new c first keeps_h;
    clean = cleared_clean z limits h new c;
    grown = x.grown;
    cells = x.cells;
    spare = ⊎_elim (λ same. inl same) (λ all. inr (whole_bucket all)) x.spare;
    labels = x.labels;
    table = cleared_table z limits h new c root x.grown step_h.2.table;
    left = cleared_without z limits h new c root x.grown first k _ _ goes_h step_h.2.table left_h;
    bound = cleared_datum z limits h new c root x.grown k kr few_key key_h step_h.2.table ∙ bound_h;
    tidy = λ before l there. has_cleared IsTidy tidy_lasts z h new c l
        (has_twice IsTidy tidy_lasts (Went z f g) (Went z g h) x.cell.ephe (graph_of z f) (graph_of z g) (graph_of z h) step_g.0.changes step_h.0.changes (record { node = Ephe (Some k ∷ []) v; at = step_h.2.at; is = tt }) l (x.tidy before l there));
  }

-- a key that was found is read
module _ (z : Sizes) (limits : IsWithinLimits z) (root : Label) (chains : List (List Cell)) (k : Label) (kr dst : ℕ) (few_key : kr < 8) (few_dst : dst < 8) (first f g new : List Entry) (r : Reply) (held : held_in z first kr ≡ Block k) where
  apart_dst : (r : ℕ) → r ≢ 8 → r ≢ 9 → r ≢ 10 → r ≢ dst → r ≢ dst
  apart_dst r a b c d = d

  keeps_dst : (v : Value) → KeepsOthers z first f → registers_of z g ≡ set (registers_of z f) dst v → Cleared z g new → (r : ℕ) → r ≢ 8 → r ≢ 9 → r ≢ 10 → r ≢ dst → held_in z new r ≡ held_in z first r
  keeps_dst v keeps is c r x y w d = cleared_keeps z limits g new c g (keeps_all z g) r x y w ∙ (set_other z limits first f g dst v is r d ∙ keeps r x y w)

  holds_dst : (v : Value) → registers_of z g ≡ set (registers_of z f) dst v → Cleared z g new → held_in z new dst ≡ v
  holds_dst v is c = below_eight z g new dst few_dst (cleared_keeps z limits g new c g (keeps_all z g)) ∙ set_here z limits first f g dst v is (omega arith)

  until_new : (a : IsPrefix f g) → Cleared z g new → IsPrefix f new
  until_new a c = prefix_on f g new a (prefix_on g c.first new c.eight.grows (prefix_on c.first c.second new c.nine.grows c.ten.grows))

  pub get_found : Found z first f root chains k (Some k) → Performed z f g (GetData dst 8) r → Cleared z g new → Gets z first new root chains k dst r
  get_found x p c =
      let at : ℕ = k.serial % bucket_count in
      let key_f : held_in z f kr ≡ Block k = below_eight z first f kr few_key x.keeps ∙ held in
      let t = get_data_step z limits f g r 8 x.cell.ephe (Some k) x.datum x.ephe x.holding.at dst p in
      let w = whole z limits root chains k kr at x.done x.cell x.rest f g (Some k) x.datum x.holding key_f t.0 in
      let regs : registers_of z g ≡ set (registers_of z f) dst x.datum = t.1.registers_are ∙ ap (set (registers_of z f) dst) w.1 in record {
        reads = cleared_reads z limits g new c root chains first (reads_on z first f g _ root chains x.reads t.1);
        clean = cleared_clean z limits g new c;
        keeps = keeps_dst x.datum x.keeps regs c;
        front = f;
        since = x.reads.goes.grows;
        until = until_new t.1.grows c;
        rest = cleared_reads z limits g new c root chains f (reads_on z f f g _ root chains (reads_from z f root chains x.reads.goes.legal x.reads.table) t.1);
        found = Some x.datum;
        bound = holding_datum z limits root chains k kr at x.done x.cell x.rest f (Some k) x.datum x.holding ∙ rw (same_label_refl k) refl;
        answers = t.2 ∙ ap shown w.1;
        holds = holds_dst x.datum regs c;
      }

  pub get_none : Missed z first f root chains k → Performed z f g (Forget dst) r → Cleared z g new → Gets z first new root chains k dst reply.Empty
  get_none x p c =
      let t = forget_step z limits f g r dst p in record {
        reads = cleared_reads z limits g new c root chains first (reads_on z first f g _ root chains x.reads t.0);
        clean = cleared_clean z limits g new c;
        keeps = keeps_dst Nothing x.keeps t.0.registers_are c;
        front = f;
        since = x.reads.goes.grows;
        until = until_new t.0.grows c;
        rest = cleared_reads z limits g new c root chains f (reads_on z f f g _ root chains (reads_from z f root chains x.reads.goes.legal x.reads.table) t.0);
        found = None;
        bound = x.none;
        answers = refl;
        holds = holds_dst Nothing t.0.registers_are c;
      }

-- the bindings are placed, one way or the other
pub placed_after : (z : Sizes) (first f g : List Entry) (root : Label) (chains : List (List Cell)) (k : Label) (full b : Bool) → Missed z first f root chains k → Placed z f g root chains k full b → Placed z first g root chains k full b
placed_after z first f g root chains k full true m x = ready_grown z first f g root chains k full m x
placed_after z first f g root chains k full false m x = refused_grown z first f g root chains k m x

-- a table that a register below 8 held is held still
pub missed_holds : (z : Sizes) (first f : List Entry) (root : Label) (chains : List (List Cell)) (k : Label) (tr : ℕ) → tr < 8 → held_in z first tr ≡ Block root → Missed z first f root chains k → HoldsTable z f tr
missed_holds z first f root chains k tr few held m = record { root = root; chains = chains; held = below_eight z first f tr few m.keeps ∙ held; table = m.reads.table }

module _ (z : Sizes) (limits : IsWithinLimits z) (root : Label) (chains : List (List Cell)) (k : Label) (tr kr ir dst : ℕ) (few_key : kr < 8) (few_item : ir < 8) (few_dst : dst < 8) (old f : List Entry) (key : held_in z old kr ≡ Block k) (held : held_in z old tr ≡ Block root)
    (table : IsTable (graph_of z old) root chains) where
  named : Some k ≡ label_of (held_in z old kr)
  named = sym (ap label_of key)

  put_value : (v : Value) → v ≢ Nothing → (new : List Entry) (r : Reply) → ((r ≡ reply.Done) × Puts z old new root chains k v) ⊎ ((r ≡ reply.Full) × Refused z old new root chains × IsClean z new) → PutAnswers z old new root chains (Some k) v r
  put_value (Int w) some new r x = x
  put_value (Block l) some new r x = x
  put_value Nothing some new r x = absurd (some refl)

  pub put_refused : (new : List Entry) → held_in z old ir ≢ Nothing → Placed z old f root chains k (is_bucket_full (graph_of z old) k chains) false → Cleared z f new → PutAnswers z old new root chains (label_of (held_in z old kr)) (held_in z old ir) reply.Full
  put_refused new some x c =
      let t = refused_cleared z limits old f new root chains x c in
      subst (λ (o : Option Label). PutAnswers z old new root chains o (held_in z old ir) reply.Full) named (put_value (held_in z old ir) some new reply.Full (inr (refl, t.0, t.1)))

  pub put_made : (g h new : List Entry) (r s : Reply) → held_in z old ir ≢ Nothing → Placed z old f root chains k (is_bucket_full (graph_of z old) k chains) true → Performed z f g (SetData 8 ir) r → Performed z g h (SetKey 8 0 kr) s → Cleared z h new
      → PutAnswers z old new root chains (label_of (held_in z old kr)) (held_in z old ir) reply.Done
  put_made g h new r s some x p q c =
      let t = put_done z limits root chains k (held_in z old ir) some kr ir few_key few_item old f g h new r s (is_bucket_full (graph_of z old) k chains) x (λ all. all) key refl p q c in
      subst (λ (o : Option Label). PutAnswers z old new root chains o (held_in z old ir) reply.Done) named (put_value (held_in z old ir) some new reply.Done (inl (refl, t)))

  pub got_found : (g new : List Entry) (r : Reply) → LooksUp z old f tr k true → Performed z f g (GetData dst 8) r → Cleared z g new → GetAnswers z old new root chains dst (label_of (held_in z old kr)) r
  got_found g new r s p c = subst (λ (o : Option Label). GetAnswers z old new root chains dst o r) named (get_found z limits root chains k kr dst few_key few_dst old f g new r key (s root chains held table) p c)

  pub got_none : (g new : List Entry) (r : Reply) → LooksUp z old f tr k false → Performed z f g (Forget dst) r → Cleared z g new → GetAnswers z old new root chains dst (label_of (held_in z old kr)) reply.Empty
  got_none g new r s p c = subst (λ (o : Option Label). GetAnswers z old new root chains dst o reply.Empty) named (get_none z limits root chains k kr dst few_key few_dst old f g new r key (s root chains held table) p c)

-- a reply that isn't `none` shows something
pub shown_some : (v : Value) → (shown v ≡ reply.Empty → ⊥) → v ≢ Nothing
shown_some (Int w) other = λ e. cc
shown_some (Block l) other = λ e. cc
shown_some Nothing other = absurd (other refl)

-- what `place` says of the key and the datum that registers show, at the front and the numbers that a call began with
pub placing : (z y w : Sizes) (old front first now : List Entry) (t kr ir : ℕ) (k : Label) (of_key of_item : Reply) (empty a b : Bool)
    → y ≡ z → front ≡ old → of_key ≡ shown (held_in z old kr) → of_key ≡ reply.Block k → w ≡ y → first ≡ front → of_item ≡ shown (held_in y front ir) → (empty ≡ true) ↔ (of_item ≡ reply.Empty) → empty ≡ false → PlacedAt w first now t k a → a ≡ b
    → (held_in z old kr ≡ Block k) × (held_in z old ir ≢ Nothing) × PlacedAt z old now t k b
placing z y w old front first now t kr ir k of_key of_item empty a b sizes same shows is sizes_then same_then shows_item tells some placed answer = (
  shown_label (held_in z old kr) k (sym shows ∙ is),
  shown_some (held_in z old ir) (λ none. let clash : true ≡ false = sym (tells.1 (shows_item ∙ ((λ i. shown (held_in (sizes i) (same i) ir)) ∙ none))) ∙ some in cc),
  subst (λ (x : Sizes × List Entry × Bool). PlacedAt x.0 x.1 now t k x.2) (λ i. ((sizes_then ∙ sizes) i, (same_then ∙ same) i, answer i)) placed,
)
