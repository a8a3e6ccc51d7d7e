-- A binding is put and taken at a cell that alone may bind its key.
use Rattle.std.proofs.Common.{◌≡◌, ◌≢◌, inl, inr, ⊎_elim, ℕ, ◌+◌, ◌<◌, ◌%◌, IsTrue, List, [], ◌∷◌, ◌++◌, get_or, Option, Some, None, refl, ap, sym, ◌∙◌, subst, arith}
use Rattle.std.proofs.lemmas.Grind.{flat_map-append}
use Rattle.model_core.specs.declared.label.Label.{Label}
use Rattle.model_core.specs.declared.command.Command.TheVariants.{SetKey, UnsetKey, SetData, UnsetData}
use Rattle.model_core.specs.declared.entry.Entry.{Entry}
use Rattle.model_core.specs.declared.reply.Reply.{Reply}
use Rattle.model_core.specs.declared.reply.Reply.TheVariants.{Done}
use Rattle.model_core.specs.declared.graph.Value.{Value}
use Rattle.model_core.specs.declared.graph.Value.TheVariants.{Int, Block, Nothing}
use Rattle.model_core.specs.declared.graph.Node.TheVariants.{Ephe}
use Rattle.model_core.specs.declared.state.Sizes.{Sizes}
use Rattle.model_core.specs.Graph.{node_at}
use Rattle.model_core.specs.Domains.{IsWithinLimits}
use Rattle.model_core.specs.Commands.{is_full_value}
use Rattle.model_core.proofs.Graphs.GraphLemmas.{same_label_refl}
use Rattle.weak_laws.specs.Tables.Structures.{Binding, Cell, bucket_count, bound, binding_of, chain_bindings, bindings, datum_at, without, is_bucket}
use Rattle.weak_laws.specs.Tables.Thinning.{ThinnedBy, Thin, Went}
use Rattle.weak_laws.specs.Tables.Performing.{Performed, After, Remains, registers_of}
use Rattle.weak_laws.specs.Tables.Stages.{Searching, Holding, IsFor, IsFilled, graph_of, held_in}
use Rattle.weak_laws.proofs.OfTables.BindingLemmas.{thinned_datum}
use Rattle.weak_laws.proofs.OfTables.LookupLemmas.{datum_first, datum_second, datum_of_bucket, bound_once}
use Rattle.weak_laws.proofs.OfTables.CellLemmas.{FitsIn, done_thinned, rest_thinned, table_changed, bindings_without}
use Rattle.weak_laws.proofs.OfTables.StepLemmas.{set_key_step, unset_key_step, set_data_step, unset_data_step}
use Rattle.weak_laws.proofs.OfTables.StageLemmas.{held_stays}

-- what such a cell binds has no other key
bound_mine : (k : Label) (key : Option Label) (datum : Value) → IsFor k key → without k (bound key datum) ≡ []
bound_mine k key datum (inl none) = ap (λ o. without k (bound o datum)) none
bound_mine k key datum (inr is) = ap (λ o. without k (bound o datum)) is ∙ rw (same_label_refl k) refl

full_value : (v : Value) → v ≢ Nothing → IsTrue (is_full_value v)
full_value (Int z) some = refl
full_value (Block l) some = refl
full_value Nothing some = absurd (some refl)

-- where a search found the key
pub found_holding : (z : Sizes) (h : List Entry) (root : Label) (chains : List (List Cell)) (k : Label) (i : ℕ) (done : List Cell) (c : Cell) (rest : List Cell) (datum : Value) → Searching z h root chains k i done (c ∷ rest)
    → k.serial % bucket_count ≡ i → node_at (graph_of z h) c.ephe ≡ Some (Ephe (Some k ∷ []) datum) → Holding z h root chains k i done c rest (Some k) datum
found_holding z h root chains k i done c rest datum s placed at = record {
  table = s.table;
  below = s.below;
  placed = placed;
  split = s.split;
  at = at;
  mine = inr refl;
  before = s.missing;
  behind = (bound_once i k datum (chain_bindings (graph_of z h) done) (chain_bindings (graph_of z h) rest)
      (subst (λ bs. IsTrue (is_bucket i bs))
      (ap (chain_bindings (graph_of z h)) s.split ∙ (flat_map-append (λ x. binding_of (node_at (graph_of z h) x.ephe)) done (c ∷ rest)
      ∙ ap (λ o. chain_bindings (graph_of z h) done ++ (binding_of o ++ chain_bindings (graph_of z h) rest)) at))
      (s.table.bucket i s.below))).1;
}

module _ (z : Sizes) (limits : IsWithinLimits z) (root : Label) (chains : List (List Cell)) (k : Label) (kr i : ℕ) (done : List Cell) (c : Cell) (rest : List Cell) where
  -- a change of the cell's ephemeron
  module _ (old new : List Entry) (key : Option Label) (datum : Value) (x : Holding z old root chains k i done c rest key datum) (held : held_in z old kr ≡ Block k) where
    -- what the collector leaves of it: all, since its key is held
    pub whole : (w : Remains z old new key datum) → (w.key_now ≡ key) × (w.datum_now ≡ datum)
    whole w = go w.left
      where
        go : Thin (Went z old new) (Ephe (key ∷ []) datum) (Some (Ephe (w.key_now ∷ []) w.datum_now)) → (w.key_now ≡ key) × (w.datum_now ≡ datum)
        go (inl same) = (cc, cc)
        go (inr (l, is, gone, empty)) = absurd (⊎_elim
            (λ none. let clash : ◌≡◌ {A = Option Label} None (Some l) = sym none ∙ is in cc)
            (λ mine. let same : k ≡ l = let both : Some k ≡ Some l = sym mine ∙ is in cc in held_stays z old new kr k held (subst (Went z old new) (sym same) gone))
            x.mine)

    module _ (rs : List Value) (a : After z old new (c.ephe ∷ []) rs) (key_now : Option Label) (datum_now : Value) (at : node_at (graph_of z new) c.ephe ≡ Some (Ephe (key_now ∷ []) datum_now)) (mine : IsFor k key_now) (filled : IsFilled key_now datum_now) where
      P : Label → Type 0
      P l = Went z old new l

      before_now : datum_at (chain_bindings (graph_of z new) done) k ≡ None
      before_now = thinned_datum (Went z old new) k (held_stays z old new kr k held) _ _
          (done_thinned (Went z old new) (graph_of z old) (graph_of z new) root chains x.table i x.below done c rest x.split a.changes key_now datum_now at) ∙ x.before

      behind_now : datum_at (chain_bindings (graph_of z new) rest) k ≡ None
      behind_now = thinned_datum (Went z old new) k (held_stays z old new kr k held) _ _
          (rest_thinned (Went z old new) (graph_of z old) (graph_of z new) root chains x.table i x.below done c rest x.split a.changes key_now datum_now at) ∙ x.behind

      fits : FitsIn i key_now datum_now (chain_bindings (graph_of z new) done ++ chain_bindings (graph_of z new) rest)
      fits = go key_now mine filled
        where
          go : (key : Option Label) → IsFor k key → IsFilled key datum_now → FitsIn i key datum_now (chain_bindings (graph_of z new) done ++ chain_bindings (graph_of z new) rest)
          go None mine full = tt
          go (Some l) (inl none) full = cc
          go (Some l) (inr is) full =
              let same : l ≡ k = cc in (
                ap (λ (l : Label). l.serial % bucket_count) same ∙ x.placed,
                full,
                ap (datum_at (chain_bindings (graph_of z new) done ++ chain_bindings (graph_of z new) rest)) same ∙ (datum_second k (chain_bindings (graph_of z new) done) _ before_now ∙ behind_now),
              )

      pub cell_holding : Holding z new root chains k i done c rest key_now datum_now
      cell_holding = record {
        table = table_changed (Went z old new) (graph_of z old) (graph_of z new) root chains x.table i x.below done c rest x.split a.changes key_now datum_now at fits;
        below = x.below;
        placed = x.placed;
        split = x.split;
        at = at;
        mine = mine;
        before = before_now;
        behind = behind_now;
      }

      pub cell_without : ThinnedBy (Went z old new) (without k (bindings (graph_of z old) chains)) (without k (bindings (graph_of z new) chains))
      cell_without = bindings_without (Went z old new) (graph_of z old) (graph_of z new) root chains x.table i x.below done c rest x.split a.changes key_now datum_now at fits k
          (ap (λ o. without k (binding_of o)) x.at ∙ bound_mine k key datum x.mine) (bound_mine k key_now datum_now mine)

  module _ (old new : List Entry) (r : Reply) (key : Option Label) (datum : Value) (x : Holding z old root chains k i done c rest key datum) (held : held_in z old kr ≡ Block k) (ephe : held_in z old 8 ≡ Block c.ephe) where
    -- the datum is set
    pub fill_data : (item : ℕ) (v : Value) → held_in z old item ≡ v → v ≢ Nothing → Performed z old new (SetData 8 item) r
        → After z old new (c.ephe ∷ []) (registers_of z old) × (r ≡ Done) × Holding z new root chains k i done c rest key v × ThinnedBy (Went z old new) (without k (bindings (graph_of z old) chains)) (without k (bindings (graph_of z new) chains))
    fill_data item v is some p =
        let t = set_data_step z limits old new r 8 c.ephe key datum ephe x.at item v is some p in
        let w = whole old new key datum x held t.0 in
        let at : node_at (graph_of z new) c.ephe ≡ Some (Ephe (key ∷ []) v) = t.3 ∙ ap (λ o. Some (Ephe (o ∷ []) v)) w.0 in
        (t.1, t.2, cell_holding old new key datum x held _ t.1 key v at x.mine (filled key), cell_without old new key datum x held _ t.1 key v at x.mine (filled key))
      where
        filled : (key : Option Label) → IsFilled key v
        filled None = tt
        filled (Some l) = full_value v some

    -- the key is set
    pub fill_key : IsTrue (is_full_value datum) → Performed z old new (SetKey 8 0 kr) r
        → After z old new (c.ephe ∷ []) (registers_of z old) × (r ≡ Done) × Holding z new root chains k i done c rest (Some k) datum × ThinnedBy (Went z old new) (without k (bindings (graph_of z old) chains)) (without k (bindings (graph_of z new) chains))
    fill_key full p =
        let t = set_key_step z limits old new r 8 c.ephe key datum ephe x.at kr k held p in
        let w = whole old new key datum x held t.0 in
        let at : node_at (graph_of z new) c.ephe ≡ Some (Ephe (Some k ∷ []) datum) = t.3 ∙ ap (λ v. Some (Ephe (Some k ∷ []) v)) w.1 in
        (t.1, t.2, cell_holding old new key datum x held _ t.1 (Some k) datum at (inr refl) full, cell_without old new key datum x held _ t.1 (Some k) datum at (inr refl) full)

    -- the key is taken out
    pub take_key : Performed z old new (UnsetKey 8 0) r
        → After z old new (c.ephe ∷ []) (registers_of z old) × (r ≡ Done) × Holding z new root chains k i done c rest None datum × ThinnedBy (Went z old new) (without k (bindings (graph_of z old) chains)) (without k (bindings (graph_of z new) chains))
    take_key p =
        let t = unset_key_step z limits old new r 8 c.ephe key datum ephe x.at p in
        let w = whole old new key datum x held t.0 in
        let at : node_at (graph_of z new) c.ephe ≡ Some (Ephe (None ∷ []) datum) = t.3 ∙ ap (λ v. Some (Ephe (None ∷ []) v)) w.1 in
        (t.1, t.2, cell_holding old new key datum x held _ t.1 None datum at (inl refl) tt, cell_without old new key datum x held _ t.1 None datum at (inl refl) tt)

    -- and then its datum
    pub take_data : key ≡ None → Performed z old new (UnsetData 8) r
        → After z old new (c.ephe ∷ []) (registers_of z old) × (r ≡ Done) × Holding z new root chains k i done c rest None Nothing × ThinnedBy (Went z old new) (without k (bindings (graph_of z old) chains)) (without k (bindings (graph_of z new) chains))
    take_data none p =
        let t = unset_data_step z limits old new r 8 c.ephe key datum ephe x.at p in
        let w = whole old new key datum x held t.0 in
        let at : node_at (graph_of z new) c.ephe ≡ Some (Ephe (None ∷ []) Nothing) = t.3 ∙ ap (λ o. Some (Ephe (o ∷ []) Nothing)) (w.0 ∙ none) in
        (t.1, t.2, cell_holding old new key datum x held _ t.1 None Nothing at (inl refl) tt, cell_without old new key datum x held _ t.1 None Nothing at (inl refl) tt)

  -- what the table then binds the key to
  module _ (h : List Entry) (key : Option Label) (datum : Value) (x : Holding z h root chains k i done c rest key datum) where
    pub holding_datum : datum_at (bindings (graph_of z h) chains) k ≡ datum_at (bound key datum) k
    holding_datum =
        datum_of_bucket (chain_bindings (graph_of z h)) k 0 chains i (subst (λ n. i < n) (sym x.table.count) x.below) (let same : i ≡ 0 + i = omega arith in x.placed ∙ same)
        (λ t below. let same : t ≡ 0 + t = omega arith in subst (λ n. IsTrue (is_bucket n (chain_bindings (graph_of z h) (get_or chains t [])))) same (x.table.bucket t (subst (λ n. t < n) x.table.count below)))
        ∙ (ap (λ (cells : List Cell). datum_at (chain_bindings (graph_of z h) cells) k) x.split
        ∙ (ap (λ (bs : List Binding). datum_at bs k) (flat_map-append (λ y. binding_of (node_at (graph_of z h) y.ephe)) done (c ∷ rest))
        ∙ (datum_second k (chain_bindings (graph_of z h) done) _ x.before
        ∙ (ap (λ o. datum_at (binding_of o ++ chain_bindings (graph_of z h) rest) k) x.at ∙ datum_first k (bound key datum) (chain_bindings (graph_of z h) rest) x.behind))))
