-- What a line leaves of the blocks beside the map: all, but that `wset` sets its slot.
use Rattle.std.proofs.Common.{◌≡◌, ◌⊎◌, inl, inr, ⊎_elim, ℕ, true, List, [], ◌∷◌, ◌++◌, set, slice_get, Option, Some, None, refl, ap, sym, ◌∙◌, subst}
use Rattle.model_core.specs.declared.label.Label.{Label}
use Rattle.model_core.specs.declared.command.Command.{Command}
use Rattle.model_core.specs.declared.command.Command.TheVariants.{SetKey}
use Rattle.model_core.specs.declared.entry.Entry.{Entry}
use Rattle.model_core.specs.declared.entry.Entry.TheVariants.{Command as CommandOf}
use Rattle.model_core.specs.declared.graph.Node.{Node}
use Rattle.model_core.specs.declared.graph.Node.TheVariants.{Ephe, Plain, Raw}
use Rattle.model_core.specs.declared.graph.Value.{Value}
use Rattle.model_core.specs.declared.graph.Value.TheVariants.{Block, Int, Nothing}
use Rattle.model_core.specs.declared.reply.Reply.{Reply}
use Rattle.model_core.specs.declared.state.Sizes.{Sizes}
use Rattle.model_core.specs.declared.state.State.{State}
use Rattle.model_core.specs.Commands.{block_in, key_stored}
use Rattle.model_core.specs.Domains.{label_in, register}
use Rattle.model_core.specs.Graph.{Graph, label_of, node_at, with_node}
use Rattle.model_core.specs.History.{IsPrefix, is_entry_of}
use Rattle.model_core.specs.Laws.{written, written_by}
use Rattle.model_core.proofs.Commands.FrameLemmas.{label_cases}
use Rattle.model_core.proofs.Commands.MoveLemmas.{HeldBlock, held_block}
use Rattle.model_core.proofs.Graphs.GraphLemmas.{node_at-with_node_other, node_at-with_node_same}
use Rattle.model_core.proofs.Graphs.GraphStepLemmas.{nodes_stay_law}
use Rattle.table_text.specs.declared.line.TableLine.{TableLine}
use Rattle.table_text.specs.declared.line.TableLine.TheVariants.{SetWeak}
use Rattle.weak_laws.specs.Maps.Calls.{PerformedBy}
use Rattle.weak_laws.specs.Maps.Tries.{fields_of}
use Rattle.weak_laws.specs.Maps.Within.{IsBlockOf, IsMadeBehind, OwnWithin}
use Rattle.weak_laws.specs.Tables.Stages.{graph_of}
use Rattle.weak_laws.specs.Tables.Thinning.{state_of}
use Rattle.weak_laws.proofs.OfMaps.FrontLemmas.{before_or_behind}
use Rattle.weak_laws.proofs.OfMaps.OwnLemmas.{at_the_end, grew_along}
use Rattle.weak_laws.proofs.OfMaps.RespectLemmas.{graph_push}
use Rattle.weak_maps.specs.Walks.{OwnQuiet}
use Rattle.table_sections.specs.Slots.{IsEight, LineSets, SetsKey, SparesBlocks, SparesSlots, slot_ephe, slot_key}
use Rattle.table_sections.proofs.RegisterLemmas.{graph_after}
use Rattle.table_sections.proofs.SlotLemmas.{eight_on}

-- a label, where none matters
abbrev pub no_root : Label
no_root = record { domain = 0; serial = 0 }

-- a block of a map is no ephemeron
no_block : (g : Graph) (root l : Label) → IsEight g l → IsBlockOf g root l → ⊥
no_block g root l x (p, there, (fields, is)) = let clash : Some fields ≡ None = sym is ∙ ap fields_of x.node in cc

module _ (z : Sizes) (root : Label) (d : ℕ) (line : TableLine) where
  pub spares_quiet : (old new : List Entry) → OwnQuiet z d old new → SparesBlocks z root d old line new
  spares_quiet old new quiet l n node front e since until own = inl (ap (λ (g : Graph). node_at g l) (quiet front e since until own))

  pub spares_twice : (old now new : List Entry) → IsPrefix old now → IsPrefix now new → SparesBlocks z root d old line now → SparesBlocks z root d now line new → SparesBlocks z root d old line new
  spares_twice old now new first grows before behind l n node front e since until own =
      let there = grew_along z old now first l n node in
      ⊎_elim (λ early. before l n node front e since early own) (λ late. behind l there.0 there.1 front e late until own) (before_or_behind now new front e grows until)

  -- a command that writes no block that there is
  pub spares_command : (old new : List Entry) (c : Command) (r : Reply) → PerformedBy z d old new c r → ((s : State) → written_by s d c ≡ None) → SparesBlocks z root d old line new
  spares_command old new c r p none l n node front e since until own =
      let end = at_the_end z root d old new c r p front e since until own in
      let there = grew_along z old front since l n node in
      let unwritten : written (state_of z front) e ≡ None = ap (written (state_of z front)) end.1 ∙ none (state_of z front) in
      inl (ap (λ (g : Graph). node_at g l) (graph_push z front e) ∙ (nodes_stay_law (state_of z front) e l there.0 (λ is. let clash : None ≡ Some l = sym unwritten ∙ is in cc) there.1 ∙ sym there.1))

  -- the entries of a put or of a take
  pub spares_within : (old new : List Entry) → OwnWithin z root d old old new → SparesBlocks z root d old line new
  spares_within old new within l n node front e since until own = by ((within front e since until own).writes l)
    where
      by : (node_at (graph_of z (front ++ e ∷ [])) l ≡ node_at (graph_of z front) l) ⊎ (IsBlockOf (graph_of z front) root l ⊎ IsMadeBehind z d old l)
          → (node_at (graph_of z (front ++ e ∷ [])) l ≡ node_at (graph_of z front) l) ⊎ (IsBlockOf (graph_of z front) root l ⊎ LineSets z d front e line l)
      by (inl same) = inl same
      by (inr (inl block)) = inr (inl block)
      by (inr (inr mine)) = let clash : None ≡ Some n = sym mine.1 ∙ node in cc

  -- where a line spares all blocks beside the map, it spares the slots
  pub slots_spared : (old new : List Entry) → SparesBlocks z root d old line new → SparesSlots z d old line new
  slots_spared old new spares l eight front e since until own = by (spares l (Ephe eight.keys eight.datum) eight.node front e since until own)
    where
      by : (node_at (graph_of z (front ++ e ∷ [])) l ≡ node_at (graph_of z front) l) ⊎ (IsBlockOf (graph_of z front) root l ⊎ LineSets z d front e line l)
          → (node_at (graph_of z (front ++ e ∷ [])) l ≡ node_at (graph_of z front) l) ⊎ LineSets z d front e line l
      by (inl same) = inl same
      by (inr (inl block)) = absurd (no_block (graph_of z front) root l (eight_on z old front l since eight) block)
      by (inr (inr sets)) = inr sets

-- what the setting of a key writes of a block: nothing, or the key, where it is this ephemeron that is written
abbrev WritesKey : State → ℕ → Option Label → Option (Label × Node) → Label → Graph → Type 0
WritesKey s index item block l h =
    (node_at h l ≡ node_at s.graph l)
    ⊎ ((k : Label) × (keys : List (Option Label)) × (datum : Value) × (item ≡ Some k) × (block ≡ Some (l, Ephe keys datum)) × (h ≡ with_node s.graph l (Ephe (set keys index (Some k)) datum)))

key_writes : (s : State) (index : ℕ) (item : Option Label) (block : Option (Label × Node)) (l : Label) → WritesKey s index item block l (key_stored s index item block).state.graph
key_writes s index None block l = inl refl
key_writes s index (Some k) None l = inl refl
key_writes s index (Some k) (Some (j, Plain tag fields)) l = inl refl
key_writes s index (Some k) (Some (j, Raw tag fields)) l = inl refl
key_writes s index (Some k) (Some (j, Ephe keys datum)) l = go (slice_get keys index) refl
  where
    go : (o : Option (Option Label)) → slice_get keys index ≡ o → WritesKey s index (Some k) (Some (j, Ephe keys datum)) l (key_stored s index (Some k) (Some (j, Ephe keys datum))).state.graph
    go None past = rw past (inl refl)
    go (Some key) there = rw there (label_cases (WritesKey s index (Some k) (Some (j, Ephe keys datum)) l (with_node s.graph j (Ephe (set keys index (Some k)) datum))) l j
        (λ same. inr (k, keys, datum, refl, ap (λ (x : Label). Some (x, Ephe keys datum)) (sym same), ap (λ (x : Label). with_node s.graph x (Ephe (set keys index (Some k)) datum)) (sym same)))
        (λ other. inl (node_at-with_node_other s.graph j l (Ephe (set keys index (Some k)) datum) other)))

-- a value that is a label
label_is : (v : Value) (k : Label) → label_of v ≡ Some k → v ≡ Block k
label_is (Block l) k is = let same : l ≡ k = cc in ap Block same
label_is (Int i) k is = cc
label_is Nothing k is = cc

-- a key that is set
module _ (z : Sizes) (d : ℕ) (old new : List Entry) (ephe index item : ℕ) (answer : Reply) (p : PerformedBy z d old new (SetKey ephe index item) answer) where
  abbrev c : Command
  c = SetKey ephe index item

  abbrev mid : List Entry
  mid = old ++ p.between

  abbrev here : State
  here = state_of z mid

  abbrev last : Entry
  last = CommandOf d c p.full

  left : graph_of z (mid ++ last ∷ []) ≡ (key_stored here index (label_in here d item) (block_in here d ephe)).state.graph
  left = ap (graph_of z) (sym p.appends) ∙ graph_after z d old new c answer p refl

  abbrev Spared : List Entry → Entry → Label → Type 0
  Spared front e l = (node_at (graph_of z (front ++ e ∷ [])) l ≡ node_at (graph_of z front) l) ⊎ SetsKey z d front e ephe index item l

  set_at : (l : Label) → Spared mid last l
  set_at l = by (key_writes here index (label_in here d item) (block_in here d ephe) l)
    where
      by : WritesKey here index (label_in here d item) (block_in here d ephe) l (key_stored here index (label_in here d item) (block_in here d ephe)).state.graph → Spared mid last l
      by (inl same) = inl (ap (λ (g : Graph). node_at g l) left ∙ same)
      by (inr (k, keys, datum, given, block, written)) =
          let is : HeldBlock here d ephe l (Ephe keys datum) = held_block here d ephe l (Ephe keys datum) block in
          inr (record {
            held = label_is (register here d ephe) l is.label;
            key = k;
            given = label_is (register here d item) k given;
            keys = keys;
            datum = datum;
            was = is.node;
            sets = ap (λ (g : Graph). node_at g l) (left ∙ written) ∙ node_at-with_node_same (graph_of z mid) l (Ephe (set keys index (Some k)) datum) (Ephe keys datum) is.node;
          })

  pub sets_key : (l : Label) (front : List Entry) (e : Entry) → IsPrefix old front → IsPrefix (front ++ e ∷ []) new → is_entry_of d e ≡ true → Spared front e l
  sets_key l front e since until own = let end = at_the_end z no_root d old new c answer p front e since until own in subst (λ (w : List Entry × Entry). Spared w.0 w.1 l) (λ i. (sym end.0 i, sym end.1 i)) (set_at l)

-- so a slot that is set
pub spares_set : (z : Sizes) (root : Label) (d : ℕ) (old new : List Entry) (s r : ℕ) (answer : Reply) → PerformedBy z d old new (SetKey (slot_ephe s) (slot_key s) r) answer → SparesBlocks z root d old (SetWeak s r) new
spares_set z root d old new s r answer p l n node front e since until own = ⊎_elim (λ same. inl same) (λ sets. inr (inr sets)) (sets_key z d old new (slot_ephe s) (slot_key s) r answer p l front e since until own)
