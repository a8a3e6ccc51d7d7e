-- The commands of a call, one after the other: where it stands after each.
use Rattle.std.proofs.Common.{◌≡◌, ◌⊎◌, ℕ, ◌+◌, ◌<◌, ◌%◌, true, false, IsTrue, List, [], ◌∷◌, ◌++◌, get_or, set, slice_get, Some, None, refl, ap, sym, ◌∙◌, subst, arith, append_assoc, append-nil}
use Rattle.std.proofs.lemmas.Grind.{flat_map-append}
use Rattle.std.proofs.lemmas.Option.{slice_get-get_or}
use Rattle.model_core.specs.declared.label.Label.{Label}
use Rattle.model_core.specs.declared.command.Command.TheVariants.{Load}
use Rattle.model_core.specs.declared.entry.Entry.{Entry}
use Rattle.model_core.specs.declared.reply.Reply.{Reply}
use Rattle.model_core.specs.declared.reply.Reply.TheVariants.{Block as BlockReply}
use Rattle.model_core.specs.declared.graph.Value.{Value}
use Rattle.model_core.specs.declared.graph.Value.TheVariants.{Block, Nothing}
use Rattle.model_core.specs.declared.graph.Node.TheVariants.{Plain, Ephe}
use Rattle.model_core.specs.declared.state.Sizes.{Sizes}
use Rattle.model_core.specs.Graph.{Graph, has_label, node_at}
use Rattle.model_core.specs.Domains.{IsWithinLimits}
use Rattle.model_core.specs.Commands.{shown}
use Rattle.model_core.specs.History.{IsPrefix, Legal}
use Rattle.model_core.proofs.Graphs.GraphLemmas.{same_label_refl}
use Rattle.weak_laws.specs.Tables.Structures.{Binding, Cell, bucket_count, binding_of, chain_bindings, bindings, datum_at, head_of, IsCell, Links, is_bucket, IsTable}
use Rattle.weak_laws.specs.Tables.Thinning.{ThinnedBy, WasOutside, Went}
use Rattle.weak_laws.specs.Tables.Performing.{Performed, After, registers_of}
use Rattle.weak_laws.specs.Tables.Stages.{Goes, Searching, graph_of, held_in}
use Rattle.weak_laws.proofs.OfTables.BindingLemmas.{thinned_append, thinned_datum, thinned_more, thinned_twice}
use Rattle.weak_laws.proofs.OfTables.LookupLemmas.{datum_first, datum_second, datum_of_bucket}
use Rattle.weak_laws.proofs.OfTables.ChangeLemmas.{changes_same, changes_on, changes_more, weak_kept, table_kept, bindings_thinned}
use Rattle.weak_laws.proofs.OfTables.CellLemmas.{links_head, links_behind}
use Rattle.weak_laws.proofs.OfTables.StepLemmas.{load_step}

pub prefix_trans : (a b c : List Entry) → IsPrefix a b → IsPrefix b c → IsPrefix a c
prefix_trans a b c x y = record { rest = x.rest ++ y.rest; appends = y.appends ∙ (ap (λ (h : List Entry). h ++ y.rest) x.appends ∙ append_assoc a x.rest y.rest) }

pub goes_from : (z : Sizes) (first : List Entry) (own : List Label) → Legal z first → Goes z first first own
goes_from z first own legal = record { legal = legal; grows = record { rest = []; appends = sym (append-nil first) }; changes = changes_same (WasOutside z first first) own (graph_of z first) }

pub later_outside : (z : Sizes) (first now new : List Entry) (k : Label) → IsPrefix now new → WasOutside z first now k → WasOutside z first new k
later_outside z first now new k grows w = record { front = w.front; since = w.since; until = prefix_trans w.front now new w.until grows; outside = w.outside; entry = w.entry; through = prefix_trans (w.front ++ w.entry ∷ []) now new w.through grows; taken = w.taken }

pub since_outside : (z : Sizes) (first now new : List Entry) (k : Label) → IsPrefix first now → WasOutside z now new k → WasOutside z first new k
since_outside z first now new k grows w = record { front = w.front; since = prefix_trans first now w.front grows w.since; until = w.until; outside = w.outside; entry = w.entry; through = w.through; taken = w.taken }

earlier_outside : (z : Sizes) (first now new : List Entry) (k : Label) → IsPrefix first now → Went z now new k → WasOutside z first new k
earlier_outside z first now new k grows w = since_outside z first now new k grows w.was

pub goes_on : (z : Sizes) (first now new : List Entry) (own more : List Label) (rs : List Value) → Goes z first now own → After z now new more rs
    → ((l : Label) → IsTrue (has_label more l) → IsTrue (has_label own l) ⊎ (node_at (graph_of z first) l ≡ None)) → Goes z first new own
goes_on z first now new own more rs g a fresh = record {
  legal = a.legal;
  grows = prefix_trans first now new g.grows a.grows;
  changes = changes_on (WasOutside z first new) own more (graph_of z first) (graph_of z now) (graph_of z new)
      (changes_more (WasOutside z first now) (WasOutside z first new) own own _ _ (λ k w. later_outside z first now new k a.grows w) (λ l h. h) g.changes)
      (changes_more (Went z now new) (WasOutside z first new) more more _ _ (λ k w. earlier_outside z first now new k g.grows w) (λ l h. h) a.changes)
      fresh;
}

-- after a command that changes no block of its own
pub goes_reading : (z : Sizes) (first now new : List Entry) (own : List Label) (rs : List Value) → Goes z first now own → After z now new [] rs → Goes z first new own
goes_reading z first now new own rs g a = goes_on z first now new own [] rs g a (λ l h. absurd (let clash : false ≡ true = h in cc))

-- bindings thinned in a call and then at one command
pub thinned_on : (z : Sizes) (first now new : List Entry) (a b c : List Binding) → IsPrefix first now → IsPrefix now new → ThinnedBy (WasOutside z first now) a b → ThinnedBy (Went z now new) b c → ThinnedBy (WasOutside z first new) a c
thinned_on z first now new a b c before after t u = thinned_twice (WasOutside z first new) a b c
    (thinned_more (WasOutside z first now) (WasOutside z first new) (λ k w. later_outside z first now new k after w) a b t)
    (thinned_more (Went z now new) (WasOutside z first new) (λ k w. earlier_outside z first now new k before w) b c u)

-- a key that a register holds isn't taken
pub held_stays : (z : Sizes) (now new : List Entry) (r : ℕ) (k : Label) → held_in z now r ≡ Block k → Went z now new k → ⊥
held_stays z now new r k held w = w.unheld 0 r held

-- the tables and their bindings, at a command that changes none of their blocks
module _ (z : Sizes) (now new : List Entry) (rs : List Value) (a : After z now new [] rs) where
  pub table_reading : (root : Label) (chains : List (List Cell)) → IsTable (graph_of z now) root chains → IsTable (graph_of z new) root chains
  table_reading root chains table = table_kept (Went z now new) [] (graph_of z now) (graph_of z new) a.changes root chains (λ l h. refl) table

  pub bindings_reading : (root : Label) (chains : List (List Cell)) → IsTable (graph_of z now) root chains → ThinnedBy (Went z now new) (bindings (graph_of z now) chains) (bindings (graph_of z new) chains)
  bindings_reading root chains table = bindings_thinned (Went z now new) [] (graph_of z now) (graph_of z new) a.changes root chains (λ l h. refl) table

  pub register_is : (r : ℕ) (v : Value) → get_or rs r Nothing ≡ v → held_in z new r ≡ v
  register_is r v is = ap (λ (xs : List Value). get_or xs r Nothing) a.registers_are ∙ is

  -- the front cells of a chain, at a key that a register holds
  pub missing_reading : (v : Value) (done rest : List Cell) (r : ℕ) (k : Label) → Links (graph_of z now) v (done ++ rest) → held_in z now r ≡ Block k
      → datum_at (chain_bindings (graph_of z now) done) k ≡ None → datum_at (chain_bindings (graph_of z new) done) k ≡ None
  missing_reading v done rest r k links held none =
      thinned_datum (Went z now new) k (held_stays z now new r k held) _ _ (front_thinned v done rest links) ∙ none
    where
      front_thinned : (v : Value) (a b : List Cell) → Links (graph_of z now) v (a ++ b) → ThinnedBy (Went z now new) (chain_bindings (graph_of z now) a) (chain_bindings (graph_of z new) a)
      front_thinned v [] b links = refl
      front_thinned v (x ∷ cells) b (here, (next, cell, later)) =
          thinned_append (Went z now new) _ _ _ _ (weak_kept (Went z now new) [] (graph_of z now) (graph_of z new) a.changes x.ephe refl cell.weak).1 (front_thinned next cells b later)

-- a search goes on
module _ (z : Sizes) (limits : IsWithinLimits z) (root : Label) (chains : List (List Cell)) (k : Label) (kr i : ℕ) where
  links_there : (h : List Entry) (done rest : List Cell) → (table : IsTable (graph_of z h) root chains) → i < bucket_count → get_or chains i [] ≡ done ++ rest → Links (graph_of z h) (get_or table.fields i Nothing) (done ++ rest)
  links_there h done rest table below split = subst (Links (graph_of z h) (get_or table.fields i Nothing)) split (table.linked i below)

  pub search_kept : (now new : List Entry) (rs : List Value) (done rest : List Cell) → Searching z now root chains k i done rest → held_in z now kr ≡ Block k → After z now new [] rs → get_or rs 9 Nothing ≡ head_of rest
      → Searching z new root chains k i done rest
  search_kept now new rs done rest s held a here = record {
    table = table_reading z now new rs a root chains s.table;
    below = s.below;
    split = s.split;
    here = register_is z now new rs a 9 (head_of rest) here;
    missing = missing_reading z now new rs a _ done rest kr k (links_there now done rest s.table s.below s.split) held s.missing;
  }

  -- the field of the bucket is loaded into register 9
  pub search_begins : (old new : List Entry) (r : Reply) (tr : ℕ) → i < bucket_count → IsTable (graph_of z old) root chains → held_in z old tr ≡ Block root → Performed z old new (Load 9 tr i) r
      → After z old new [] (set (registers_of z old) 9 (head_of (get_or chains i []))) × (r ≡ shown (head_of (get_or chains i [])))
  search_begins old new r tr below table holds p =
      let head : get_or table.fields i Nothing ≡ head_of (get_or chains i []) = links_head (graph_of z old) _ _ (table.linked i below) in
      let field : slice_get table.fields i ≡ Some (head_of (get_or chains i [])) = slice_get-get_or table.fields i Nothing (subst (λ n. i < n) (sym table.size) below) ∙ ap Some head in
      load_step z limits old new r 9 tr i root table.tag table.fields _ holds table.node field p

  pub search_begun : (old new : List Entry) (rs : List Value) → i < bucket_count → IsTable (graph_of z old) root chains → After z old new [] rs → get_or rs 9 Nothing ≡ head_of (get_or chains i []) → Searching z new root chains k i [] (get_or chains i [])
  search_begun old new rs below table a here =
      record { table = table_reading z old new rs a root chains table; below = below; split = refl; here = register_is z old new rs a 9 _ here; missing = refl }

  module _ (old new : List Entry) (r : Reply) (done : List Cell) (c : Cell) (rest : List Cell) (s : Searching z old root chains k i done (c ∷ rest)) where
    pub cell_here : (v : Value) × IsCell (graph_of z old) c v × Links (graph_of z old) v rest
    cell_here = (links_behind (graph_of z old) _ done (c ∷ rest) (links_there old done (c ∷ rest) s.table s.below s.split)).1

    next_head : cell_here.0 ≡ head_of rest
    next_head = links_head (graph_of z old) _ rest cell_here.2

    -- its ephemeron goes into a register
    pub search_ephe : (dst : ℕ) → Performed z old new (Load dst 9 0) r → After z old new [] (set (registers_of z old) dst (Block c.ephe)) × (r ≡ BlockReply c.ephe)
    search_ephe dst p = load_step z limits old new r dst 9 0 c.node cell_here.1.tag _ (Block c.ephe) s.here cell_here.1.node refl p

    -- and what leads to the next cell into register 9
    pub search_next : Performed z old new (Load 9 9 1) r → After z old new [] (set (registers_of z old) 9 (head_of rest)) × (r ≡ shown (head_of rest))
    search_next p = load_step z limits old new r 9 9 1 c.node cell_here.1.tag _ (head_of rest) s.here (cell_here.1.node ∙ ap (λ v. Some (Plain cell_here.1.tag (Block c.ephe ∷ v ∷ []))) next_head) refl p

    -- the cell is passed where it doesn't bind the key
    pub search_passes : (rs : List Value) → held_in z old kr ≡ Block k → datum_at (binding_of (node_at (graph_of z old) c.ephe)) k ≡ None → After z old new [] rs → get_or rs 9 Nothing ≡ head_of rest
        → Searching z new root chains k i (done ++ c ∷ []) rest
    search_passes rs held none a here =
        let split : get_or chains i [] ≡ (done ++ c ∷ []) ++ rest = s.split ∙ sym (append_assoc done (c ∷ []) rest) in
        let missing : datum_at (chain_bindings (graph_of z old) (done ++ c ∷ [])) k ≡ None =
        ap (λ (bs : List Binding). datum_at bs k) (flat_map-append (λ x. binding_of (node_at (graph_of z old) x.ephe)) done (c ∷ []))
        ∙ datum_second k (chain_bindings (graph_of z old) done) _ s.missing ∙ datum_first k (binding_of (node_at (graph_of z old) c.ephe)) [] refl ∙ none in
        record {
          table = table_reading z old new rs a root chains s.table;
          below = s.below;
          split = split;
          here = register_is z old new rs a 9 (head_of rest) here;
          missing = missing_reading z old new rs a _ (done ++ c ∷ []) rest kr k (links_there old (done ++ c ∷ []) rest s.table s.below split) held missing;
        }

    -- the key is bound here
    pub search_found : (v : Value) → k.serial % bucket_count ≡ i → node_at (graph_of z old) c.ephe ≡ Some (Ephe (Some k ∷ []) v) → datum_at (bindings (graph_of z old) chains) k ≡ Some v
    search_found v placed at = table_datum (graph_of z old) s.table ∙ (ap (λ (cells : List Cell). datum_at (chain_bindings (graph_of z old) cells) k) s.split
        ∙ (ap (λ (bs : List Binding). datum_at bs k) (flat_map-append (λ x. binding_of (node_at (graph_of z old) x.ephe)) done (c ∷ rest))
        ∙ (datum_second k (chain_bindings (graph_of z old) done) _ s.missing ∙ ap (λ o. datum_at (binding_of o ++ chain_bindings (graph_of z old) rest) k) at ∙ itself)))
      where
        itself : datum_at ((k, v) ∷ chain_bindings (graph_of z old) rest) k ≡ Some v
        itself = rw (same_label_refl k) refl

        table_datum : (g : Graph) → IsTable g root chains → datum_at (bindings g chains) k ≡ datum_at (chain_bindings g (get_or chains i [])) k
        table_datum g table = datum_of_bucket (chain_bindings g) k 0 chains i (subst (λ n. i < n) (sym table.count) s.below) (let same : i ≡ 0 + i = omega arith in placed ∙ same)
            (λ t below. let same : t ≡ 0 + t = omega arith in subst (λ n. IsTrue (is_bucket n (chain_bindings g (get_or chains t [])))) same (table.bucket t (subst (λ n. t < n) table.count below)))

  -- and nowhere, once all cells were passed
  pub search_ended : (h : List Entry) (done : List Cell) → k.serial % bucket_count ≡ i → Searching z h root chains k i done [] → datum_at (bindings (graph_of z h) chains) k ≡ None
  search_ended h done placed s =
      datum_of_bucket (chain_bindings (graph_of z h)) k 0 chains i (subst (λ n. i < n) (sym s.table.count) s.below) (let same : i ≡ 0 + i = omega arith in placed ∙ same)
      (λ t below. let same : t ≡ 0 + t = omega arith in subst (λ n. IsTrue (is_bucket n (chain_bindings (graph_of z h) (get_or chains t [])))) same (s.table.bucket t (subst (λ n. t < n) s.table.count below)))
      ∙ ap (λ (cells : List Cell). datum_at (chain_bindings (graph_of z h) cells) k) (s.split ∙ append-nil done) ∙ s.missing
