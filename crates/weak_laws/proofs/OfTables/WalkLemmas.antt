-- A walk through a bucket, command by command.
use Rattle.std.proofs.Common.{◌≡◌, ℕ, ◌≤◌, List, [], ◌∷◌, ◌++◌, length, get_or, set, inl, inr, Option, Some, None, refl, ap, sym, ◌∙◌, subst, arith, append_assoc}
use Rattle.model_core.specs.declared.label.Label.{Label}
use Rattle.model_core.specs.declared.command.Command.{Command}
use Rattle.model_core.specs.declared.command.Command.TheVariants.{Load, CheckKey}
use Rattle.model_core.specs.declared.entry.Entry.{Entry}
use Rattle.model_core.specs.declared.reply.Reply.{Reply}
use Rattle.model_core.specs.declared.reply.Reply.TheVariants.{Block as BlockReply}
use Rattle.model_core.specs.declared.graph.Value.{Value}
use Rattle.model_core.specs.declared.graph.Value.TheVariants.{Block, Nothing}
use Rattle.model_core.specs.declared.graph.Node.TheVariants.{Plain, Ephe}
use Rattle.model_core.specs.declared.state.Sizes.{Sizes}
use Rattle.model_core.specs.declared.state.State.{State}
use Rattle.model_core.specs.Graph.{node_at}
use Rattle.model_core.specs.Domains.{IsWithinLimits}
use Rattle.model_core.specs.Commands.{shown}
use Rattle.model_core.specs.Laws.{written_by}
use Rattle.weak_laws.specs.Tables.Structures.{Binding, Cell, head_of, IsCell, Links, IsTable}
use Rattle.weak_laws.specs.Tables.Thinning.{ThinnedBy, Went}
use Rattle.weak_laws.specs.Tables.Performing.{Performed, After, registers_of}
use Rattle.weak_laws.specs.Tables.Stages.{Walking, Declines, graph_of, held_in}
use Rattle.weak_laws.proofs.OfTables.ChangeLemmas.{table_kept, weak_parts}
use Rattle.weak_laws.proofs.OfTables.CellLemmas.{links_head, links_behind}
use Rattle.weak_laws.proofs.OfTables.CountLemmas.{declines_reading}
use Rattle.weak_laws.proofs.OfTables.OutcomeLemmas.{full_reply}
use Rattle.weak_laws.proofs.OfTables.StepLemmas.{thins, load_step, check_key_step}
use Rattle.weak_laws.proofs.OfTables.StageLemmas.{table_reading, register_is}

-- fewer are left
pub thinned_length : (P : Label → Type 0) (a b : List Binding) → ThinnedBy P a b → length b ≤ length a
thinned_length P [] b t = let none : length b ≡ 0 = ap length t in omega arith
thinned_length P (x ∷ a) b (inl (rest, is, t)) = let more = thinned_length P a rest t in let same : length b ≡ length (x ∷ rest) = ap length is in omega arith
thinned_length P (x ∷ a) b (inr (gone, t)) = let more = thinned_length P a b t in omega arith

-- the number of bindings at a command that writes no block
pub reading_declines : (z : Sizes) (limits : IsWithinLimits z) (old new : List Entry) (c : Command) (r : Reply) → Performed z old new c r → ((s : State) → written_by s 0 c ≡ None) → (root : Label) (chains : List (List Cell)) → IsTable (graph_of z old) root chains
    → Declines z old new chains
reading_declines z limits old new c r p reads root chains table =
    declines_reading z old new c r p reads root chains table (table_kept (Went z old new) [] (graph_of z old) (graph_of z (old ++ p.between)) (thins z limits old new c r p) root chains (λ l h. refl) table)

module _ (z : Sizes) (limits : IsWithinLimits z) (root : Label) (chains : List (List Cell)) (i : ℕ) where
  pub walk_kept : (now new : List Entry) (rs : List Value) (done rest : List Cell) → Walking z now root chains i done rest → After z now new [] rs → get_or rs 9 Nothing ≡ head_of rest → Walking z new root chains i done rest
  walk_kept now new rs done rest s a here = record { table = table_reading z now new rs a root chains s.table; below = s.below; split = s.split; here = register_is z now new rs a 9 (head_of rest) here }

  module _ (old new : List Entry) (r : Reply) (done : List Cell) (c : Cell) (rest : List Cell) (s : Walking z old root chains i done (c ∷ rest)) where
    pub walk_cell : (v : Value) × IsCell (graph_of z old) c v × Links (graph_of z old) v rest
    walk_cell = (links_behind (graph_of z old) _ done (c ∷ rest) (subst (Links (graph_of z old) (get_or s.table.fields i Nothing)) s.split (s.table.linked i s.below))).1

    pub walk_ephe : Performed z old new (Load 8 9 0) r → After z old new [] (set (registers_of z old) 8 (Block c.ephe)) × (r ≡ BlockReply c.ephe)
    walk_ephe p = load_step z limits old new r 8 9 0 c.node walk_cell.1.tag _ (Block c.ephe) s.here walk_cell.1.node refl p

    pub walk_next : Performed z old new (Load 9 9 1) r → After z old new [] (set (registers_of z old) 9 (head_of rest)) × (r ≡ shown (head_of rest))
    walk_next p =
        let head : walk_cell.0 ≡ head_of rest = links_head (graph_of z old) _ rest walk_cell.2 in
        load_step z limits old new r 9 9 1 c.node walk_cell.1.tag _ (head_of rest) s.here (walk_cell.1.node ∙ ap (λ v. Some (Plain walk_cell.1.tag (Block c.ephe ∷ v ∷ []))) head) refl p

    pub walk_check : held_in z old 8 ≡ Block c.ephe → Performed z old new (CheckKey 8 0) r
        → (key : Option Label) × (datum : Value) × After z old new [] (registers_of z old) × (r ≡ full_reply key) × (node_at (graph_of z new) c.ephe ≡ Some (Ephe (key ∷ []) datum))
    walk_check ephe p =
        let e = weak_parts _ walk_cell.1.weak in
        let t = check_key_step z limits old new r 8 c.ephe e.0 e.1 ephe e.2 p in
        (t.0.key_now, t.0.datum_now, t.1, t.2, t.3)

    pub walk_passes : (rs : List Value) → After z old new [] rs → get_or rs 9 Nothing ≡ head_of rest → Walking z new root chains i (done ++ c ∷ []) rest
    walk_passes rs a here = record {
      table = table_reading z old new rs a root chains s.table;
      below = s.below;
      split = s.split ∙ sym (append_assoc done (c ∷ []) rest);
      here = register_is z old new rs a 9 (head_of rest) here;
    }
