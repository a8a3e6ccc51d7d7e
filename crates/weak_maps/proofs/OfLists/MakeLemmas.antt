-- A map that is made: it is new, and lists nothing.
use Rattle.std.proofs.Common.{◌≡◌, inl, inr, ⊎_elim, ℕ, zero, suc, ◌<◌, ◌≤◌, true, false, List, [], ◌∷◌, ◌++◌, flat_map, replicate, pos, Option, Some, None, refl, ap, sym, ◌∙◌, subst, arith}
use Rattle.model_core.specs.declared.label.Label.{Label}
use Rattle.model_core.specs.declared.command.Command.TheVariants.{Alloc}
use Rattle.model_core.specs.declared.entry.Entry.{Entry}
use Rattle.model_core.specs.declared.graph.Value.{Value}
use Rattle.model_core.specs.declared.graph.Value.TheVariants.{Int, Block}
use Rattle.model_core.specs.declared.reply.Reply.{Reply}
use Rattle.model_core.specs.declared.state.Sizes.{Sizes}
use Rattle.model_core.specs.Graph.{Graph, node_at}
use Rattle.model_core.specs.Commands.{new_plain}
use Rattle.model_core.specs.Domains.{IsWithinLimits}
use Rattle.model_core.proofs.Graphs.GraphLemmas.{node_at-append_new}
use Rattle.weak_laws.specs.Tables.Structures.{Binding, datum_at}
use Rattle.weak_laws.specs.Tables.Thinning.{Changes, WasOutside}
use Rattle.weak_laws.specs.Tables.Stages.{Goes, graph_of, held_in}
use Rattle.weak_laws.proofs.OfTables.ChangeLemmas.{changes_append, changes_more}
use Rattle.weak_laws.specs.Maps.Tries.{fields_of, inside, root_width}
use Rattle.weak_laws.specs.Maps.Calls.{PerformedBy}
use Rattle.weak_laws.proofs.OfMaps.CallLemmas.{alloc_step, grows, legal_middle}
use Rattle.weak_laws.proofs.OfMaps.FrontLemmas.{other_between, prefix_more, prefix_same}
use Rattle.weak_laws.proofs.OfMaps.WithinLemmas.{none_before}
use Rattle.weak_maps.specs.Returns.{MakesMap, MakesNone}
use Rattle.weak_maps.proofs.MakeLemmas.{made_map}
use Rattle.weak_laws.specs.Lists.Lists.{block_label, gathered, map_labels}
use Rattle.weak_laws.proofs.OfLists.FoundLemmas.{listed_is_found}
use Rattle.weak_laws.proofs.OfLists.ListLemmas.{gathered_end, gathered_plain}
use Rattle.weak_laws.proofs.OfLists.OrderLemmas.{first_datum}
use Rattle.weak_maps.specs.Lists.Stretches.{bound_in, IsSettled}
use Rattle.weak_maps.specs.Lists.Answers.{ListMakeAnswers, ListMakes, ListMakesNone}
use Rattle.weak_maps.proofs.OfLists.AloneLemmas.{calm_behind, was_wider}
use Rattle.weak_maps.proofs.OfLists.StretchLemmas.{quiet_goes}

-- a list that binds nothing is empty
binds_none : (bs : List Binding) → ((k : Label) → datum_at bs k ≡ None) → bs ≡ []
binds_none [] none = refl
binds_none (b ∷ bs) none = let clash : ◌≡◌ {A = Option Value} None (Some b.1) = sym (none b.0) ∙ first_datum b bs in cc

zeros_none : (f : Value → List Label) (m : ℕ) → f (Int (pos 0)) ≡ [] → flat_map f (replicate m (Int (pos 0))) ≡ []
zeros_none f zero none = refl
zeros_none f (suc m) none = λ t. none t ++ zeros_none f m none t

-- a root whose fields are 0 is the map's only block
only_root : (g : Graph) (root : Label) → node_at g root ≡ Some (new_plain 0 root_width) → map_labels g root ≡ root ∷ []
unfolding map_labels
only_root g root node =
    gathered_plain (inside g) block_label 6 (Block root) (replicate root_width (Int (pos 0))) (ap fields_of node)
    ∙ ap (λ (ls : List Label). root ∷ ls) (zeros_none (gathered (inside g) block_label 6) root_width (gathered_end (inside g) block_label 6 (Int (pos 0)) refl))

module _ (z : Sizes) (limits : IsWithinLimits z) (one : z.domains ≡ 1) (old new : List Entry) (r : Reply) (dst : ℕ) (few : dst < 8) (p : PerformedBy z 0 old new (Alloc dst 0 512) r) where
  before : List Entry
  before = old ++ p.between

  quiet_before : Changes (WasOutside z old new) [] (graph_of z old) (graph_of z (old ++ p.between))
  quiet_before = changes_more (WasOutside z old (old ++ p.between)) (WasOutside z old new) [] [] (graph_of z old) (graph_of z (old ++ p.between))
      (was_wider z old old (old ++ p.between) new (prefix_same old) (record { rest = _; appends = p.appends })) (λ l h. h)
      (quiet_goes z one old (old ++ p.between) (prefix_more old p.between) (legal_middle z 0 old new (Alloc dst 0 512) r p)
      (λ f e a b own. let clash : true ≡ false = sym own ∙ other_between 0 old p.between f e p.others a b in cc)).changes

  makes_goes : Goes z old new []
  makes_goes = record { legal = p.legal; grows = grows z 0 old new (Alloc dst 0 512) r p; changes = changes }
    where
      changes : Changes (WasOutside z old new) [] (graph_of z old) (graph_of z new)
      changes = ⊎_elim
          (λ full. subst (Changes (WasOutside z old new) [] (graph_of z old)) (sym full.1.0) quiet_before)
          (λ made. subst (Changes (WasOutside z old new) [] (graph_of z old)) (sym made.2.0) (changes_append (WasOutside z old new) [] (graph_of z old) (graph_of z (old ++ p.between)) _ quiet_before))
          (alloc_step z 0 old new r dst 0 512 p)

  settled : ((i : ℕ) → 8 ≤ i → held_in z new i ≡ held_in z old i) → IsSettled z old new
  settled same = record { high = λ i high none. same i high ∙ none; calm = calm_behind z one limits old new (Alloc dst 0 512) r refl p }

  new_list : (root : Label) → MakesMap z 0 old new dst root → ListMakes z old new dst root
  new_list root x = record {
    goes = makes_goes;
    listed = record { map = x.map; placed = x.placed };
    keeps = x.keeps;
    settled = settled (λ i high. x.keeps i (λ e. omega (arith, e, high, few)));
    holds = x.holds;
    fresh = none_before z old x.front root x.since x.fresh;
    empty = binds_none (bound_in z new root) (λ k. listed_is_found z.domains (graph_of z new) root x.placed k ∙ x.empty k);
    alone = only_root (graph_of z new) root (ap (λ (g : Graph). node_at g root) x.made ∙ node_at-append_new (graph_of z x.front) root (new_plain 0 root_width) x.fresh);
  }

  no_list : MakesNone z 0 old new → ListMakesNone z old new
  no_list x = record { goes = makes_goes; keeps = x.keeps; settled = settled (λ i high. x.keeps i) }

  makes_list : ListMakeAnswers z old new dst r
  makes_list = ⊎_elim (λ made. inl (made.0, made.1, new_list made.0 made.2)) (λ full. inr (full.0, no_list full.1)) (made_map z limits 0 old new r dst few p)

pub make_told : (z : Sizes) (limits : IsWithinLimits z) (one : z.domains ≡ 1) (d : ℕ) → d ≡ 0 → (old new : List Entry) (r : Reply) (dst : ℕ) → dst < 8 → PerformedBy z d old new (Alloc dst 0 512) r → ListMakeAnswers z old new dst r
make_told z limits one d first old new r dst few p = makes_list z limits one old new r dst few (subst (λ (x : ℕ). PerformedBy z x old new (Alloc dst 0 512) r) first p)
