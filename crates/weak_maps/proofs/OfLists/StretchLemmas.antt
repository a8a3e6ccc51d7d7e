-- What a stretch of a history leaves of a map, of its blocks and of its bindings.
use Rattle.std.proofs.Common.{◌≡◌, ◌⊎◌, inl, inr, ⊎_elim, Bool, true, false, List, [], ◌∷◌, ◌++◌, Option, Some, None, refl, ap, sym, ◌∙◌, subst}
use Rattle.model_core.specs.declared.label.Label.{Label}
use Rattle.model_core.specs.declared.entry.Entry.{Entry}
use Rattle.model_core.specs.declared.graph.Value.{Value}
use Rattle.model_core.specs.declared.graph.Node.{Node}
use Rattle.model_core.specs.declared.graph.Node.TheVariants.{Ephe}
use Rattle.model_core.specs.declared.state.Sizes.{Sizes}
use Rattle.model_core.specs.Graph.{has_label, node_at}
use Rattle.model_core.specs.History.{IsPrefix, Legal, is_entry_of}
use Rattle.weak_laws.specs.Tables.Thinning.{Changes, Thin, WasOutside}
use Rattle.weak_laws.specs.Tables.Stages.{Goes, graph_of}
use Rattle.weak_laws.proofs.OfTables.ChangeLemmas.{changes_more, changes_same, changes_twice, thin_is, thin_more, thin_twice}
use Rattle.weak_laws.specs.Maps.Tries.{fields_of, is_leaf, IsMap, IsInPlace}
use Rattle.weak_laws.specs.Maps.Steps.{IsThinned}
use Rattle.weak_laws.specs.Maps.Calls.{bound_after}
use Rattle.weak_laws.specs.Maps.Within.{IsBlockOf, IsMadeBehind, OwnWithin, StandsIn, StepsWithin}
use Rattle.weak_laws.proofs.OfMaps.FrontLemmas.{prefix_before, prefix_more, prefix_same, prefix_trans, walk_along}
use Rattle.weak_laws.proofs.OfMaps.MapLemmas.{at_same, thinned_binds, thinned_map}
use Rattle.weak_laws.proofs.OfMaps.OwnLemmas.{leaf_stays}
use Rattle.weak_laws.proofs.OfMaps.TakeLemmas.{Left}
use Rattle.weak_maps.specs.Walks.{OwnQuiet}
use Rattle.weak_maps.proofs.PlaceLemmas.{thin_place}
use Rattle.weak_laws.proofs.OfLists.LabelLemmas.{label_stands, stands_label}
use Rattle.weak_laws.proofs.OfLists.StepLemmas.{leaves_thinned}
use Rattle.weak_maps.specs.Lists.Stretches.{labels_in, IsListed, ReadsList, WritesMap}
use Rattle.weak_maps.proofs.OfLists.AloneLemmas.{legal_before, other_thins, was_wider}

-- a binding is left as it was, or was taken: over two stretches
pub left_twice : (P : Label → Type 0) (k : Label) (a b c : Option Value) → Left P k a b → Left P k b c → Left P k a c
left_twice P k a b c (inl x) (inl y) = inl (y ∙ x)
left_twice P k a b c (inr x) (inl y) = inr (x.0, y ∙ x.1)
left_twice P k a b c x (inr y) = inr (y.0, y.1)

pub left_more : (P Q : Label → Type 0) (k : Label) (a b : Option Value) → (P k → Q k) → Left P k a b → Left Q k a b
left_more P Q k a b more (inl x) = inl x
left_more P Q k a b more (inr x) = inr (more x.0, x.1)

-- where nothing was written the map is thinned
module _ (z : Sizes) (old new : List Entry) (root : Label) (goes : Goes z old new []) (listed : IsListed z old root) where
  thins : IsThinned (WasOutside z old new) (graph_of z old) (graph_of z new) root
  thins p l n there node = goes.changes l n node refl

  pub goes_listed : IsListed z new root
  goes_listed = record {
    map = thinned_map (WasOutside z old new) (graph_of z old) (graph_of z new) root listed.map thins;
    placed = thin_place z.domains (WasOutside z old new) (graph_of z old) (graph_of z new) root listed.map thins listed.placed;
  }

  pub reads_list : ReadsList z old new root
  reads_list = record { goes = goes; listed = goes_listed; thinned = leaves_thinned (WasOutside z old new) (graph_of z old) (graph_of z new) root listed.map thins }

module _ (z : Sizes) (one : z.domains ≡ 1) where
  -- a stretch in which the domain writes nothing
  pub quiet_goes : (old new : List Entry) → IsPrefix old new → Legal z new → OwnQuiet z 0 old new → Goes z old new []
  quiet_goes old new grows legal quiet = record { legal = legal; grows = grows; changes = walk_along P old new grows each (changes_same (WasOutside z old old) [] (graph_of z old)) }
    where
      P : List Entry → Type 0
      P h = Changes (WasOutside z old h) [] (graph_of z old) (graph_of z h)

      each : (f : List Entry) (e : Entry) → IsPrefix old f → IsPrefix (f ++ e ∷ []) new → P f → P (f ++ e ∷ [])
      each f e since until was = go (is_entry_of 0 e) refl
        where
          later : Changes (WasOutside z old (f ++ e ∷ [])) [] (graph_of z old) (graph_of z f)
          later = changes_more (WasOutside z old f) (WasOutside z old (f ++ e ∷ [])) [] [] (graph_of z old) (graph_of z f) (was_wider z old old f (f ++ e ∷ []) (prefix_same old) (prefix_more f (e ∷ []))) (λ l h. h) was

          go : (b : Bool) → is_entry_of 0 e ≡ b → P (f ++ e ∷ [])
          go true own = subst (Changes (WasOutside z old (f ++ e ∷ [])) [] (graph_of z old)) (sym (quiet f e since until own)) later
          go false other = changes_twice (WasOutside z old (f ++ e ∷ [])) [] (graph_of z old) (graph_of z f) (graph_of z (f ++ e ∷ [])) later
              (changes_more (WasOutside z f (f ++ e ∷ [])) (WasOutside z old (f ++ e ∷ [])) [] [] (graph_of z f) (graph_of z (f ++ e ∷ []))
              (was_wider z old f (f ++ e ∷ []) (f ++ e ∷ []) since (prefix_same (f ++ e ∷ []))) (λ l h. h) (other_thins z one f e (legal_before z (f ++ e ∷ []) new until legal) other))

  -- a stretch in which it writes no block but of the map and of its own
  module _ (root : Label) (old new : List Entry) (grows : IsPrefix old new) (legal : Legal z new) (within : OwnWithin z root 0 old old new) (map : IsMap (graph_of z old) root) where
    pub record Within (f : List Entry) : Type 0 where
      pub its_map : IsMap (graph_of z f) root
      pub came : (l : Label) → StandsIn (graph_of z f) root l → StandsIn (graph_of z old) root l ⊎ (node_at (graph_of z old) l ≡ None)
      pub changes : Changes (WasOutside z old f) (labels_in z old root) (graph_of z old) (graph_of z f)

    -- a block that was there and isn't of the map is none that the domain writes
    spared : (f : List Entry) (e : Entry) → Within f → StepsWithin (IsMadeBehind z 0 old) (graph_of z f) (graph_of z (f ++ e ∷ [])) root → (l : Label) (n : Node) → node_at (graph_of z old) l ≡ Some n → has_label (labels_in z old root) l ≡ false
        → node_at (graph_of z (f ++ e ∷ [])) l ≡ node_at (graph_of z f) l
    spared f e x s l n node other = go (s.writes l)
      where
        made : node_at (graph_of z old) l ≡ None → ⊥
        made none = let clash : ◌≡◌ {A = Option Node} None (Some n) = sym none ∙ node in cc

        there : StandsIn (graph_of z f) root l → ⊥
        there stands = ⊎_elim (λ before. let listed = stands_label (graph_of z old) root map before.0 l before.1 in let clash : true ≡ false = sym listed ∙ other in cc) made (x.came l stands)

        go : (node_at (graph_of z (f ++ e ∷ [])) l ≡ node_at (graph_of z f) l) ⊎ (IsBlockOf (graph_of z f) root l ⊎ IsMadeBehind z 0 old l) → node_at (graph_of z (f ++ e ∷ [])) l ≡ node_at (graph_of z f) l
        go (inl same) = same
        go (inr (inl block)) = absurd (there (block.0, block.1))
        go (inr (inr mine)) = absurd (made mine.1)

    within_step : (f : List Entry) (e : Entry) → IsPrefix old f → IsPrefix (f ++ e ∷ []) new → Within f → Within (f ++ e ∷ [])
    within_step f e since until x = go (is_entry_of 0 e) refl
      where
        later : Changes (WasOutside z old (f ++ e ∷ [])) (labels_in z old root) (graph_of z old) (graph_of z f)
        later = changes_more (WasOutside z old f) (WasOutside z old (f ++ e ∷ [])) (labels_in z old root) (labels_in z old root) (graph_of z old) (graph_of z f)
            (was_wider z old old f (f ++ e ∷ []) (prefix_same old) (prefix_more f (e ∷ []))) (λ l h. h) x.changes

        go : (b : Bool) → is_entry_of 0 e ≡ b → Within (f ++ e ∷ [])
        go true own =
            let s = within f e since until own in record {
              its_map = s.map x.its_map;
              came = λ l stands. ⊎_elim (λ stood. x.came l stood) (λ mine. inr mine.1) (s.joins stands.0 l stands.1);
              changes = λ l n node other. subst (Thin (WasOutside z old (f ++ e ∷ [])) n) (sym (spared f e x s l n node other)) (later l n node other);
            }
        go false other =
            let thin = other_thins z one f e (legal_before z (f ++ e ∷ []) new until legal) other in
            let P = WasOutside z f (f ++ e ∷ []) in
            let map_thin : IsThinned P (graph_of z f) (graph_of z (f ++ e ∷ [])) root = (λ p l n there node. thin l n node refl) in record {
              its_map = thinned_map P (graph_of z f) (graph_of z (f ++ e ∷ [])) root x.its_map map_thin;
              came = λ l stands. x.came l (stands.0, sym (at_same P (graph_of z f) (graph_of z (f ++ e ∷ [])) root x.its_map map_thin stands.0) ∙ stands.1);
              changes = λ l n node aside. thin_twice (WasOutside z old (f ++ e ∷ [])) n (node_at (graph_of z f) l) (node_at (graph_of z (f ++ e ∷ [])) l) (later l n node aside)
                  (λ m here. thin_more P (WasOutside z old (f ++ e ∷ [])) (was_wider z old f (f ++ e ∷ []) (f ++ e ∷ []) since (prefix_same (f ++ e ∷ []))) m (node_at (graph_of z (f ++ e ∷ [])) l) (thin l m here refl));
            }

    pub within_at : (f : List Entry) → IsPrefix old f → IsPrefix f new → Within f
    within_at f since until = walk_along Within old f since (λ h e a b x. within_step h e a (prefix_trans (h ++ e ∷ []) f new b until) x)
        (record { its_map = map; came = λ l stands. inl stands; changes = changes_same (WasOutside z old old) (labels_in z old root) (graph_of z old) })

    pub writes_map : IsInPlace z.domains (graph_of z new) root → WritesMap z old new root
    writes_map placed =
        let x = within_at new grows (prefix_same new) in record {
          goes = record { legal = legal; grows = grows; changes = x.changes };
          listed = record { map = x.its_map; placed = placed };
          labels = λ l there. ⊎_elim (λ stood. inl (stands_label (graph_of z old) root map stood.0 l stood.1)) (λ none. inr none) (x.came l (label_stands (graph_of z new) root l there));
        }

    -- a leaf that the map had is as it was, or has lost its key and its datum
    pub leaf_along : (l : Label) (key : Option Label) (datum : Value) → node_at (graph_of z old) l ≡ Some (Ephe (key ∷ []) datum) → Thin (WasOutside z old new) (Ephe (key ∷ []) datum) (node_at (graph_of z new) l)
    leaf_along l key datum node = walk_along P old new grows each (thin_is (WasOutside z old old) (Ephe (key ∷ []) datum) (node_at (graph_of z old) l) node)
      where
        P : List Entry → Type 0
        P h = Thin (WasOutside z old h) (Ephe (key ∷ []) datum) (node_at (graph_of z h) l)

        each : (f : List Entry) (e : Entry) → IsPrefix old f → IsPrefix (f ++ e ∷ []) new → P f → P (f ++ e ∷ [])
        each f e since until was = go (is_entry_of 0 e) refl
          where
            later : Thin (WasOutside z old (f ++ e ∷ [])) (Ephe (key ∷ []) datum) (node_at (graph_of z f) l)
            later = thin_more (WasOutside z old f) (WasOutside z old (f ++ e ∷ [])) (was_wider z old old f (f ++ e ∷ []) (prefix_same old) (prefix_more f (e ∷ []))) (Ephe (key ∷ []) datum) (node_at (graph_of z f) l) was

            unwritten : (node_at (graph_of z (f ++ e ∷ [])) l ≡ node_at (graph_of z f) l) ⊎ (IsBlockOf (graph_of z f) root l ⊎ IsMadeBehind z 0 old l) → node_at (graph_of z (f ++ e ∷ [])) l ≡ node_at (graph_of z f) l
            unwritten (inl same) = same
            unwritten (inr (inl (p, there, (fields, plain)))) =
                let is = leaf_stays z old f l since (subst is_leaf (sym node) tt) in
                let clash : ◌≡◌ {A = Option (List Value)} None (Some fields) = sym (ap fields_of is.2) ∙ plain in
                cc
            unwritten (inr (inr mine)) = let clash : ◌≡◌ {A = Option Node} None (Some (Ephe (key ∷ []) datum)) = sym mine.1 ∙ node in cc

            go : (b : Bool) → is_entry_of 0 e ≡ b → P (f ++ e ∷ [])
            go true own = subst (Thin (WasOutside z old (f ++ e ∷ [])) (Ephe (key ∷ []) datum)) (sym (unwritten ((within f e since until own).writes l))) later
            go false other = thin_twice (WasOutside z old (f ++ e ∷ [])) (Ephe (key ∷ []) datum) (node_at (graph_of z f) l) (node_at (graph_of z (f ++ e ∷ [])) l) later
                (λ m here. thin_more (WasOutside z f (f ++ e ∷ [])) (WasOutside z old (f ++ e ∷ [])) (was_wider z old f (f ++ e ∷ []) (f ++ e ∷ []) since (prefix_same (f ++ e ∷ []))) m (node_at (graph_of z (f ++ e ∷ [])) l)
                (other_thins z one f e (legal_before z (f ++ e ∷ []) new until legal) other l m here refl))

  -- what a key is bound to, over a stretch in which the domain doesn't change that
  pub left_along : (root l : Label) (old new : List Entry) → IsPrefix old new → Legal z new → ((f : List Entry) → IsPrefix old f → IsPrefix f new → IsMap (graph_of z f) root)
      → ((f : List Entry) (e : Entry) → IsPrefix old f → IsPrefix (f ++ e ∷ []) new → is_entry_of 0 e ≡ true → bound_after z root (f ++ e ∷ []) l ≡ bound_after z root f l)
      → Left (WasOutside z old new) l (bound_after z root old l) (bound_after z root new l)
  left_along root l old new grows legal maps keeps = walk_along P old new grows each (inl refl)
    where
      P : List Entry → Type 0
      P h = Left (WasOutside z old h) l (bound_after z root old l) (bound_after z root h l)

      each : (f : List Entry) (e : Entry) → IsPrefix old f → IsPrefix (f ++ e ∷ []) new → P f → P (f ++ e ∷ [])
      each f e since until was = go (is_entry_of 0 e) refl
        where
          later : Left (WasOutside z old (f ++ e ∷ [])) l (bound_after z root old l) (bound_after z root f l)
          later = left_more (WasOutside z old f) (WasOutside z old (f ++ e ∷ [])) l (bound_after z root old l) (bound_after z root f l) (was_wider z old old f (f ++ e ∷ []) (prefix_same old) (prefix_more f (e ∷ [])) l) was

          here : Left (WasOutside z old (f ++ e ∷ [])) l (bound_after z root f l) (bound_after z root (f ++ e ∷ []) l) → P (f ++ e ∷ [])
          here step = left_twice (WasOutside z old (f ++ e ∷ [])) l (bound_after z root old l) (bound_after z root f l) (bound_after z root (f ++ e ∷ []) l) later step

          go : (b : Bool) → is_entry_of 0 e ≡ b → P (f ++ e ∷ [])
          go true own = here (inl (keeps f e since until own))
          go false other =
              let thin = other_thins z one f e (legal_before z (f ++ e ∷ []) new until legal) other in
              here (left_more (WasOutside z f (f ++ e ∷ [])) (WasOutside z old (f ++ e ∷ [])) l (bound_after z root f l) (bound_after z root (f ++ e ∷ []) l) (was_wider z old f (f ++ e ∷ []) (f ++ e ∷ []) since (prefix_same (f ++ e ∷ [])) l)
              (thinned_binds (WasOutside z f (f ++ e ∷ [])) (graph_of z f) (graph_of z (f ++ e ∷ [])) root (maps f since (prefix_before f e new until)) (λ p k n there node. thin k n node refl) z.domains l))
