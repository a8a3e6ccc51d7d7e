-- How many leaves a swept map has, and what domains that rest leave of a map.
use Rattle.std.proofs.Common.{◌≡◌, ◌⊎◌, inl, inr, ⊎_elim, ℕ, Bool, true, false, not, cond, IsTrue, List, [], ◌∷◌, ◌++◌, map, length, Option, Some, None, refl, ap, sym, ◌∙◌, subst, arith, length-append}
use Rattle.std.proofs.lemmas.List.{length-map}
use Rattle.model_core.specs.declared.label.Label.{Label}
use Rattle.model_core.specs.declared.entry.Entry.{Entry}
use Rattle.model_core.specs.declared.graph.Value.{Value}
use Rattle.model_core.specs.declared.graph.Value.TheVariants.{Block}
use Rattle.model_core.specs.declared.graph.Node.TheVariants.{Plain, Ephe}
use Rattle.model_core.specs.declared.state.Sizes.{Sizes}
use Rattle.model_core.specs.Graph.{Graph, has_label, node_at, same_label}
use Rattle.model_core.specs.Entries.{next}
use Rattle.model_core.specs.Fronts.{EpheShape, PlainShape, is_call, shape_of}
use Rattle.model_core.specs.History.{IsPrefix}
use Rattle.model_core.proofs.Graphs.GraphLemmas.{same_label-true, same_label_refl}
use Rattle.model_core.proofs.Graphs.GraphStepLemmas.{nodes_stay_law}
use Rattle.model_core.proofs.Reach.LabelListLemmas.{length_within}
use Rattle.model_core.proofs.Reach.ReachLemmas.{has-append_left, has-append_right, or_cases, or_left, or_right}
use Rattle.weak_laws.specs.Tables.Thinning.{IsOutside, is_collector, state_of}
use Rattle.weak_laws.specs.Tables.Stages.{graph_of}
use Rattle.weak_laws.proofs.OfTables.ChangeLemmas.{thin_is}
use Rattle.weak_laws.specs.Maps.Tries.{at, bound_by, bound_in, ends, fields_of, inside, way_to, IsMap}
use Rattle.weak_laws.specs.Maps.Calls.{HasKey, bound_after}
use Rattle.weak_laws.specs.Maps.Within.{StandsIn}
use Rattle.weak_laws.proofs.OfMaps.FrontLemmas.{prefix_before, walk_along}
use Rattle.weak_laws.proofs.OfMaps.OwnLemmas.{grew_along}
use Rattle.weak_laws.proofs.OfMaps.RespectLemmas.{allowed_at, collector_respects, collector_spares, graph_push, map_between, respect_both}
use Rattle.weak_maps.proofs.DescendLemmas.{ends_there, leaf_node, plain_node}
use Rattle.weak_maps.specs.Sweeps.Dead.{BringsNoDead}
use Rattle.weak_maps.specs.Sweeps.SweepLaws.{CameSince, RespectingBringsNoDead, RestingLeaves, SweptLeavesAreFew, SweptLeavesHaveKeys, SweptLeavesLived, WritingElsewhereLeaves}
use Rattle.weak_maps.proofs.OfSweeps.SpanLemmas.{steps_bring}

pub respecting_brings : RespectingBringsNoDead
respecting_brings z root d old new grows map respects own f e since until other =
    let here : IsMap (graph_of z f) root = map_between z root old new grows (respect_both z root d old new respects own) map f since (prefix_before f e new until) in
    subst (λ (g : Graph). BringsNoDead (graph_of z f) g root) (sym (graph_push z f e)) (steps_bring z.domains root (state_of z f) e here (respects f e since until other).step)

-- what stands in a map stood there, or came since
came_since : (z : Sizes) (root : Label) (old new : List Entry) → IsPrefix old new → (since : List Label) → CameSince z root old new since → (l : Label) → StandsIn (graph_of z new) root l → StandsIn (graph_of z old) root l ⊎ IsTrue (has_label since l)
came_since z root old new grows since came l = walk_along (λ h. StandsIn (graph_of z h) root l → StandsIn (graph_of z old) root l ⊎ IsTrue (has_label since l)) old new grows
    (λ f e a b so_far there. ⊎_elim so_far (λ new_one. inr new_one) (came f e a b l there)) (λ there. inl there)

pub swept_lived : SweptLeavesLived
swept_lived z root d old new grows map swept since came l there leaf = ⊎_elim (λ stood. go stood) (λ new_one. inr new_one) (came_since z root old new grows since came l there)
  where
    now : (key : Option Label) × (datum : Value) × (node_at (graph_of z new) l ≡ Some (Ephe (key ∷ []) datum))
    now = leaf_node (node_at (graph_of z new) l) leaf

    Out : Type 0
    Out = ((p : List ℕ) × HasKey (graph_of z old) root p l) ⊎ IsTrue (has_label since l)

    -- a block stays one
    not_block : (fields : List Value) → fields_of (node_at (graph_of z old) l) ≡ Some fields → ⊥
    not_block fields plain =
        let n = plain_node (node_at (graph_of z old) l) fields plain in
        let later = grew_along z old new grows l (Plain n.0 fields) n.1 in
        let same : Some later.0 ≡ Some (Ephe (now.0 ∷ []) now.1) = sym later.1 ∙ now.2 in
        let is : later.0 ≡ Ephe (now.0 ∷ []) now.1 = cc in
        let clash : EpheShape 1 ≡ PlainShape (length fields) n.0 = sym (ap shape_of is) ∙ later.2 in cc

    of_key : (p : List ℕ) → at (inside (graph_of z old)) p (Block root) ≡ Some (Block l) → (key : Option Label) (datum : Value) → node_at (graph_of z old) l ≡ Some (Ephe (key ∷ []) datum) → Out
    of_key p stood None datum node = absurd (swept.gone l (record { p = p; there = stood; dead = (datum, node) }) there)
    of_key p stood (Some k) datum node = inl (p, record { there = stood; key = k; datum = datum; node = node })

    go : StandsIn (graph_of z old) root l → Out
    go (p, stood) = ⊎_elim (λ was. let n = leaf_node (node_at (graph_of z old) l) was in of_key p stood n.0 n.1 n.2) (λ plain. absurd (not_block plain.0 plain.1)) (map.slots p (Block l) stood)

pub swept_few : SweptLeavesAreFew
swept_few z root d old new grows map swept since came live lives leaves once each =
    let few = length_within leaves (live ++ since) once
    (λ l there.
    let x = each l there in
    ⊎_elim (λ had. has-append_left live since l (lives had.0 l had.1)) (λ new_one. has-append_right live since l new_one) (swept_lived z root d old new grows map swept since came l x.0 x.1)) in
    let long = length-append live since in
    omega (arith, few, long)

-- a value that a list has is among those of its images
map_has : (f : Label → Label) (keys : List Label) (k : Label) → IsTrue (has_label keys k) → IsTrue (has_label (map f keys) (f k))
map_has f [] k there = cc
map_has f (x ∷ xs) k there = ⊎_elim
    (λ same. let is : x ≡ k = same_label-true x k same in or_left (same_label (f x) (f k)) (has_label (map f xs) (f k)) (ap (λ (y : Label). same_label (f y) (f k)) is ∙ same_label_refl (f k)))
    (λ rest. or_right (same_label (f x) (f k)) (has_label (map f xs) (f k)) (map_has f xs k rest))
    (or_cases (same_label x k) (has_label xs k) there)

-- the label of a value, or another one
label_or : Label → Value → Label
label_or other (Block l) = l
label_or other v = other

-- the leaf at which the way to a key ends
leaf_at_end : Sizes → List Entry → Label → Label → Label
leaf_at_end z h root k = label_or root (ends (inside (graph_of z h)) (way_to z.domains k) (Block root))

pub swept_keys : SweptLeavesHaveKeys
unfolding label_or leaf_at_end
swept_keys z root d old new grows map_is placed swept since came keys bound leaves once each =
    let few = swept_few z root d old new grows map_is swept since came (map (leaf_at_end z old root) keys) lives leaves once each in
    let same = length-map keys (leaf_at_end z old root) in
    omega (arith, few, same)
  where
    lives : (p : List ℕ) (l : Label) → HasKey (graph_of z old) root p l → IsTrue (has_label (map (leaf_at_end z old root) keys) l)
    lives p l had =
        let own : bound_by (graph_of z old) had.key (Block l) ≡ Some had.datum = ap (bound_in had.key) had.node ∙ ap (λ (b : Bool). cond b (Some had.datum) None) (same_label_refl had.key) in
        let way = placed p l had.key had.there (λ none. let clash : Some had.datum ≡ None = sym own ∙ none in cc) in
        let ends_it = ends_there z.domains (graph_of z old) root had.key p way.0 (Block l) way.1 had.there (ap fields_of had.node) in
        let is : bound_after z root old had.key ≡ Some had.datum = ap (bound_by (graph_of z old) had.key) ends_it ∙ own in
        let key = bound had.key (λ none. let clash : Some had.datum ≡ None = sym is ∙ none in cc) in
        subst (λ (m : Label). IsTrue (has_label (map (leaf_at_end z old root) keys) m)) (ap (label_or root) ends_it) (map_has (leaf_at_end z old root) keys had.key key)

-- an entry is a domain's or the collector's
call_or : (e : Entry) → IsTrue (is_call e) ⊎ IsTrue (is_collector e)
call_or e = go (is_call e) refl
  where
    go : (b : Bool) → is_call e ≡ b → IsTrue (is_call e) ⊎ IsTrue (is_collector e)
    go true is = inl is
    go false is = inr (ap not is)

pub elsewhere_leaves : WritingElsewhereLeaves
elsewhere_leaves z root d old new legal elsewhere f e since until other p l n there node =
    ⊎_elim
    (λ call. thin_is (IsOutside (state_of z f)) n (node_at (next (state_of z f) e).graph l) (nodes_stay_law (state_of z f) e l n (λ wrote. elsewhere f e since until other call l wrote (p, there)) node))
    (λ collects. collector_spares (state_of z f) e collects (allowed_at z f new e legal until) l n node)
    (call_or e)

pub resting_leaves : RestingLeaves
resting_leaves z root d old new legal rest = (
  (λ f e since until other p l n there node. collector_spares (state_of z f) e (rest f e since until other) (allowed_at z f new e legal until) l n node),
  (λ f e since until other. collector_respects z root f e (rest f e since until other) (allowed_at z f new e legal until)),
)
