-- Reach and maps: after a complete collection only keys that are reached are bound, and no binding keeps its key alive.
use Rattle.std.proofs.Common.{◌≡◌, ◌≢◌, ℕ, Bool, true, false, cond, ◌&&◌, IsTrue, List, [], ◌∷◌, ◌++◌, get_or, filter_map, option_to_list, Option, Some, None, refl, ap, sym, ◌∙◌, subst}
use Rattle.std.specs.Option.{option_map_or}
use Rattle.model_core.specs.declared.label.Label.{Label}
use Rattle.model_core.specs.declared.entry.Entry.TheVariants.{Collected}
use Rattle.model_core.specs.declared.graph.Value.{Value}
use Rattle.model_core.specs.declared.graph.Value.TheVariants.{Int, Block, Nothing}
use Rattle.model_core.specs.declared.graph.Node.{Node}
use Rattle.model_core.specs.declared.graph.Node.TheVariants.{Plain, Raw, Ephe}
use Rattle.model_core.specs.declared.state.State.{State}
use Rattle.model_core.specs.Graph.{Graph, same_label, labels, has_label, label_of, node_at, with_node}
use Rattle.model_core.specs.Domains.{opening, queues, roots, reach}
use Rattle.model_core.specs.Entries.{CollectedAllowed, keys_are_live, has_live_keys, next}
use Rattle.model_core.specs.Reach.{edges_of, edges_at, reachable, IsClosedGraph, IsClosedUnder, IsLeastClosed}
use Rattle.model_core.proofs.Commands.FrameLemmas.{label_cases}
use Rattle.model_core.proofs.Graphs.GraphLemmas.{same_label-true, node_at-with_node_same, node_at-with_node_other, labels-with_node}
use Rattle.model_core.proofs.Collections.CollectedLemmas.{reach_fresh}
use Rattle.model_core.proofs.Collections.CollectionLemmas.{all_has}
use Rattle.model_core.proofs.Histories.HistoryLemmas.{state_after-push}
use Rattle.model_core.proofs.Histories.WellFormedLemmas.{reach_after, wf_after, wf_opening, closed_graph, queues_named}
use Rattle.model_core.proofs.Reach.ReachLemmas.{and_left, reach_law, reachable_least}
use Rattle.weak_laws.specs.Tables.Thinning.{state_of}
use Rattle.weak_laws.proofs.OfTables.CollectorLemmas.{field_named}
use Rattle.weak_laws.proofs.OfTables.StepLemmas.{legal_parts}
use Rattle.weak_laws.specs.Maps.Tries.{inside, fields_of, ends, bound_in, bound_by, way_to}
use Rattle.weak_laws.specs.Maps.MapLaws.{CollectedKeysAreReached, DatumKeepsNoKey}
use Rattle.weak_laws.proofs.OfMaps.WalkLemmas.{ends_step, ends_stop}

-- what a set that is closed holds of a map that it holds
module _ (g : Graph) (alive : Label → Bool) (closed : IsClosedUnder g alive) where
  -- a value whose label, if it is one, is held
  abbrev Lives : Value → Type 0
  Lives v = (m : Label) → v ≡ Block m → IsTrue (alive m)

  edge : (l m : Label) (tag : ℕ) (fields : List Value) → IsTrue (alive l) → node_at g l ≡ Some (Plain tag fields) → IsTrue (has_label (filter_map label_of fields) m) → IsTrue (alive m)
  edge l m tag fields lives at named = closed l m lives (subst (λ o. IsTrue (has_label (option_map_or (edges_of alive) o []) m)) (sym at) named)

  -- a field of a block that is held
  field_lives : (v : Value) (fields : List Value) (i : ℕ) → Lives v → inside g v ≡ Some fields → Lives (get_or fields i Nothing)
  field_lives (Int z) fields i lives e = cc
  field_lives Nothing fields i lives e = cc
  field_lives (Block l) fields i lives e = go (node_at g l) refl e
    where
      go : (o : Option Node) → node_at g l ≡ o → fields_of o ≡ Some fields → Lives (get_or fields i Nothing)
      go None at is = cc
      go (Some (Raw tag fs)) at is = cc
      go (Some (Ephe keys datum)) at is = cc
      go (Some (Plain tag fs)) at is = λ m here.
          let same : fs ≡ fields = cc in
          edge l m tag fs (lives l refl) at (field_named fs i m (ap (λ (xs : List Value). get_or xs i Nothing) same ∙ here))

  way_lives : (is : List ℕ) (v : Value) → Lives v → Lives (ends (inside g) is v)
  way_lives [] v lives = lives
  way_lives (i ∷ is) v lives = go (inside g v) refl (λ x l. way_lives is x l)
    where
      go : (o : Option (List Value)) → inside g v ≡ o → ((x : Value) → Lives x → Lives (ends (inside g) is x)) → Lives (ends (inside g) (i ∷ is) v)
      go None e rec = subst Lives (sym (ends_stop (inside g) i is v e)) lives
      go (Some fields) e rec = subst Lives (sym (ends_step (inside g) i is v fields e)) (rec (get_or fields i Nothing) (field_lives v fields i lives e))

  -- the key of a leaf that is held, if each full key of an ephemeron that is held is held
  module _ (keys : (l : Label) → IsTrue (alive l) → IsTrue (keys_are_live alive (node_at g l))) where
    leaf_key : (o : Option Node) (k : Label) → IsTrue (keys_are_live alive o) → bound_in k o ≢ None → IsTrue (alive k)
    leaf_key None k live bound = absurd (bound refl)
    leaf_key (Some (Plain tag fields)) k live bound = absurd (bound refl)
    leaf_key (Some (Raw tag fields)) k live bound = absurd (bound refl)
    leaf_key (Some (Ephe [] datum)) k live bound = absurd (bound refl)
    leaf_key (Some (Ephe (key ∷ other ∷ more) datum)) k live bound = none key bound
      where
        none : (x : Option Label) → bound_in k (Some (Ephe (x ∷ other ∷ more) datum)) ≢ None → IsTrue (alive k)
        none None b = absurd (b refl)
        none (Some l) b = absurd (b refl)
    leaf_key (Some (Ephe (None ∷ []) datum)) k live bound = absurd (bound refl)
    leaf_key (Some (Ephe (Some l ∷ []) datum)) k live bound = go (same_label l k) refl
      where
        go : (b : Bool) → same_label l k ≡ b → IsTrue (alive k)
        go true e = subst (λ x. IsTrue (alive x)) (same_label-true l k e) (and_left (alive l) true live)
        go false e = absurd (bound (ap (λ (b : Bool). cond b (Some datum) None) e))

    bound_lives : (v : Value) (k : Label) → Lives v → bound_by g k v ≢ None → IsTrue (alive k)
    bound_lives (Int z) k lives bound = absurd (bound refl)
    bound_lives Nothing k lives bound = absurd (bound refl)
    bound_lives (Block l) k lives bound = leaf_key (node_at g l) k (keys l (lives l refl)) bound

    pub map_key_lives : (is : List ℕ) (root k : Label) → IsTrue (alive root) → bound_by g k (ends (inside g) is (Block root)) ≢ None → IsTrue (alive k)
    map_key_lives is root k lives bound = bound_lives (ends (inside g) is (Block root)) k (way_lives is (Block root) (λ m same. let is : root ≡ m = cc in subst (λ x. IsTrue (alive x)) is lives)) bound

pub collected_law : CollectedKeysAreReached
collected_law z h legal root reached k bound =
    let s = state_of z h in
    let allowed : CollectedAllowed s = (legal_parts (opening z) h (Collected ∷ []) legal).1.0 in
    let there : state_of z (h ++ Collected ∷ []) ≡ next s Collected = state_after-push (opening z) h Collected in
    let same : reach (state_of z (h ++ Collected ∷ [])) ≡ reach s = ap reach there ∙ reach_fresh s in
    let graph : (state_of z (h ++ Collected ∷ [])).graph ≡ s.graph = ap (λ (t : State). t.graph) there in
    let lives : IsTrue (has_label (reach s) root) = subst (λ ls. IsTrue (has_label ls root)) same reached in
    subst (λ ls. IsTrue (has_label ls k)) (sym same)
    (map_key_lives s.graph (has_label (reach s)) (reach_after z h).closed (λ l live. all_has (λ l. has_live_keys s (node_at s.graph l)) (reach s) allowed.keys l live) (way_to z.domains k) root k lives
    (subst (λ (g : Graph). bound_by g k (ends (inside g) (way_to z.domains k) (Block root)) ≢ None) graph bound))

-- an ephemeron of one key, and the graph in which it has no datum
module _ (g : Graph) (rs : List Label) (whole : IsClosedGraph g rs) (l k : Label) (datum : Value) (node : node_at g l ≡ Some (Ephe (Some k ∷ []) datum)) where
  abbrev emptied : Graph
  emptied = with_node g l (Ephe (Some k ∷ []) Nothing)

  there : node_at emptied l ≡ Some (Ephe (Some k ∷ []) Nothing)
  there = node_at-with_node_same g l (Ephe (Some k ∷ []) Nothing) (Ephe (Some k ∷ []) datum) node

  other_edges : (alive : Label → Bool) (x : Label) → (x ≡ l → ⊥) → edges_at emptied alive x ≡ edges_at g alive x
  other_edges alive x other = ap (λ (o : Option Node). option_map_or (edges_of alive) o []) (node_at-with_node_other g l x (Ephe (Some k ∷ []) Nothing) other)

  no_edges : (alive : Label → Bool) → edges_at emptied alive l ≡ []
  no_edges alive = ap (λ (o : Option Node). option_map_or (edges_of alive) o []) there ∙ either (alive k && true)
    where
      either : (b : Bool) → ◌≡◌ {A = List Label} (cond b [] []) []
      either true = refl
      either false = refl

  same_labels : labels emptied ≡ labels g
  same_labels = labels-with_node g l (Ephe (Some k ∷ []) Nothing)

  closed_still : IsClosedGraph emptied rs
  closed_still = record {
    roots_have_nodes = λ x h. subst (λ ls. IsTrue (has_label ls x)) (sym same_labels) (whole.roots_have_nodes x h);
    edges_have_nodes = λ alive x m h. label_cases (IsTrue (has_label (labels emptied) m)) x l
        (λ same. let clash : false ≡ true = subst (λ ls. IsTrue (has_label ls m)) (ap (edges_at emptied alive) same ∙ no_edges alive) h in cc)
        (λ other. subst (λ ls. IsTrue (has_label ls m)) (sym same_labels) (whole.edges_have_nodes alive x m (subst (λ ls. IsTrue (has_label ls m)) (other_edges alive x other) h)));
  }

  -- if the key isn't reached without the datum, all that is reached is reached without it
  pub key_without : IsTrue (has_label (reachable g rs) k) → IsTrue (has_label (reachable emptied rs) k)
  key_without reached = go (has_label (reachable emptied rs) k) refl
    where
      least : IsLeastClosed emptied rs (reachable emptied rs)
      least = reach_law emptied rs closed_still

      alive : Label → Bool
      alive = has_label (reachable emptied rs)

      go : (b : Bool) → has_label (reachable emptied rs) k ≡ b → IsTrue b
      go true e = refl
      go false e = sym e ∙ reachable_least g (has_label (reachable emptied rs))
          (λ x m lives h. label_cases (IsTrue (has_label (reachable emptied rs) m)) x l
          (λ same.
          let dead : edges_at g (has_label (reachable emptied rs)) l ≡ cond (has_label (reachable emptied rs) k && true) (option_to_list (label_of datum)) [] =
          ap (λ (o : Option Node). option_map_or (edges_of (has_label (reachable emptied rs))) o []) node in
          let none : edges_at g (has_label (reachable emptied rs)) x ≡ [] = ap (edges_at g (has_label (reachable emptied rs))) same ∙ (dead ∙ ap (λ (b : Bool). cond (b && true) (option_to_list (label_of datum)) []) e) in
          let clash : false ≡ true = subst (λ ls. IsTrue (has_label ls m)) none h in cc)
          (λ other. least.closed x m lives (subst (λ ls. IsTrue (has_label ls m)) (sym (other_edges (has_label (reachable emptied rs)) x other)) h)))
          rs least.holds_roots k reached

pub datum_law : DatumKeepsNoKey
datum_law z h l k datum node reached =
    let s : State = state_of z h in
    let wf = wf_after (opening z) h (wf_opening z) in
    key_without s.graph (roots s (queues s)) (closed_graph s wf (queues s) (queues_named s.graph s.domains (λ d. (wf.domains d).queue))) l k datum node reached
