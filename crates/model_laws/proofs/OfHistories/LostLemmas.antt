-- What domains may still come to, and what they don't after a complete collection.
use Rattle.std.proofs.Common.{◌≡◌, ℕ, Bool, true, false, cond, not, eqb, eqb-true, IsTrue, List, [], ◌∷◌, ◌++◌, map, flat_map, filter_map, slice_get, option_map, option_and_then, option_to_list, unwrap_or, pos, Option, Some, None, refl, ap, sym, ◌∙◌, subst, ⊎_elim, append_assoc}
use Rattle.std.specs.List.{list_all, list_any, cons_option}
use Rattle.std.specs.Option.{option_map_or}
use Rattle.std.proofs.lemmas.Option.{slice_get-map}
use Rattle.model_core.specs.declared.label.Label.{Label}
use Rattle.model_core.specs.declared.entry.Entry.{Entry}
use Rattle.model_core.specs.declared.entry.Entry.TheVariants.{Command as CommandOf, End, Cut, Queue, Seal, Wipe, Last as LastOf, Collected, Done, Ran}
use Rattle.model_core.specs.declared.graph.Value.{Value}
use Rattle.model_core.specs.declared.graph.Value.TheVariants.{Int, Block, Nothing}
use Rattle.model_core.specs.declared.graph.Node.{Node}
use Rattle.model_core.specs.declared.graph.Node.TheVariants.{Plain, Raw, Ephe}
use Rattle.model_core.specs.declared.state.Finaliser.{Finaliser}
use Rattle.model_core.specs.declared.state.LastFinaliser.{LastFinaliser}
use Rattle.model_core.specs.declared.state.DomainState.{DomainState}
use Rattle.model_core.specs.declared.state.Sizes.{Sizes}
use Rattle.model_core.specs.declared.state.State.{State}
use Rattle.model_core.specs.Graph.{Graph, same_label, labels, has_label, label_of, node_at}
use Rattle.model_core.specs.Domains.{domain_at, no_domain, pending_label, queues, roots, reach, waiting, settled_roots, settled_reach, opening, shared_node}
use Rattle.model_core.specs.Commands.{has_full_fields, is_int_value, key_value}
use Rattle.model_core.specs.Reach.{key_holds, edges_of, edges_at, reachable, IsClosedGraph, HoldsRoots, IsClosedUnder, IsLeastClosed}
use Rattle.model_core.specs.Entries.{is_some_and, is_gone, has_keys, has_live_keys, keys_are_live, full_keys, opened_node, opened, left_reach, CollectedAllowed, next}
use Rattle.model_core.specs.History.{state_after, LegalFrom, Legal}
use Rattle.model_core.specs.Marked.{IsMarked}
use Rattle.model_core.specs.WellFormed.{names_of, HaveNodes, IsDomainNamed, IsWellFormed}
use Rattle.model_core.proofs.Graphs.GraphLemmas.{same_label-true, same_label_refl}
use Rattle.model_core.proofs.Graphs.GraphStepLemmas.{labels_stay_law}
use Rattle.model_core.proofs.Graphs.ListLemmas.{flat_map-map, all_at}
use Rattle.model_core.proofs.Graphs.NamedLemmas.{have_none, have_append, have_left, have_right, have_cons_option, flat_named}
use Rattle.model_core.proofs.Reach.ReachLemmas.{or_cases, or_left, and_left, and_right, is_false, never_true, not_true, has-append_cases, has-append_left, has-append_right, keys_all, reachable_roots, reachable_least, reachable_more, reach_law}
use Rattle.model_core.proofs.Collections.CollectionLemmas.{all_has}
use Rattle.model_core.proofs.Collections.CutLemmas.{collected_settled, last_keeps_settled_reach}
use Rattle.model_core.proofs.Collections.WipeLemmas.{wipe_keeps_settled_reach}
use Rattle.model_core.proofs.Histories.FieldLemmas.{HasFullFields, fields_law}
use Rattle.model_core.proofs.Histories.HistoryLemmas.{state_after-append}
use Rattle.model_core.proofs.Histories.NumberLemmas.{numbered_after, numbered_opening}
use Rattle.model_core.proofs.Histories.WellFormedLemmas.{wf_after, wf_opening, queues_named, reach_after}
use Rattle.model_laws.specs.Histories.Cells.{Cell, Field, Key, Datum, initial, cell_of, content}
use Rattle.model_laws.specs.Histories.Lost.{IsNeverSeen, LostIsNeverSeen, UncountedIsNeverSeen, is_taking, EmptiedIsNeverSeen, TakenIsNeverSeen, MarksHoldAllLeft}
use Rattle.model_laws.proofs.OfHistories.CellLemmas.{held}
use Rattle.model_laws.proofs.OfHistories.SplitLemmas.{legal_first, legal_rest, has_first, has_cons_option, value_has, domain_has}
use Rattle.model_core.proofs.Reach.OpenedLemmas.{edges_opened, keys_labels, node_opened, opened_closed as closed_under_opened}
use Rattle.model_laws.proofs.OfHistories.ApartLemmas.{IsApart, IsOut, IsKnownOut, never_seen}

-- a list of labels as a graph
abbrev as_graph : List Label → Graph
as_graph ls = map (λ k. (k, shared_node)) ls

labels_as : (ls : List Label) → labels (as_graph ls) ≡ ls
labels_as [] = refl
labels_as (k ∷ ls) = ap (λ t. k ∷ t) (labels_as ls)

-- the labels of the waiting registrations of `finalise_last`
abbrev pub last_labels : State → List Label
last_labels s = flat_map (λ (x : DomainState). map (λ (f : LastFinaliser). f.label) x.lasts) s.domains

-- a list of labels that holds all that domains name, and all that its blocks name
module _ (s : State) (live : List Label) (holds : HoldsRoots (settled_roots s (queues s) ++ last_labels s) (has_label live))
    (cells : (x : Label) (cell : Cell) (y : Label) → IsTrue (has_label live x) → content s.graph x cell ≡ Block y → IsTrue (has_label live y)) where
  to_graph : (k : Label) → IsTrue (has_label live k) → IsTrue (has_label (labels (as_graph live)) k)
  to_graph k h = subst (λ z. IsTrue (has_label z k)) (sym (labels_as live)) h

  from_graph : (k : Label) → IsTrue (has_label (labels (as_graph live)) k) → IsTrue (has_label live k)
  from_graph k h = subst (λ z. IsTrue (has_label z k)) (labels_as live) h

  of_settled : (k : Label) → IsTrue (has_label (settled_roots s (queues s)) k) → IsTrue (has_label (labels (as_graph live)) k)
  of_settled k h = to_graph k (holds k (has-append_left (settled_roots s (queues s)) (last_labels s) k h))

  of_roots : (k : Label) → IsTrue (has_label (roots s (queues s)) k) → IsTrue (has_label (labels (as_graph live)) k)
  of_roots k h = of_settled k (has-append_left (roots s (queues s)) (waiting s) k h)

  live_named : (d : ℕ) → IsDomainNamed (as_graph live) (domain_at s d)
  live_named d =
      let registers : List Label = flat_map (λ (x : DomainState). filter_map label_of x.registers) s.domains in
      let pending : List Label = flat_map (filter_map pending_label) (queues s) in
      record {
        registers = λ k h. of_roots k (has-append_left registers pending k (domain_has (λ (x : DomainState). filter_map label_of x.registers) refl s.domains d k h));
        queue = λ k h. of_roots k (has-append_right registers pending k
            (subst (λ z. IsTrue (has_label z k)) (sym (flat_map-map (filter_map pending_label) (λ (x : DomainState). x.queue) s.domains))
            (domain_has (λ (x : DomainState). filter_map pending_label x.queue) refl s.domains d k h)));
        finals = λ k h. of_settled k (has-append_right (roots s (queues s)) (waiting s) k (domain_has (λ (x : DomainState). map (λ (f : Finaliser). f.label) x.finals) refl s.domains d k h));
        lasts = λ k h. to_graph k (holds k (has-append_right (settled_roots s (queues s)) (last_labels s) k
            (domain_has (λ (x : DomainState). map (λ (f : LastFinaliser). f.label) x.lasts) refl s.domains d k h)));
      }

  live_apart : IsApart s (as_graph live)
  live_apart = record { domains = live_named; cells = λ x cell y there at. to_graph y (cells x cell y (from_graph x there) at) }

  out_of_live : (l : Label) → has_label live l ≡ false → IsOut l s
  out_of_live l lost = record { safe = as_graph live; apart = live_apart; lost = ap (λ z. has_label z l) (labels_as live) ∙ lost }

-- the opened graph
labels_opened : (g : Graph) → labels (opened g) ≡ labels g
labels_opened [] = refl
labels_opened (e ∷ g) = ap (λ t. e.0 ∷ t) (labels_opened g)

-- what an opened block keeps alive has nodes, where what it names has
node_edges_named : (g : Graph) (alive : Label → Bool) (n : Node) → HaveNodes g (names_of n) → HaveNodes g (edges_of alive (opened_node n))
node_edges_named g alive (Plain tag fields) named = named
node_edges_named g alive (Raw tag fields) named = have_none g
node_edges_named g alive (Ephe keys datum) named = have_cons_option g (label_of datum) (filter_map label_of (map key_value keys))
    (have_right g (filter_map (λ k. k) keys) (option_to_list (label_of datum)) named)
    (subst (HaveNodes g) (sym (keys_labels keys)) (have_left g (filter_map (λ k. k) keys) (option_to_list (label_of datum)) named))

opened_edges_named : (g : Graph) (alive : Label → Bool) (o : Option Node) → ((n : Node) → o ≡ Some n → HaveNodes g (names_of n)) → HaveNodes g (option_map_or (edges_of alive) (option_map opened_node o) [])
opened_edges_named g alive None each = have_none g
opened_edges_named g alive (Some n) each = node_edges_named g alive n (each n refl)

pub all_roots_named : (s : State) → IsWellFormed s → HaveNodes s.graph (settled_roots s (queues s) ++ last_labels s)
all_roots_named s wf = have_append s.graph (settled_roots s (queues s)) (last_labels s)
    (have_append s.graph (roots s (queues s)) (waiting s)
    (have_append s.graph (flat_map (λ (x : DomainState). filter_map label_of x.registers) s.domains) (flat_map (filter_map pending_label) (queues s))
    (flat_named s.graph (λ (x : DomainState). filter_map label_of x.registers) no_domain s.domains (λ k h. (wf.domains k).registers))
    (queues_named s.graph s.domains (λ k. (wf.domains k).queue)))
    (flat_named s.graph (λ (x : DomainState). map (λ (f : Finaliser). f.label) x.finals) no_domain s.domains (λ k h. (wf.domains k).finals)))
    (flat_named s.graph (λ (x : DomainState). map (λ (f : LastFinaliser). f.label) x.lasts) no_domain s.domains (λ k h. (wf.domains k).lasts))

opened_closed : (s : State) → IsWellFormed s → IsClosedGraph (opened s.graph) (settled_roots s (queues s) ++ last_labels s)
opened_closed s wf = record {
  roots_have_nodes = λ l h. subst (λ z. IsTrue (has_label z l)) (sym (labels_opened s.graph)) (all_roots_named s wf l h);
  edges_have_nodes = λ alive l m h. subst (λ z. IsTrue (has_label z m)) (sym (labels_opened s.graph))
      (opened_edges_named s.graph alive (node_at s.graph l) (λ n e. wf.nodes l n e) m (subst (λ z. IsTrue (has_label z m)) (edges_opened s.graph alive l) h));
}

-- a block that a cell holds is kept alive by the opened block
int_never : (l : Label) → Int (pos 0) ≡ Block l → ⊥
int_never l e = cc

nothing_never : (l : Label) → Nothing ≡ Block l → ⊥
nothing_never l e = cc

no_block_of_ints : (fields : List Value) (i : ℕ) (y : Label) → IsTrue (list_all is_int_value fields) → unwrap_or (slice_get fields i) (Int (pos 0)) ≡ Block y → ⊥
no_block_of_ints fields i y all e = go (slice_get fields i) refl e
  where
    go : (o : Option Value) → slice_get fields i ≡ o → unwrap_or o (Int (pos 0)) ≡ Block y → ⊥
    go None at is = int_never y is
    go (Some v) at is =
        let int : IsTrue (is_int_value v) = all_at is_int_value fields all i v at in
        let clash : false ≡ true = subst (λ z. IsTrue (is_int_value z)) is int in cc

cell_edge : (alive : Label → Bool) (n : Node) (cell : Cell) (y : Label) → IsTrue (has_full_fields n) → held cell n ≡ Block y → IsTrue (has_label (edges_of alive (opened_node n)) y)
cell_edge alive (Plain tag fields) (Field i) y full e = value_has (Int (pos 0)) int_never fields i y e
cell_edge alive (Plain tag fields) (Key i) y full e = cc
cell_edge alive (Plain tag fields) Datum y full e = cc
cell_edge alive (Raw tag fields) (Field i) y full e = absurd (no_block_of_ints fields i y full e)
cell_edge alive (Raw tag fields) (Key i) y full e = cc
cell_edge alive (Raw tag fields) Datum y full e = cc
cell_edge alive (Ephe keys datum) (Field i) y full e = cc
cell_edge alive (Ephe keys datum) (Key i) y full e = has_cons_option (label_of datum) (filter_map label_of (map key_value keys)) y
    (value_has Nothing nothing_never (map key_value keys) i y (ap (λ o. unwrap_or o Nothing) (slice_get-map key_value keys i) ∙ e))
cell_edge alive (Ephe keys datum) Datum y full e = has_first (label_of datum) (filter_map label_of (map key_value keys)) y (ap label_of e)

nothing_new : (cell : Cell) (y : Label) → initial cell ≡ Block y → ⊥
nothing_new (Field i) y e = int_never y e
nothing_new (Key i) y e = nothing_never y e
nothing_new Datum y e = nothing_never y e

content_edge : (g : Graph) → HasFullFields g → (alive : Label → Bool) (x : Label) (cell : Cell) (y : Label) → content g x cell ≡ Block y → IsTrue (has_label (edges_at (opened g) alive x) y)
content_edge g full alive x cell y e = subst (λ z. IsTrue (has_label z y)) (sym (edges_opened g alive x)) (go (node_at g x) refl e)
  where
    go : (o : Option Node) → node_at g x ≡ o → unwrap_or (option_and_then (cell_of cell) o) (initial cell) ≡ Block y → IsTrue (has_label (option_map_or (edges_of alive) (option_map opened_node o) []) y)
    go None at is = absurd (nothing_new cell y is)
    go (Some n) at is = cell_edge alive n cell y (full x n at) is

-- what is left holds its roots, and what the cells of its blocks hold
left_law : (z : Sizes) (h : List Entry) → let s = state_after (opening z) h in IsLeastClosed (opened s.graph) (settled_roots s (queues s) ++ last_labels s) (left_reach s)
left_law z h = let s : State = state_after (opening z) h in reach_law (opened s.graph) (settled_roots s (queues s) ++ last_labels s) (opened_closed s (wf_after (opening z) h (wf_opening z)))

pub left_roots : (z : Sizes) (h : List Entry) → let s = state_after (opening z) h in HoldsRoots (settled_roots s (queues s) ++ last_labels s) (has_label (left_reach s))
left_roots z h = (left_law z h).holds_roots

pub left_cells : (z : Sizes) (h : List Entry) (x : Label) (cell : Cell) (y : Label) → let s = state_after (opening z) h in IsTrue (has_label (left_reach s) x) → content s.graph x cell ≡ Block y → IsTrue (has_label (left_reach s) y)
left_cells z h x cell y inside at = let s : State = state_after (opening z) h in (left_law z h).closed x y inside (content_edge s.graph (fields_law z h) (has_label (left_reach s)) x cell y at)

-- what a block keeps alive as it is, it keeps alive opened too
edge_opened : (alive : Label → Bool) (o : Option Node) (y : Label) → IsTrue (has_label (option_map_or (edges_of alive) o []) y) → IsTrue (has_label (option_map_or (edges_of alive) (option_map opened_node o) []) y)
edge_opened alive None y h = h
edge_opened alive (Some (Plain tag fields)) y h = h
edge_opened alive (Some (Raw tag fields)) y h = h
edge_opened alive (Some (Ephe keys datum)) y h = go (list_all (key_holds alive) keys) (label_of datum) h
  where
    go : (b : Bool) (o : Option Label) → IsTrue (has_label (cond b (option_to_list o) []) y) → IsTrue (has_label (cons_option o (filter_map label_of (map key_value keys))) y)
    go false o h = cc
    go true None h = cc
    go true (Some k) h = ⊎_elim (λ here. or_left (same_label k y) (has_label (filter_map label_of (map key_value keys)) y) here) (λ (none : IsTrue (has_label [] y)). cc) (or_cases (same_label k y) (has_label [] y) h)

-- so what is reachable is among what is left
pub reached_left : (z : Sizes) (h : List Entry) (x : Label) → let s = state_after (opening z) h in IsTrue (has_label (reach s) x) → IsTrue (has_label (left_reach s) x)
reached_left z h x = let s : State = state_after (opening z) h in
    reachable_least s.graph (has_label (left_reach s))
    (λ a b inside e. (left_law z h).closed a b inside (subst (λ w. IsTrue (has_label w b)) (sym (edges_opened s.graph (has_label (left_reach s)) a)) (edge_opened (has_label (left_reach s)) (node_at s.graph a) b e)))
    (roots s (queues s)) (λ k r. left_roots z h k (has-append_left (settled_roots s (queues s)) (last_labels s) k (has-append_left (roots s (queues s)) (waiting s) k r))) x

-- what isn't among what domains may still come to is out
pub known_lost : (z : Sizes) (h : List Entry) (l : Label) → Legal z h → IsTrue (has_label (labels (state_after (opening z) h).graph) l) → has_label (left_reach (state_after (opening z) h)) l ≡ false
    → IsKnownOut l (state_after (opening z) h)
known_lost z h l legal there lost = let s : State = state_after (opening z) h in record {
  numbered = numbered_after (opening z) h legal (numbered_opening z);
  there = there;
  out = out_of_live s (left_reach s) (left_roots z h) (left_cells z h) l lost;
}

pub lost_law : LostIsNeverSeen
lost_law z h k l legal there lost =
    never_seen l (state_after (opening z) h) k (legal_rest (opening z) h k legal) (known_lost z h l (legal_first (opening z) h k legal) there lost)

pub taken_law : TakenIsNeverSeen
taken_law z h k l legal there taken =
    let s : State = state_after (opening z) h in
    let apart : IsTrue (list_all (λ x. not (has_label (left_reach s) x)) s.taken) = (legal_rest (opening z) h (Done ∷ k) legal).0.apart in
    lost_law z h (Done ∷ k) l legal there (is_false (has_label (left_reach s) l) (all_has (λ x. not (has_label (left_reach s) x)) s.taken apart l taken))

-- the labels of the registrations that all pass a test
all_mapped : {A : Type 0} (f : A → Label) (test : Label → Bool) (xs : List A) → IsTrue (list_all (λ x. test (f x)) xs) → HoldsRoots (map f xs) test
all_mapped f test [] all k h = cc
all_mapped f test (x ∷ xs) all k h = ⊎_elim
    (λ here. subst (λ z. IsTrue (test z)) (same_label-true (f x) k here) (and_left (test (f x)) (list_all (λ y. test (f y)) xs) all))
    (λ later. all_mapped f test xs (and_right (test (f x)) (list_all (λ y. test (f y)) xs) all) k later)
    (or_cases (same_label (f x) k) (has_label (map f xs) k) h)

all_lasts : (test : Label → Bool) (xs : List DomainState) → IsTrue (list_all (λ (x : DomainState). list_all (λ (f : LastFinaliser). test f.label) x.lasts) xs)
    → HoldsRoots (flat_map (λ (x : DomainState). map (λ (f : LastFinaliser). f.label) x.lasts) xs) test
all_lasts test [] all k h = cc
all_lasts test (x ∷ xs) all k h = ⊎_elim
    (λ here. all_mapped (λ (f : LastFinaliser). f.label) test x.lasts (and_left (list_all (λ (f : LastFinaliser). test f.label) x.lasts) _ all) k here)
    (λ later. all_lasts test xs (and_right (list_all (λ (f : LastFinaliser). test f.label) x.lasts) _ all) k later)
    (has-append_cases (map (λ (f : LastFinaliser). f.label) x.lasts) (flat_map (λ (y : DomainState). map (λ (f : LastFinaliser). f.label) y.lasts) xs) k h)

-- the keys of an ephemeron that are alive
live_key : (alive : Label → Bool) (keys : List (Option Label)) (i : ℕ) (y : Label) → IsTrue (list_all (key_holds alive) keys) → unwrap_or (option_map key_value (slice_get keys i)) Nothing ≡ Block y → IsTrue (alive y)
live_key alive keys i y all e = go (slice_get keys i) refl e
  where
    go : (o : Option (Option Label)) → slice_get keys i ≡ o → unwrap_or (option_map key_value o) Nothing ≡ Block y → IsTrue (alive y)
    go None at is = absurd (nothing_never y is)
    go (Some None) at is = absurd (nothing_never y is)
    go (Some (Some k)) at is = let same : k ≡ y = cc in subst (λ z. IsTrue (alive z)) same (all_at (key_holds alive) keys all i (Some k) at)

module _ (g : Graph) (alive : Label → Bool) (closed : IsClosedUnder g alive) where
  -- a closed set in which the keys of each ephemeron are alive holds what its blocks name
  node_closed : (x : Label) (n : Node) (cell : Cell) (y : Label) → IsTrue (alive x) → node_at g x ≡ Some n → IsTrue (keys_are_live alive (Some n)) → IsTrue (has_full_fields n) → held cell n ≡ Block y → IsTrue (alive y)
  node_closed x (Plain tag fields) cell y there at keys full e =
      closed x y there (subst (λ (o : Option Node). IsTrue (has_label (option_map_or (edges_of alive) o []) y)) (sym at) (cell_edge alive (Plain tag fields) cell y full e))
  node_closed x (Raw tag fields) cell y there at keys full e = absurd (let none : IsTrue (has_label [] y) = cell_edge alive (Raw tag fields) cell y full e in cc)
  node_closed x (Ephe keys datum) (Field i) y there at live full e = absurd (int_never y e)
  node_closed x (Ephe keys datum) (Key i) y there at live full e = live_key alive keys i y live e
  node_closed x (Ephe keys datum) Datum y there at live full e =
      let kept : IsTrue (has_label (cond (list_all (key_holds alive) keys) (option_to_list (label_of datum)) []) y) =
      subst (λ b. IsTrue (has_label (cond b (option_to_list (label_of datum)) []) y)) (sym live)
      (subst (λ (o : Option Label). IsTrue (has_label (option_to_list o) y)) (sym (ap label_of e)) (or_left (same_label y y) false (same_label_refl y))) in
      closed x y there (subst (λ (o : Option Node). IsTrue (has_label (option_map_or (edges_of alive) o []) y)) (sym at) kept)

-- where a collection is complete, what is reachable is all that domains may still come to
module _ (z : Sizes) (h : List Entry) (legal : Legal z h) (allowed : CollectedAllowed (state_after (opening z) h)) where
  abbrev now : State
  now = state_after (opening z) h

  reach_holds : HoldsRoots (settled_roots now (queues now) ++ last_labels now) (has_label (reach now))
  reach_holds k root = ⊎_elim
      (λ a. (collected_settled z h legal allowed).0 k (reachable_roots now.graph (settled_roots now (queues now)) k a))
      (λ b. all_lasts (has_label (reach now)) now.domains allowed.lasts k b)
      (has-append_cases (settled_roots now (queues now)) (last_labels now) k root)

  reach_cells : (x : Label) (cell : Cell) (y : Label) → IsTrue (has_label (reach now) x) → content now.graph x cell ≡ Block y → IsTrue (has_label (reach now) y)
  reach_cells x cell y there e = go (node_at now.graph x) refl e
    where
      go : (o : Option Node) → node_at now.graph x ≡ o → unwrap_or (option_and_then (cell_of cell) o) (initial cell) ≡ Block y → IsTrue (has_label (reach now) y)
      go None at is = absurd (nothing_new cell y is)
      go (Some n) at is = node_closed now.graph (has_label (reach now)) (reach_after z h).closed x n cell y there at
          (subst (λ o. IsTrue (keys_are_live (has_label (reach now)) o)) at (all_has (λ k. has_live_keys now (node_at now.graph k)) (reach now) allowed.keys x there))
          (fields_law z h x n at) is

  uncounted : (l : Label) → IsTrue (has_label (labels now.graph) l) → has_label (reach now) l ≡ false → IsKnownOut l now
  uncounted l there lost = record {
    numbered = numbered_after (opening z) h legal (numbered_opening z);
    there = there;
    out = out_of_live now (reach now) reach_holds reach_cells l lost;
  }

pub uncounted_law : UncountedIsNeverSeen
uncounted_law z h k l legal there lost =
    let s : State = state_after (opening z) h in
    let rest = legal_rest (opening z) h (Collected ∷ k) legal in
    let seen : IsNeverSeen s (Collected ∷ k) l = never_seen l s (Collected ∷ k) rest (uncounted z h (legal_first (opening z) h (Collected ∷ k) legal) rest.0 l there lost) in
    record {
      registers = λ a b split. seen.registers (Collected ∷ a) b (ap (λ t. Collected ∷ t) split);
      replies = λ a b e split. seen.replies (Collected ∷ a) b e (ap (λ t. Collected ∷ t) split);
    }

-- a key that a Wipe takes is gone
pub gone_place : (test : Option (Option Label) → Bool) (keys : List (Option Label)) (places : List ℕ) (i : ℕ) → IsTrue (list_all (λ p. test (slice_get keys p)) places) → IsTrue (list_any (λ p. eqb p i) places)
    → IsTrue (test (slice_get keys i))
gone_place test keys [] i all some = cc
gone_place test keys (p ∷ ps) i all some = ⊎_elim
    (λ here. subst (λ q. IsTrue (test (slice_get keys q))) (eqb-true p i here) (and_left (test (slice_get keys p)) (list_all (λ q. test (slice_get keys q)) ps) all))
    (λ later. gone_place test keys ps i (and_right (test (slice_get keys p)) (list_all (λ q. test (slice_get keys q)) ps) all) later)
    (or_cases (eqb p i) (list_any (λ q. eqb q i) ps) some)

gone_value : (test : Label → Bool) (o : Option (Option Label)) (b : Label) → IsTrue (is_some_and (is_some_and test) o) → unwrap_or (option_map key_value o) Nothing ≡ Block b → IsTrue (test b)
gone_value test None b gone e = cc
gone_value test (Some None) b gone e = cc
gone_value test (Some (Some k)) b gone e = let same : k ≡ b = cc in subst (λ z. IsTrue (test z)) same gone

pub wiped_gone : (test : Label → Bool) (g : Graph) (e : Label) (places : List ℕ) (i : ℕ) (b : Label) → IsTrue (has_keys test places (node_at g e)) → IsTrue (list_any (λ p. eqb p i) places)
    → content g e (Key i) ≡ Block b → IsTrue (test b)
wiped_gone test g e places i b gone some at = go (node_at g e) gone at
  where
    go : (o : Option Node) → IsTrue (has_keys test places o) → unwrap_or (option_and_then (cell_of (Key i)) o) Nothing ≡ Block b → IsTrue (test b)
    go None gone is = cc
    go (Some (Plain tag fields)) gone is = cc
    go (Some (Raw tag fields)) gone is = cc
    go (Some (Ephe keys datum)) gone is = gone_value test (slice_get keys i) b (gone_place (is_some_and (is_some_and test)) keys places i gone some) is

-- the entries that take change nothing of what is settled
taking_settled : (s : State) (a : List Entry) → LegalFrom s a → IsTrue (list_all is_taking a) → settled_reach (state_after s a) (queues (state_after s a)) ≡ settled_reach s (queues s)
taking_settled s [] legal takes = refl
taking_settled s (Wipe l places ∷ a) legal takes = taking_settled (next s (Wipe l places)) a legal.1 takes ∙ wipe_keeps_settled_reach s l places legal.0
taking_settled s (LastOf d place ∷ a) legal takes = taking_settled (next s (LastOf d place)) a legal.1 takes ∙ last_keeps_settled_reach s d place
taking_settled s (CommandOf d c full ∷ a) legal takes = cc
taking_settled s (End d ∷ a) legal takes = cc
taking_settled s (Cut ∷ a) legal takes = cc
taking_settled s (Queue d places ∷ a) legal takes = cc
taking_settled s (Seal ∷ a) legal takes = cc
taking_settled s (Collected ∷ a) legal takes = cc
taking_settled s (Done ∷ a) legal takes = cc
taking_settled s (Ran d ∷ a) legal takes = cc

labels_after : (s : State) (a : List Entry) (l : Label) → IsTrue (has_label (labels s.graph) l) → IsTrue (has_label (labels (state_after s a).graph) l)
labels_after s [] l h = h
labels_after s (e ∷ a) l h = labels_after (next s e) a l (labels_stay_law s e l h)

-- what a cell of a block holds has a node
cell_named : (s : State) → IsWellFormed s → (e : Label) (i : ℕ) (b : Label) → content s.graph e (Key i) ≡ Block b → IsTrue (has_label (labels s.graph) b)
cell_named s wf e i b at = go (node_at s.graph e) refl at
  where
    go : (o : Option Node) → node_at s.graph e ≡ o → unwrap_or (option_and_then (cell_of (Key i)) o) Nothing ≡ Block b → IsTrue (has_label (labels s.graph) b)
    go None found is = cc
    go (Some (Plain tag fields)) found is = cc
    go (Some (Raw tag fields)) found is = cc
    go (Some (Ephe keys datum)) found is = node_edges_named s.graph (λ k. true) (Ephe keys datum) (wf.nodes e (Ephe keys datum) found) b
        (cell_edge (λ k. true) (Ephe keys datum) (Key i) b refl is)

pub emptied_law : EmptiedIsNeverSeen
emptied_law z h a k e places i b legal takes at some =
    let s : State = state_after (opening z) h in
    let taken : List Entry = h ++ Wipe e places ∷ a in
    let later : List Entry = Wipe e places ∷ (a ++ Collected ∷ k) in
    let split : taken ++ Collected ∷ k ≡ h ++ later = append_assoc h (Wipe e places ∷ a) (Collected ∷ k) in
    let here : state_after (opening z) taken ≡ state_after (next s (Wipe e places)) a = state_after-append (opening z) h (Wipe e places ∷ a) in
    let rest = legal_rest (opening z) h later (subst (Legal z) split legal) in
    let gone : IsTrue (is_gone s (queues s) b) = wiped_gone (is_gone s (queues s)) s.graph e places i b rest.0.gone some at in
    let t : State = state_after (next s (Wipe e places)) a in
    let settled : settled_reach t (queues t) ≡ settled_reach s (queues s) =
    taking_settled (next s (Wipe e places)) a (legal_first (next s (Wipe e places)) a (Collected ∷ k) rest.1) takes ∙ wipe_keeps_settled_reach s e places rest.0 in
    let unreached : has_label (reach t) b ≡ false = never_true (has_label (reach t) b) (λ inside. not_true (has_label (settled_reach s (queues s)) b) gone
    (subst (λ z. IsTrue (has_label z b)) settled (reachable_more t.graph (roots t (queues t)) (settled_roots t (queues t)) (has-append_left (roots t (queues t)) (waiting t)) b inside))) in
    let there : IsTrue (has_label (labels t.graph) b) = labels_after (next s (Wipe e places)) a b (labels_stay_law s (Wipe e places) b (cell_named s (wf_after (opening z) h (wf_opening z)) e i b at)) in
    subst (λ (u : State). IsNeverSeen (next u Collected) k b) here (uncounted_law z taken k b legal
    (subst (λ (u : State). IsTrue (has_label (labels u.graph) b)) (sym here) there)
    (subst (λ (u : State). has_label (reach u) b ≡ false) (sym here) unreached))

pub marks_law : MarksHoldAllLeft
marks_law s marked marks lasts keys = reachable_least (opened s.graph) marked (closed_under_opened s.graph marked marks.closed keys) (settled_roots s (queues s) ++ last_labels s)
    (λ k h. ⊎_elim
    (λ a. ⊎_elim (λ b. marks.roots k b) (λ c. marks.waiting k c) (has-append_cases (roots s (queues s)) (waiting s) k a))
    (λ d. lasts k d)
    (has-append_cases (settled_roots s (queues s)) (last_labels s) k h))
