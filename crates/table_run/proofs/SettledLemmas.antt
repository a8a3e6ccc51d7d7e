-- After a complete collection only what a register holds is left in the table and the weak array.
use Rattle.std.proofs.Common.{◌≡◌, ⊎_elim, ℕ, zero, suc, ◌<◌, Bool, true, false, cond, IsTrue, List, [], ◌∷◌, ◌++◌, map, length, flat_map, filter_map, get_or, Option, Some, None, pos, refl, ap, sym, ◌∙◌, subst, arith}
use Rattle.std.specs.List.{list_all}
use Rattle.std.specs.Option.{option_map_or}
use Rattle.model_core.specs.declared.label.Label.{Label}
use Rattle.model_core.specs.declared.graph.Value.{Value}
use Rattle.model_core.specs.declared.graph.Value.TheVariants.{Int, Block, Nothing}
use Rattle.model_core.specs.declared.graph.Node.{Node}
use Rattle.model_core.specs.declared.graph.Node.TheVariants.{Plain, Raw, Ephe}
use Rattle.model_core.specs.Graph.{Graph, same_label, has_label, label_of, node_at}
use Rattle.model_core.specs.Entries.{keys_are_live}
use Rattle.model_core.specs.Reach.{IsClosedUnder, edges_at, edges_of, key_holds}
use Rattle.model_core.proofs.Graphs.GraphLemmas.{same_label-true, same_label_refl}
use Rattle.model_core.proofs.Reach.ReachLemmas.{and_left, and_right, has-append_cases, has-append_left, has-append_right, or_cases, or_left, or_right}
use Rattle.weak_laws.specs.Tables.Structures.{Binding, Cell, binding_of, bindings, cell_labels, chain_bindings, is_weak, key_of, slot_keys, table_labels, IsTable, IsWeakArray, Links}
use Rattle.weak_tables.specs.Held.{AllHave, Has, IsBare, IsOwned, IsTidy}
use Rattle.weak_laws.proofs.OfTables.ChangeLemmas.{weak_parts}
use Rattle.table_text.specs.Machine.Machine.{Holds}
use Rattle.table_run.specs.Standing.{AreInts, key_node}

-- the labels in places
abbrev pub held_keys : List (Option Label) → List Label
held_keys [] = []
held_keys (None ∷ ks) = held_keys ks
held_keys (Some k ∷ ks) = k ∷ held_keys ks

pub in_places : (ks : List (Option Label)) (k : Label) → Holds ks k → IsTrue (has_label (held_keys ks) k)
in_places [] k (zero, at) = cc
in_places [] k (suc i, at) = cc
in_places (None ∷ ks) k (zero, at) = cc
in_places (None ∷ ks) k (suc i, at) = in_places ks k (i, at)
in_places (Some l ∷ ks) k (zero, at) = let same : l ≡ k = (let both : ◌≡◌ {A = Option (Option Label)} (Some (Some l)) (Some (Some k)) = at in cc) in or_left (same_label l k) _ (subst (λ m. IsTrue (same_label l m)) same (same_label_refl l))
in_places (Some l ∷ ks) k (suc i, at) = or_right (same_label l k) _ (in_places ks k (i, at))

pub from_places : (ks : List (Option Label)) (k : Label) → IsTrue (has_label (held_keys ks) k) → Holds ks k
from_places [] k h = absurd (let clash : false ≡ true = h in cc)
from_places (None ∷ ks) k h = let t = from_places ks k h in (suc t.0, t.1)
from_places (Some l ∷ ks) k h = ⊎_elim (λ same. (0, ap (λ m. Some (Some m)) (same_label-true l k same))) (λ later. let t = from_places ks k later in (suc t.0, t.1)) (or_cases (same_label l k) _ h)

pub nothing_there : (m : Label) → IsTrue (has_label [] m) → ⊥
nothing_there m h = let clash : false ≡ true = h in cc

-- an ephemeron whose datum is no block keeps nothing alive
no_edges : (b : Bool) (m : Label) → IsTrue (has_label (cond b [] []) m) → ⊥
no_edges true m h = nothing_there m h
no_edges false m h = nothing_there m h

-- a label that fields name stands in one of them
pub named_field : (fields : List Value) (m : Label) → IsTrue (has_label (filter_map label_of fields) m) → (i : ℕ) × (i < length fields) × (get_or fields i Nothing ≡ Block m)
named_field [] m h = absurd (nothing_there m h)
named_field (Int v ∷ fields) m h = let t = named_field fields m h in (suc t.0, (let below = t.1 in omega (arith, below)), t.2)
named_field (Nothing ∷ fields) m h = let t = named_field fields m h in (suc t.0, (let below = t.1 in omega (arith, below)), t.2)
named_field (Block l ∷ fields) m h = ⊎_elim (λ same. (0, omega arith, ap (λ k. Block k) (same_label-true l m same))) (λ later. let t = named_field fields m later in (suc t.0, (let below = t.1 in omega (arith, below)), t.2)) (or_cases (same_label l m) _ h)

-- those of a weak array are its slots
slots_named : (slots : List Label) → filter_map label_of (map Block slots) ≡ slots
slots_named [] = refl
slots_named (e ∷ slots) = ap (λ (ls : List Label). e ∷ ls) (slots_named slots)

-- a label of one of many chains
into_chains : (css : List (List Cell)) (i : ℕ) (m : Label) → IsTrue (has_label (cell_labels (get_or css i [])) m) → IsTrue (has_label (flat_map cell_labels css) m)
into_chains [] i m h = absurd (nothing_there m h)
into_chains (cs ∷ css) zero m h = has-append_left (cell_labels cs) (flat_map cell_labels css) m h
into_chains (cs ∷ css) (suc i) m h = has-append_right (cell_labels cs) (flat_map cell_labels css) m (into_chains css i m h)

from_chains : (css : List (List Cell)) (m : Label) → IsTrue (has_label (flat_map cell_labels css) m) → (i : ℕ) × (i < length css) × IsTrue (has_label (cell_labels (get_or css i [])) m)
from_chains [] m h = absurd (nothing_there m h)
from_chains (cs ∷ css) m h = ⊎_elim (λ here. (0, omega arith, here)) (λ later. let t = from_chains css m later in (suc t.0, (let below = t.1 in omega (arith, below)), t.2)) (has-append_cases (cell_labels cs) (flat_map cell_labels css) m h)

-- integers among more of them
ints_first : (a b : List Binding) → AreInts (a ++ b) → AreInts a
ints_first [] b ints = tt
ints_first ((k, Int v) ∷ a) b ints = ints_first a b ints
ints_first ((k, Block l) ∷ a) b ints = absurd ints
ints_first ((k, Nothing) ∷ a) b ints = absurd ints

ints_second : (a b : List Binding) → AreInts (a ++ b) → AreInts b
ints_second [] b ints = ints
ints_second ((k, Int v) ∷ a) b ints = ints_second a b ints
ints_second ((k, Block l) ∷ a) b ints = absurd ints
ints_second ((k, Nothing) ∷ a) b ints = absurd ints

ints_at : (g : Graph) (css : List (List Cell)) (i : ℕ) → AreInts (bindings g css) → AreInts (chain_bindings g (get_or css i []))
ints_at g [] i ints = tt
ints_at g (cs ∷ css) zero ints = ints_first (chain_bindings g cs) (bindings g css) ints
ints_at g (cs ∷ css) (suc i) ints = ints_at g css i (ints_second (chain_bindings g cs) (bindings g css) ints)

module _ (g : Graph) (alive : Label → Bool) where
  -- what a block of the graph keeps alive
  edges_named : (l m : Label) (n : Node) → node_at g l ≡ Some n → IsTrue (has_label (edges_at g alive l) m) → IsTrue (has_label (edges_of alive n) m)
  edges_named l m n at h = subst (λ o. IsTrue (has_label (option_map_or (edges_of alive) o []) m)) at h

  -- an ephemeron that binds an integer, or nothing and has no datum, keeps nothing alive
  cell_edges : (e m : Label) (key : Option Label) (datum : Value) → node_at g e ≡ Some (Ephe (key ∷ []) datum) → IsOwned key datum → AreInts (binding_of (node_at g e)) → IsTrue (has_label (edges_at g alive e) m) → ⊥
  cell_edges e m None datum at owned ints h =
      no_edges (list_all (key_holds alive) (None ∷ [])) m (subst (λ v. IsTrue (has_label (edges_of alive (Ephe (None ∷ []) v)) m)) owned (edges_named e m _ at h))
  cell_edges e m (Some k) (Int v) at owned ints h = no_edges (list_all (key_holds alive) (Some k ∷ [])) m (edges_named e m (Ephe (Some k ∷ []) (Int v)) at h)
  cell_edges e m (Some k) (Block l) at owned ints h = absurd (subst (λ o. AreInts (binding_of o)) at ints)
  cell_edges e m (Some k) Nothing at owned ints h = absurd (subst (λ o. AreInts (binding_of o)) at ints)

  owned_at : (e : Label) (key : Option Label) (datum : Value) → node_at g e ≡ Some (Ephe (key ∷ []) datum) → Has IsTidy g e → IsOwned key datum
  owned_at e key datum at x = let same : x.node ≡ Ephe (key ∷ []) datum = (let both : Some x.node ≡ Some (Ephe (key ∷ []) datum) = sym x.at ∙ at in cc) in subst IsTidy same x.is

  -- what leads to a chain leads to its first cell
  head_named : (v : Value) (cells : List Cell) (m : Label) → Links g v cells → v ≡ Block m → IsTrue (has_label (cell_labels cells) m)
  head_named v [] m links is = let clash : Int (pos 0) ≡ Block m = sym links ∙ is in cc
  head_named v (c ∷ cs) m (here, rest) is = let same : c.node ≡ m = (let both : Block c.node ≡ Block m = sym here ∙ is in cc) in or_left (same_label c.node m) _ (subst (λ k. IsTrue (same_label c.node k)) same (same_label_refl c.node))

  -- a chain's blocks keep no others alive
  chain_closed : (v : Value) (cells : List Cell) → Links g v cells → AreInts (chain_bindings g cells) → ((l : Label) → IsTrue (has_label (cell_labels cells) l) → Has IsTidy g l) → (l m : Label) → IsTrue (has_label (cell_labels cells) l) → IsTrue (has_label (edges_at g alive l) m)
      → IsTrue (has_label (cell_labels cells) m)
  chain_closed v [] links ints tidy l m there h = absurd (nothing_there l there)
  chain_closed v (c ∷ cs) (here, (rest, cell, later)) ints tidy l m there h =
      let behind : IsTrue (has_label (cell_labels cs) m) → IsTrue (has_label (cell_labels (c ∷ cs)) m) = λ x. or_right (same_label c.node m) _ (or_right (same_label c.ephe m) _ x) in
      ⊎_elim
      (λ node.
      let named = edges_named c.node m _ cell.node (subst (λ k. IsTrue (has_label (edges_at g alive k) m)) (sym (same_label-true c.node l node)) h) in
      ⊎_elim (λ ephe. or_right (same_label c.node m) _ (or_left (same_label c.ephe m) _ ephe))
      (λ more. let t = named_field (rest ∷ []) m more in behind (head_named rest cs m later (only t.0 t.1 t.2)))
      (or_cases (same_label c.ephe m) _ named))
      (λ others. ⊎_elim
      (λ ephe.
      let w = weak_parts (node_at g c.ephe) cell.weak in
      absurd (cell_edges c.ephe m w.0 w.1 w.2 (owned_at c.ephe w.0 w.1 w.2 (tidy c.ephe (or_right (same_label c.node c.ephe) _ (or_left (same_label c.ephe c.ephe) _ (same_label_refl c.ephe)))))
      (ints_first (binding_of (node_at g c.ephe)) (chain_bindings g cs) ints) (subst (λ k. IsTrue (has_label (edges_at g alive k) m)) (sym (same_label-true c.ephe l ephe)) h)))
      (λ deep. behind (chain_closed rest cs later (ints_second (binding_of (node_at g c.ephe)) (chain_bindings g cs) ints) (λ k mine. tidy k (or_right (same_label c.node k) _ (or_right (same_label c.ephe k) _ mine))) l m deep h))
      (or_cases (same_label c.ephe l) _ others))
      (or_cases (same_label c.node l) _ there)
    where
      only : (i : ℕ) → i < length (rest ∷ []) → get_or (rest ∷ []) i Nothing ≡ Block m → rest ≡ Block m
      only zero below is = is
      only (suc i) below is = absurd (omega arith)

  -- nor do a table's
  pub table_closed : (root : Label) (chains : List (List Cell)) → IsTable g root chains → AreInts (bindings g chains) → AllHave IsTidy g (table_labels root chains) → (l m : Label) → IsTrue (has_label (table_labels root chains) l) → IsTrue (has_label (edges_at g alive l) m)
      → IsTrue (has_label (table_labels root chains) m)
  table_closed root chains table ints tidy l m there h = ⊎_elim
      (λ same.
      let t = named_field table.fields m (edges_named root m _ table.node (subst (λ k. IsTrue (has_label (edges_at g alive k) m)) (sym (same_label-true root l same)) h)) in
      or_right (same_label root m) _ (into_chains chains t.0 m (head_named _ (get_or chains t.0 []) m (table.linked t.0 (subst (λ n. t.0 < n) table.size t.1)) t.2)))
      (λ inner.
      let t = from_chains chains l inner in
      or_right (same_label root m) _ (into_chains chains t.0 m
      (chain_closed _ (get_or chains t.0 []) (table.linked t.0 (subst (λ n. t.0 < n) table.count t.1)) (ints_at g chains t.0 ints) (λ k mine. tidy k (or_right (same_label root k) _ (into_chains chains t.0 k mine))) l m t.2 h)))
      (or_cases (same_label root l) _ there)

  -- nor a weak array's
  array_closed : (root : Label) (slots : List Label) → IsWeakArray g root slots → AllHave IsBare g slots → (l m : Label) → IsTrue (has_label (root ∷ slots) l) → IsTrue (has_label (edges_at g alive l) m) → IsTrue (has_label (root ∷ slots) m)
  array_closed root slots array bare l m there h = ⊎_elim
      (λ same.
      let named = edges_named root m _ array.node (subst (λ k. IsTrue (has_label (edges_at g alive k) m)) (sym (same_label-true root l same)) h) in
      or_right (same_label root m) _ (subst (λ ls. IsTrue (has_label ls m)) (slots_named slots) named))
      (λ mine. let x = bare l mine in absurd (bare_edges x.node x.is (edges_named l m x.node x.at h)))
      (or_cases (same_label root l) _ there)
    where
      bare_edges : (n : Node) → IsBare n → IsTrue (has_label (edges_of alive n) m) → ⊥
      bare_edges (Plain tag fields) is named = absurd is
      bare_edges (Raw tag fields) is named = absurd is
      bare_edges (Ephe [] datum) is named = absurd is
      bare_edges (Ephe (key ∷ other ∷ keys) datum) is named = absurd is
      bare_edges (Ephe (key ∷ []) datum) is named = no_edges (list_all (key_holds alive) (key ∷ [])) m (subst (λ v. IsTrue (has_label (edges_of alive (Ephe (key ∷ []) v)) m)) is named)

  -- nor a key
  key_closed : (k m : Label) → node_at g k ≡ Some key_node → IsTrue (has_label (edges_at g alive k) m) → ⊥
  key_closed k m at h = nothing_there m (edges_named k m key_node at h)

-- all that the machine's registers lead to: its keys, and the blocks of what keeps the bindings and of the weak array
abbrev pub all_held : List (Option Label) → List Label → Label → List Label → List Label
all_held rs labels array slots = held_keys rs ++ (labels ++ (array ∷ slots))

module _ (g : Graph) (labels : List Label) (array : Label) (slots : List Label) (rs : List (Option Label)) (keeper : (l m : Label) → IsTrue (has_label labels l) → IsTrue (has_label (edges_at g (has_label (all_held rs labels array slots)) l) m) → IsTrue (has_label labels m))
    (weak : IsWeakArray g array slots) (bare : AllHave IsBare g slots) (keys : (k : Label) → Holds rs k → node_at g k ≡ Some key_node) where
  abbrev all : List Label
  all = all_held rs labels array slots

  pub held_closed : IsClosedUnder g (has_label all)
  held_closed l m lives h = ⊎_elim
      (λ key. absurd (key_closed g (has_label all) l m (keys l (from_places rs l key)) h))
      (λ others. has-append_right (held_keys rs) _ m (⊎_elim
      (λ mine. has-append_left labels (array ∷ slots) m (keeper l m mine h))
      (λ mine. has-append_right labels (array ∷ slots) m (array_closed g (has_label all) array slots weak bare l m mine h))
      (has-append_cases labels (array ∷ slots) l others)))
      (has-append_cases (held_keys rs) _ l lives)

-- a key in a slot of a weak array that is alive, where the keys of what is alive are
module _ (g : Graph) (alive : Label → Bool) (closed : IsClosedUnder g alive) (live : (l : Label) → IsTrue (alive l) → IsTrue (keys_are_live alive (node_at g l))) where
  slot_alive : (o : Option Node) (k : Label) → IsTrue (is_weak o) → key_of o ≡ Some k → IsTrue (keys_are_live alive o) → IsTrue (alive k)
  slot_alive None k weak is lives = cc
  slot_alive (Some (Plain tag fields)) k weak is lives = cc
  slot_alive (Some (Raw tag fields)) k weak is lives = cc
  slot_alive (Some (Ephe [] datum)) k weak is lives = cc
  slot_alive (Some (Ephe (key ∷ other ∷ keys) datum)) k weak is lives = cc
  slot_alive (Some (Ephe (key ∷ []) datum)) k weak is lives = and_left (alive k) true (subst (λ o. IsTrue (list_all (key_holds alive) (o ∷ []))) is lives)

  slots_alive : (slots : List Label) (k : Label) → ((e : Label) → IsTrue (has_label slots e) → IsTrue (alive e)) → IsTrue (list_all (λ e. is_weak (node_at g e)) slots) → Holds (slot_keys g slots) k → IsTrue (alive k)
  slots_alive [] k lives weak (zero, at) = cc
  slots_alive [] k lives weak (suc i, at) = cc
  slots_alive (e ∷ slots) k lives weak (zero, at) =
      let is : key_of (node_at g e) ≡ Some k = (let both : ◌≡◌ {A = Option (Option Label)} (Some (key_of (node_at g e))) (Some (Some k)) = at in cc) in
      slot_alive (node_at g e) k (and_left (is_weak (node_at g e)) _ weak) is (live e (lives e (or_left (same_label e e) _ (same_label_refl e))))
  slots_alive (e ∷ slots) k lives weak (suc i, at) = slots_alive slots k (λ m mine. lives m (or_right (same_label e m) _ mine)) (and_right (is_weak (node_at g e)) _ weak) (i, at)

  pub array_keys_held : (root : Label) (slots : List Label) (k : Label) → IsWeakArray g root slots → IsTrue (alive root) → Holds (slot_keys g slots) k → IsTrue (alive k)
  array_keys_held root slots k array lives held =
      slots_alive slots k (λ e mine. closed root e lives (subst (λ o. IsTrue (has_label (option_map_or (edges_of alive) o []) e)) (sym array.node) (subst (λ ls. IsTrue (has_label ls e)) (sym (slots_named slots)) mine))) array.weak held
