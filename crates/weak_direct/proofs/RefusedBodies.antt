-- What the clauses of a call that stops refuse: where a clause holds a wrong outcome doesn't, whatever body met it.
use Rattle.std.proofs.Common.{◌≡◌, ◌≢◌, ⊎_elim, ℕ, true, List, [], ◌∷◌, ◌++◌, Option, Some, None, ap, sym, ◌∙◌}
use Rattle.model_core.specs.declared.label.Label.{Label}
use Rattle.model_core.specs.declared.entry.Entry.{Entry}
use Rattle.model_core.specs.declared.graph.Node.TheVariants.{Ephe}
use Rattle.model_core.specs.declared.graph.Value.{Value}
use Rattle.model_core.specs.declared.graph.Value.TheVariants.{Block}
use Rattle.model_core.specs.declared.state.Sizes.{Sizes}
use Rattle.model_core.specs.Graph.{Graph, node_at}
use Rattle.model_core.specs.History.{IsPrefix, is_entry_of}
use Rattle.weak_laws.specs.Tables.Stages.{graph_of}
use Rattle.weak_laws.specs.Maps.Tries.{IsInPlace, IsMap, fields_of}
use Rattle.weak_laws.specs.Maps.Steps.{OthersRespect}
use Rattle.weak_laws.specs.Maps.Within.{IsBlockOf, IsMadeBehind}
use Rattle.weak_maps.specs.Beside.{held_by}
use Rattle.weak_direct.specs.Leaves.{StopLeaves, StopsAt}
use Rattle.weak_direct.specs.Puts.{PutStops}

-- a block of a map is no ephemeron
no_block : (g : Graph) (root l : Label) (keys : List (Option Label)) (datum : Value) → node_at g l ≡ Some (Ephe keys datum) → IsBlockOf g root l → ⊥
no_block g root l keys datum is (p, there, (fields, plain)) = let clash : Some fields ≡ None = sym plain ∙ ap fields_of is in cc

-- an entry of domain d, from one front to a later one, writes a block that the domain hasn't made behind the first
pub record WritesOther (z : Sizes) (d : ℕ) (old new front : List Entry) (l : Label) : Type 0 where
  pub entry : Entry
  pub since : IsPrefix old front
  pub until : IsPrefix (front ++ entry ∷ []) new
  pub own : is_entry_of d entry ≡ true
  pub other : IsMadeBehind z d old l → ⊥
  pub writes : node_at (graph_of z (front ++ entry ∷ [])) l ≢ node_at (graph_of z front) l

-- a call that has stopped has written none but blocks of the map
unwritten : (z : Sizes) (root : Label) (d : ℕ) (old new front : List Entry) (l : Label) → StopLeaves z d old new root → WritesOther z d old new front l → (IsBlockOf (graph_of z front) root l → ⊥) → ⊥
unwritten z root d old new front l x w beside = ⊎_elim w.writes (⊎_elim beside w.other) ((x.within front w.entry w.since w.until w.own).writes l)

-- where a put has stopped, no entry of it wrote a block beside the map that isn't the call's own
pub no_stopped_put_writes_beside : (z : Sizes) (root : Label) (d : ℕ) (old new front : List Entry) (map : ℕ) (l : Label) → held_by z d old map ≡ Block root → IsMap (graph_of z old) root → IsInPlace z.domains (graph_of z old) root → OthersRespect z root d old new → PutStops z d old new map
    → WritesOther z d old new front l → (IsBlockOf (graph_of z front) root l → ⊥) → ⊥
no_stopped_put_writes_beside z root d old new front map l held is_map placed respects stops = unwritten z root d old new front l (stops root held is_map placed respects)

-- nor a key or the datum of an ephemeron that isn't the call's own, be it a leaf of the map or not
pub no_stopped_put_writes_an_ephemeron : (z : Sizes) (root : Label) (d : ℕ) (old new front : List Entry) (map : ℕ) (l : Label) → held_by z d old map ≡ Block root → IsMap (graph_of z old) root → IsInPlace z.domains (graph_of z old) root → OthersRespect z root d old new → PutStops z d old new map
    → WritesOther z d old new front l → (keys : List (Option Label)) (datum : Value) → node_at (graph_of z front) l ≡ Some (Ephe keys datum) → ⊥
no_stopped_put_writes_an_ephemeron z root d old new front map l held is_map placed respects stops w keys datum is = unwritten z root d old new front l (stops root held is_map placed respects) w (no_block (graph_of z front) root l keys datum is)

-- where a take has stopped, no entry of it wrote a block beside the map that isn't the call's own
pub no_stopped_take_writes_beside : (z : Sizes) (root : Label) (d : ℕ) (old new front : List Entry) (map : ℕ) (l : Label) → held_by z d old map ≡ Block root → IsMap (graph_of z old) root → OthersRespect z root d old new → StopsAt z d old new map
    → WritesOther z d old new front l → (IsBlockOf (graph_of z front) root l → ⊥) → ⊥
no_stopped_take_writes_beside z root d old new front map l held is_map respects stops = unwritten z root d old new front l (stops root held is_map respects)

-- nor a key or the datum of an ephemeron that isn't the call's own, be it a leaf of the map or not
pub no_stopped_take_writes_an_ephemeron : (z : Sizes) (root : Label) (d : ℕ) (old new front : List Entry) (map : ℕ) (l : Label) → held_by z d old map ≡ Block root → IsMap (graph_of z old) root → OthersRespect z root d old new → StopsAt z d old new map
    → WritesOther z d old new front l → (keys : List (Option Label)) (datum : Value) → node_at (graph_of z front) l ≡ Some (Ephe keys datum) → ⊥
no_stopped_take_writes_an_ephemeron z root d old new front map l held is_map respects stops w keys datum is = unwritten z root d old new front l (stops root held is_map respects) w (no_block (graph_of z front) root l keys datum is)
