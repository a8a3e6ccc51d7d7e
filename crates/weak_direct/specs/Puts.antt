-- What a put answers and leaves, and one that stops.
use Rattle.std.specs.Prelude.{◌≡◌, ◌≢◌, ◌+◌, ◌<◌, ◌≤◌, ℕ, List, Option}
use Rattle.model_core.specs.declared.label.Label.{Label}
use Rattle.model_core.specs.declared.entry.Entry.{Entry}
use Rattle.model_core.specs.declared.graph.Value.{Value}
use Rattle.model_core.specs.declared.graph.Value.TheVariants.{Block, Int, Nothing}
use Rattle.model_core.specs.declared.reply.Reply.{Reply}
use Rattle.model_core.specs.declared.reply.Reply.TheVariants as reply
use Rattle.model_core.specs.declared.state.Sizes.{Sizes}
use Rattle.weak_laws.specs.Tables.Stages.{graph_of}
use Rattle.weak_laws.specs.Maps.Tries.{IsInPlace, IsMap}
use Rattle.weak_laws.specs.Maps.Calls.{PutAnswers, PutsOrFull}
use Rattle.weak_laws.specs.Maps.Steps.{OthersRespect}
use Rattle.weak_maps.specs.Beside.{held_by, refusals_by}
use Rattle.weak_maps.specs.Puts.{Arrived, GoesOn}
use Rattle.weak_direct.specs.Leaves.{StopLeaves, TakeLeaves}

-- a leaf in the making was left: no binding was changed, whatever map it is for, if others respect it
abbrev pub LeafStops : Sizes → ℕ → List Entry → List Entry → ℕ → ℕ → Type 0
LeafStops z d old new key item = (root k : Label) → held_by z d old key ≡ Block k → held_by z d old item ≢ Nothing → IsMap (graph_of z old) root → OthersRespect z root d old new → GoesOn z root d old new

-- a put that has come to the field at which its key's way ends is over, with this answer, or stops
abbrev pub Settles : Sizes → ℕ → List Entry → List Entry → Label → ℕ → ℕ → ℕ → Option Label → Reply → Type 0
Settles z d now new k index rest level other r = (old : List Entry) (root : Label) (v : Value) (key : ℕ) → key < 8 → held_by z d old key ≡ Block k → IsMap (graph_of z old) root → IsInPlace z.domains (graph_of z old) root
    → Arrived z d old now root k v index rest level other → OthersRespect z root d old new → PutsOrFull z root d old new k v r × TakeLeaves z d old new root

abbrev pub SettleStops : Sizes → ℕ → List Entry → List Entry → Label → ℕ → ℕ → ℕ → Option Label → Type 0
SettleStops z d now new k index rest level other = (old : List Entry) (root : Label) (v : Value) (key : ℕ) → key < 8 → held_by z d old key ≡ Block k → IsMap (graph_of z old) root → IsInPlace z.domains (graph_of z old) root
    → Arrived z d old now root k v index rest level other → OthersRespect z root d old new → StopLeaves z d old new root

-- `map_put`, by what the registers of the key and of the datum hold. Each leaf that binds a key stands on its key's way still
abbrev pub PutReturns : Sizes → ℕ → List Entry → List Entry → Label → Value → Value → Reply → Type 0
PutReturns z d old new root (Block k) (Int i) r = PutAnswers z root d old new (Block k) (Int i) r × TakeLeaves z d old new root × IsInPlace z.domains (graph_of z new) root
PutReturns z d old new root (Block k) (Block l) r = PutAnswers z root d old new (Block k) (Block l) r × TakeLeaves z d old new root × IsInPlace z.domains (graph_of z new) root
PutReturns z d old new root key v r = PutAnswers z root d old new key v r

abbrev pub PutsAt : Sizes → ℕ → List Entry → List Entry → ℕ → ℕ → ℕ → Reply → Type 0
PutsAt z d old new map key item r = (root : Label) → held_by z d old map ≡ Block root → IsMap (graph_of z old) root → IsInPlace z.domains (graph_of z old) root → OthersRespect z root d old new → PutReturns z d old new root (held_by z d old key) (held_by z d old item) r

-- what a put counts that makes one try: labels that were left and are left, and commands of the domain that were refused and are.
-- Done: none was refused, and a leaf was made. `full`: one was refused, and at most the leaf was made. `type`: nothing was made. There is no other answer
abbrev pub TryCounts : ℕ → ℕ → ℕ → ℕ → Reply → Type 0
TryCounts labels left refused now reply.Done = (now ≡ refused) × (labels ≡ left + 1)
TryCounts labels left refused now reply.Full = (now ≡ refused + 1) × (left ≤ labels) × (labels ≤ left + 1)
TryCounts labels left refused now reply.BadType = (now ≡ refused) × (labels ≡ left)
TryCounts labels left refused now r = ⊥

-- the same by what a domain has seen
abbrev pub TrySpends : ℕ → ℕ → ℕ → List Entry → List Entry → Reply → Type 0
TrySpends d labels left old new r = TryCounts labels left (refusals_by d old) (refusals_by d new) r

-- what the end of a try counts, behind the leaf that was made
abbrev pub SettleCounts : ℕ → ℕ → ℕ → ℕ → Reply → Type 0
SettleCounts labels left refused now reply.Done = (now ≡ refused) × (labels ≡ left)
SettleCounts labels left refused now reply.Full = (now ≡ refused + 1) × (labels ≡ left)
SettleCounts labels left refused now r = ⊥

abbrev pub SettleSpends : {M : Type 0} → (M → ℕ) → (M → List Entry) → (M → ℕ) → M → M → Reply → Type 0
SettleSpends d front labels_left old new r = SettleCounts (labels_left old) (labels_left new) (refusals_by (d old) (front old)) (refusals_by (d old) (front new)) r

-- one that stops has changed no binding, and has written no block but of the map and of its own
abbrev pub PutStops : Sizes → ℕ → List Entry → List Entry → ℕ → Type 0
PutStops z d old new map = (root : Label) → held_by z d old map ≡ Block root → IsMap (graph_of z old) root → IsInPlace z.domains (graph_of z old) root → OthersRespect z root d old new → StopLeaves z d old new root
