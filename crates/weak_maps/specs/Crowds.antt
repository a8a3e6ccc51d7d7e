-- When a put answers `full`.
use Rattle.std.specs.Prelude.{◌≡◌, ◌≢◌, ◌⊎◌, ◌≤◌, ℕ, ◌+◌, List, None}
use Rattle.model_core.specs.declared.label.Label.{Label}
use Rattle.model_core.specs.declared.entry.Entry.{Entry}
use Rattle.model_core.specs.declared.graph.Value.TheVariants.{Block}
use Rattle.model_core.specs.declared.reply.Reply.{Reply}
use Rattle.model_core.specs.declared.reply.Reply.TheVariants as reply
use Rattle.model_core.specs.declared.state.Sizes.{Sizes}
use Rattle.model_core.specs.Graph.{Graph}
use Rattle.model_core.specs.Domains.{domain_at}
use Rattle.model_core.specs.History.{IsPrefix}
use Rattle.weak_laws.specs.Tables.Thinning.{state_of}
use Rattle.weak_laws.specs.Tables.Stages.{graph_of}
use Rattle.weak_laws.specs.Maps.Tries.{IsInPlace, IsMap, bound_by, ends, inside, way_to}
use Rattle.weak_laws.specs.Maps.Steps.{OthersLeave, OthersRespect}
use Rattle.weak_maps.specs.Beside.{held_by, refusals_by}

-- what a put counts: labels that were left and are left, and commands of the domain that were refused and are.
-- Done: none was refused, and a leaf and at most six blocks were made. `full`: one was refused, or none was, and a leaf and six blocks were made. `type`: nothing was made. There is no other answer
abbrev pub PutCounts : ℕ → ℕ → ℕ → ℕ → Reply → Type 0
PutCounts labels left refused now reply.Done = (now ≡ refused) × (left + 1 ≤ labels) × (labels ≤ left + 7)
PutCounts labels left refused now reply.Full = ((now ≡ refused + 1) × (left ≤ labels) × (labels ≤ left + 6)) ⊎ ((now ≡ refused) × (labels ≡ left + 7))
PutCounts labels left refused now reply.BadType = (now ≡ refused) × (labels ≡ left)
PutCounts labels left refused now r = ⊥

-- the same by what a domain has seen
abbrev pub PutSpends : ℕ → ℕ → ℕ → List Entry → List Entry → Reply → Type 0
PutSpends d labels left old new r = PutCounts labels left (refusals_by d old) (refusals_by d new) r

-- the way to a key ends at a leaf of another
abbrev pub IsInTheWay : ℕ → Graph → Label → Label → Label → Type 0
IsInTheWay n g root k other = (other ≢ k) × (bound_by g other (ends (inside g) (way_to n k) (Block root)) ≢ None)

-- how many blocks a domain has made
abbrev pub made_by : Sizes → ℕ → List Entry → ℕ
made_by z d h = (domain_at (state_of z h) d).serial

-- at a front of a call its domain had made seven blocks more, and at that or a later one a leaf of another key was in the key's way still
pub record IsCrowded (z : Sizes) (d : ℕ) (old new : List Entry) (root k : Label) : Type 0 where
  pub spent : List Entry
  pub begins : IsPrefix old spent
  pub made : made_by z d spent ≡ made_by z d old + 7
  pub front : List Entry
  pub since : IsPrefix spent front
  pub until : IsPrefix front new
  pub other : Label
  pub way : IsInTheWay z.domains (graph_of z front) root k other

-- a put of a key into whatever map stands in a register, with each leaf on its key's way, that is answered `full` though no allocation was refused: others have crowded the key's way, if they respect the map
abbrev pub CrowdedAt : Sizes → ℕ → List Entry → List Entry → ℕ → ℕ → Reply → Type 0
CrowdedAt z d old new map key r = (root k : Label) → held_by z d old map ≡ Block root → held_by z d old key ≡ Block k → IsMap (graph_of z old) root → IsInPlace z.domains (graph_of z old) root → OthersRespect z root d old new
    → r ≡ reply.Full → refusals_by d new ≡ refusals_by d old → IsCrowded z d old new root k

-- and where others leave the map as it is, one was refused
abbrev pub RefusedAlone : Sizes → ℕ → List Entry → List Entry → ℕ → ℕ → Reply → Type 0
RefusedAlone z d old new map key r = (root k : Label) → held_by z d old map ≡ Block root → held_by z d old key ≡ Block k → IsMap (graph_of z old) root → IsInPlace z.domains (graph_of z old) root → OthersRespect z root d old new → OthersLeave z root d old new
    → r ≡ reply.Full → refusals_by d new ≡ refusals_by d old + 1

-- both, for a put that is answered `full`
pub record FullAt (z : Sizes) (d : ℕ) (old new : List Entry) (map key : ℕ) (r : Reply) : Type 0 where
  pub crowded : CrowdedAt z d old new map key r
  pub alone : RefusedAlone z d old new map key r
