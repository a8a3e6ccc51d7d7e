-- The ephemerons of a domain in the rule: which are listed, and how far the domain is in one of them.
use Rattle.std.specs.Prelude.{◌≡◌, ℕ, ◌<◌, ◌⊎◌, ◌==◌, cond, not, Bool, IsTrue, List, [], length, slice_get, Option, Some, None}
use Rattle.model_core.specs.declared.label.Label.{Label}
use Rattle.model_core.specs.declared.graph.Value.{Value}
use Rattle.model_core.specs.declared.graph.Node.TheVariants.{Ephe}
use Rattle.model_core.specs.Fronts.{EpheShape}
use Rattle.model_core.specs.Graph.{Graph, node_at}
use Rattle.model_cycle.specs.Marks.{Marks}
use Rattle.model_cycle.specs.Progress.{KeysFound}
use Rattle.heap_rule.specs.declared.phase.Kind.TheVariants.{Clean}
use Rattle.heap_rule.specs.declared.phase.Stage.{Stage}
use Rattle.heap_rule.specs.declared.phase.Stage.TheVariants.{In}
use Rattle.heap_rule.specs.declared.view.Cleaning.{Cleaning}
use Rattle.heap_rule.specs.declared.view.NextKey.{NextKey}
use Rattle.heap_rule.specs.declared.view.NextKey.TheVariants.{Unknown, Refers, Dead}
use Rattle.heap_rule.specs.declared.view.Scan.{Scan}
use Rattle.heap_rule.specs.declared.view.Scan.TheVariants.{Idle, Reads, Holds, Keys, Key, Datum}
use Rattle.heap_rule.specs.declared.view.Share.{Share}
use Rattle.heap_rule.specs.Cycles.{seen_by}
use Rattle.heap_rule.specs.Places.{Place, Live}
use Rattle.heap_rule.specs.Pools.{Holder, OwnPlace, owned, blocks_of, place_in}

-- an ephemeron lives at an address
pub record IsEpheAt (live : Live) (a : ℕ) : Type 0 where
  pub place : Place
  pub lives : live a ≡ Some place
  pub keys : ℕ
  pub shape : place.shape ≡ EpheShape keys

-- the list has each ephemeron that lives in an own pool, and besides nothing but garbage of own pools
pub record Listed (live : Live) (holder : ℕ → Holder) (garbage : ℕ → Bool) (d : ℕ) (items : List ℕ) : Type 0 where
  pub all : (q c slot : ℕ) → holder q ≡ owned d c → slot < blocks_of c → IsEpheAt live (place_in q c slot) → IsTrue (seen_by items (place_in q c slot))
  pub own : (a : ℕ) → IsTrue (seen_by items a) → OwnPlace holder a d
  pub lives : (a : ℕ) → IsTrue (seen_by items a) → IsEpheAt live a ⊎ IsTrue (garbage a)

-- the ephemeron whose keys a domain looks at
abbrev pub ephemeron_of : Scan → Option ℕ
ephemeron_of Idle = None
ephemeron_of (Reads block done size head) = None
ephemeron_of (Holds block done size head address) = None
ephemeron_of (Keys block done count) = Some block
ephemeron_of (Key block done count address) = Some block
ephemeron_of (Datum block address) = Some block

-- what is known of the next key of an ephemeron that is cleaned
abbrev pub NextIs : Live → Marks → List (Option Label) → ℕ → NextKey → Type 0
NextIs live marks keys done Unknown = Unit {0}
NextIs live marks keys done (Refers address) = (p : Place) × (live address ≡ Some p) × (slice_get keys done ≡ Some (Some p.label))
NextIs live marks keys done Dead = (l : Label) × (slice_get keys done ≡ Some (Some l)) × IsTrue (not (marks.marked l))

-- a domain cleans a listed ephemeron that is marked: of its first keys those that aren't marked are emptied
pub record Cleans (live : Live) (graph : Graph) (marks : Marks) (stage : Stage) (items : List ℕ) (w : Cleaning) : Type 0 where
  pub stage_is : stage ≡ In Clean
  pub listed : IsTrue (seen_by items w.block)
  pub place : Place
  pub lives : live w.block ≡ Some place
  pub label : (l : Label) → w.label ≡ Some l → place.label ≡ l
  pub marked : IsTrue (marks.marked place.label)
  pub keys : List (Option Label)
  pub datum : Value
  pub node : node_at graph place.label ≡ Some (Ephe keys datum)
  pub count_is : length keys ≡ w.count
  pub through : KeysFound marks.marked keys w.done w.emptied
  pub next : NextIs live marks keys w.done w.next

-- the keys that a domain has emptied of the ephemeron at an address
abbrev pub emptied_at : Option Cleaning → ℕ → List ℕ
emptied_at None a = []
emptied_at (Some w) a = cond (a == w.block) w.emptied []

-- how far a domain is with its ephemerons: it looks at listed ones, and of the own blocks none misses keys but the one that it cleans
pub record Looks (live : Live) (holder : ℕ → Holder) (graph : Graph) (marks : Marks) (emptied : Label → List ℕ) (d : ℕ) (items : List ℕ) (stage : Stage) (share : Share) : Type 0 where
  pub at_own : (a : ℕ) → ephemeron_of share.scan ≡ Some a → IsTrue (seen_by items a)
  pub cleans : (w : Cleaning) → share.cleaning ≡ Some w → Cleans live graph marks stage items w
  pub emptied_is : (a : ℕ) (p : Place) → OwnPlace holder a d → live a ≡ Some p → emptied p.label ≡ emptied_at share.cleaning a
