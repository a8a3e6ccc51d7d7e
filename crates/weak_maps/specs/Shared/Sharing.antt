-- A history in which several domains make calls on one map.
use Rattle.std.specs.Prelude.{◌≡◌, ◌⊎◌, ℕ, ◌<◌, ◌≤◌, true, IsTrue, List, [], ◌∷◌, ◌++◌, Some}
use Rattle.model_core.specs.declared.label.Label.{Label}
use Rattle.model_core.specs.declared.command.Command as command
use Rattle.model_core.specs.declared.command.Command.TheVariants.{SetKey}
use Rattle.model_core.specs.declared.entry.Entry.{Entry}
use Rattle.model_core.specs.declared.entry.Entry.TheVariants.{End, Ran}
use Rattle.model_core.specs.declared.graph.Node.{Node}
use Rattle.model_core.specs.declared.graph.Node.TheVariants.{Plain, Raw, Ephe}
use Rattle.model_core.specs.declared.reply.Reply.{Reply}
use Rattle.model_core.specs.declared.graph.Value.TheVariants.{Block}
use Rattle.model_core.specs.declared.state.Sizes.{Sizes}
use Rattle.model_core.specs.Graph.{node_at}
use Rattle.model_core.specs.History.{IsPrefix, Legal, commands, is_entry_of}
use Rattle.model_core.specs.Laws.{written_by}
use Rattle.weak_laws.specs.Tables.Thinning.{is_collector, state_of}
use Rattle.weak_laws.specs.Tables.Stages.{graph_of}
use Rattle.weak_laws.specs.Maps.Tries.{IsInPlace, IsMap}
use Rattle.weak_laws.specs.Maps.Calls.{PerformedBy}
use Rattle.weak_laws.specs.Maps.Steps.{AllRespect, OthersRespect}
use Rattle.weak_maps.specs.Beside.{held_by}
use Rattle.weak_maps.specs.Guards.{Guards, PutGuards, TakeGuards}
use Rattle.weak_maps.specs.Walks.{OwnQuiet}

-- an entry of domain d behind a front stands in a call that began behind the base. If all respected the map up to there, the call's entries respect it as long as others' before them do
pub record IsGuarded (z : Sizes) (root : Label) (base front : List Entry) (e : Entry) (d : ℕ) : Type 0 where
  pub own : is_entry_of d e ≡ true
  pub first : List Entry
  pub last : List Entry
  pub behind : IsPrefix base first
  pub since : IsPrefix first front
  pub until : IsPrefix (front ++ e ∷ []) last
  pub guards : AllRespect z root base first → IsMap (graph_of z first) root → IsInPlace z.domains (graph_of z first) root → Guards z root d first first last

-- each entry of the history behind the base is the collector's, or some domain's and guarded
abbrev pub AllGuarded : Sizes → Label → List Entry → List Entry → Type 0
AllGuarded z root base h = (front : List Entry) (e : Entry) → IsPrefix base front → IsPrefix (front ++ e ∷ []) h → IsTrue (is_collector e) ⊎ ((d : ℕ) × IsGuarded z root base front e d)

-- a map that was a map at the base, with each leaf on its key's way, and that domains have used by calls alone since
pub record IsShared (z : Sizes) (root : Label) (base h : List Entry) : Type 0 where
  pub legal : Legal z h
  pub grows : IsPrefix base h
  pub map : IsMap (graph_of z base) root
  pub placed : IsInPlace z.domains (graph_of z base) root
  pub guarded : AllGuarded z root base h

-- each entry of domain d behind the base, from one front to a later one, is guarded
abbrev pub OwnGuarded : Sizes → Label → List Entry → ℕ → List Entry → List Entry → Type 0
OwnGuarded z root base d old new = (front : List Entry) (e : Entry) → IsPrefix base front → IsPrefix old front → IsPrefix (front ++ e ∷ []) new → is_entry_of d e ≡ true → IsGuarded z root base front e d

-- the entries of a put or of a take are guarded, on the map that a register held as the call began, if all respected it up to there
abbrev pub CallsAreGuarded : Type 0
CallsAreGuarded = (z : Sizes) (root : Label) (d register : ℕ) (base old new : List Entry) → IsPrefix base old → (AllRespect z root base old → held_by z d old register ≡ Block root) → PutGuards z d old new register ⊎ TakeGuards z d old new register → OwnGuarded z root base d old new

-- and so are those of a lookup, or of any other stretch in which a domain changes no block
abbrev pub LookupsAreGuarded : Type 0
LookupsAreGuarded = (z : Sizes) (root : Label) (d : ℕ) (base old new : List Entry) → OwnQuiet z d old new → OwnGuarded z root base d old new

-- a block that may be neither a map's nor a leaf: raw, or an ephemeron that hasn't one key
abbrev pub IsBesideMaps : Node → Type 0
IsBesideMaps (Plain tag fields) = ⊥
IsBesideMaps (Raw tag fields) = Unit {0}
IsBesideMaps (Ephe (key ∷ []) datum) = ⊥
IsBesideMaps (Ephe keys datum) = Unit {0}

-- and so is any other command that writes nothing, makes a block, or writes such a block
abbrev pub CommandsBesideAreGuarded : Type 0
CommandsBesideAreGuarded = (z : Sizes) (root : Label) (d : ℕ) (base old new : List Entry) (c : command.Command) (r : Reply) (p : PerformedBy z d old new c r)
    → ((l : Label) (n : Node) → written_by (state_of z (old ++ p.between)) d c ≡ Some l → node_at (graph_of z (old ++ p.between)) l ≡ Some n → IsBesideMaps n) → OwnGuarded z root base d old new

-- and so is the setting of a key of an ephemeron but its first, whatever a register holds: a leaf of a map has no such key
abbrev pub LaterKeysAreGuarded : Type 0
LaterKeysAreGuarded = (z : Sizes) (root : Label) (d : ℕ) (base old new : List Entry) (ephe index item : ℕ) (r : Reply) → 1 ≤ index → PerformedBy z d old new (SetKey ephe index item) r → OwnGuarded z root base d old new

-- the end of a domain, and the run of a finaliser
abbrev pub EndsAreGuarded : Type 0
EndsAreGuarded = (z : Sizes) (root : Label) (d : ℕ) (base front : List Entry) → IsPrefix base front → IsGuarded z root base front (End d) d × IsGuarded z root base front (Ran d) d

-- two stretches of a domain, one behind the other
abbrev pub StretchesAdd : Type 0
StretchesAdd = (z : Sizes) (root : Label) (d : ℕ) (base old now new : List Entry) → IsPrefix now new → OwnGuarded z root base d old now → OwnGuarded z root base d now new → OwnGuarded z root base d old new

-- So domains share the map, if of each the history has no command behind a front, as the end of a heap says of its seats, and the domain's entries up to that front are guarded
abbrev pub SeatsShareTheMap : Type 0
SeatsShareTheMap = (z : Sizes) (root : Label) (base h : List Entry) → Legal z h → IsPrefix base h → IsMap (graph_of z base) root → IsInPlace z.domains (graph_of z base) root
    → ((d : ℕ) → d < z.domains → (front : List Entry) × IsPrefix front h × (commands h d ≡ commands front d) × OwnGuarded z root base d [] front) → IsShared z root base h

-- so each entry respects the map
abbrev pub GuardedEntriesRespect : Type 0
GuardedEntriesRespect = (z : Sizes) (root : Label) (base h : List Entry) → IsShared z root base h → AllRespect z root base h

-- and at each front at which a call begins the map is a map, each leaf is on its key's way, and others respect the map until it ends: what the calls' contracts ask
abbrev pub OthersMayBeReliedOn : Type 0
OthersMayBeReliedOn = (z : Sizes) (root : Label) (base h : List Entry) → IsShared z root base h → (d : ℕ) (old new : List Entry) → IsPrefix base old → IsPrefix old new → IsPrefix new h
    → IsMap (graph_of z old) root × IsInPlace z.domains (graph_of z old) root × OthersRespect z root d old new
