-- What the domains of a table share, and the commands by which each comes to it.
use Rattle.std.specs.Prelude.{◌≡◌, ◌≢◌, ◌≤◌, ℕ, zero, suc, false, List, [], ◌∷◌, ◌++◌, None}
use Rattle.model_core.specs.declared.command.Command as declared_command
use Rattle.model_core.specs.declared.command.Command.TheVariants.{Poll, Ephe, Alloc, Load, Store, SetKey, GetKey}
use Rattle.model_core.specs.declared.entry.Entry.{Entry}
use Rattle.model_core.specs.declared.entry.Entry.TheVariants.{Command}
use Rattle.model_core.specs.declared.graph.Value.TheVariants.{Block, Nothing}
use Rattle.model_core.specs.declared.label.Label.{Label}
use Rattle.model_core.specs.declared.reply.Reply.{Reply}
use Rattle.model_core.specs.declared.reply.Reply.TheVariants as reply
use Rattle.model_core.specs.declared.state.Sizes.{Sizes}
use Rattle.model_core.specs.Counts.Counts.{labels_of, ephemerons_of}
use Rattle.model_core.specs.Graph.{Graph, node_at}
use Rattle.weak_laws.specs.Maps.Calls.{PerformedBy, bound_after}
use Rattle.weak_laws.specs.Tables.Stages.{graph_of}
use Rattle.weak_maps.specs.Beside.{held_by}
use Rattle.weak_maps.specs.Commands.{IsMapCommand}
use Rattle.table_sections.specs.Slots.{IsEight}
use Rattle.table_sections.specs.declared.laying.Places.{Places}

-- the commands that store the three ephemerons of the slots into the shared block
abbrev pub publishing : List declared_command.Command
publishing = Store 0 0 7 ∷ Store 0 1 12 ∷ Store 0 2 13 ∷ []

-- and that make the map the last key of the first ephemeron, which is no slot
abbrev pub sharing : List declared_command.Command
sharing = SetKey 7 7 6 ∷ []

-- the commands that load all these
abbrev pub loading : List declared_command.Command
loading = Load 7 0 0 ∷ Load 12 0 1 ∷ Load 13 0 2 ∷ GetKey 6 7 7 ∷ []

-- all that the first domain does before its section: it makes the ephemerons and the map. A `poll` comes before, and another where its thread begins
abbrev pub first_commands : List declared_command.Command
first_commands = Poll ∷ Ephe 7 8 ∷ Ephe 12 8 ∷ Ephe 13 8 ∷ Store 0 0 7 ∷ Store 0 1 12 ∷ Store 0 2 13 ∷ Alloc 6 0 512 ∷ SetKey 7 7 6 ∷ Poll ∷ []

-- all that another domain does
abbrev pub other_commands : List declared_command.Command
other_commands = Poll ∷ Load 7 0 0 ∷ Load 12 0 1 ∷ Load 13 0 2 ∷ GetKey 6 7 7 ∷ Poll ∷ []

-- by the domain's number
abbrev pub preparation : ℕ → List declared_command.Command
preparation zero = first_commands
preparation (suc d) = other_commands

-- the registers of a domain hold what all share
pub record HoldsPlaces (z : Sizes) (p : Places) (d : ℕ) (h : List Entry) : Type 0 where
  pub first : held_by z d h 7 ≡ Block p.first
  pub second : held_by z d h 12 ≡ Block p.second
  pub third : held_by z d h 13 ≡ Block p.third
  pub map : held_by z d h 6 ≡ Block p.map

-- no register of a domain holds anything but those of what all share, and the first
abbrev pub HoldsNoKey : Sizes → ℕ → List Entry → Type 0
HoldsNoKey z d h = (i : ℕ) → 1 ≤ i → i ≢ 6 → i ≢ 7 → i ≢ 12 → i ≢ 13 → held_by z d h i ≡ Nothing

-- the slots' places are three different ephemerons of eight keys
pub record HasSlots (g : Graph) (p : Places) : Type 0 where
  pub first : IsEight g p.first
  pub second : IsEight g p.second
  pub third : IsEight g p.third
  pub one_two : p.first ≢ p.second
  pub one_three : p.first ≢ p.third
  pub two_three : p.second ≢ p.third

-- the last entry of this front is that by which the first domain made the map, which binds nothing yet
pub record IsMadeAt (z : Sizes) (root : Label) (base : List Entry) : Type 0 where
  pub before : List Entry
  pub last : base ≡ before ++ Command 0 (Alloc 6 0 512) false ∷ []
  pub fresh : node_at (graph_of z before) root ≡ None
  pub holds : held_by z 0 base 6 ≡ Block root
  pub empty : (k : Label) → bound_after z root base k ≡ None

-- a command that takes no label and no room
pub record IsQuiet (c : declared_command.Command) : Type 0 where
  pub fits : IsMapCommand c
  pub label : labels_of c ≡ 0
  pub room : ephemerons_of c ≡ 0

-- a domain has made these commands, one after the other
abbrev pub MakesEach : Sizes → ℕ → List Entry → List declared_command.Command → List Entry → Type 0
MakesEach z d old [] new = new ≡ old
MakesEach z d old (c ∷ cs) new = (mid : List Entry) × (r : Reply) × PerformedBy z d old mid c r × MakesEach z d mid cs new

-- the first domain has made what all share
pub record LaysOut (z : Sizes) (d : ℕ) (old new : List Entry) (p : Places) : Type 0 where
  pub one : List Entry
  pub two : List Entry
  pub three : List Entry
  pub before : List Entry
  pub base : List Entry
  pub labels : Label × Label × Label × Label
  pub first : PerformedBy z d old one (Ephe 7 8) (reply.Block labels.0)
  pub second : PerformedBy z d one two (Ephe 12 8) (reply.Block labels.1)
  pub third : PerformedBy z d two three (Ephe 13 8) (reply.Block labels.2)
  pub published : MakesEach z d three publishing before
  pub map : PerformedBy z d before base (Alloc 6 0 512) (reply.Block labels.3)
  pub shared : MakesEach z d base sharing new
  pub holds : HoldsPlaces z p d new

-- another domain has loaded it
pub record Finds (z : Sizes) (d : ℕ) (old new : List Entry) (p : Places) : Type 0 where
  pub loaded : MakesEach z d old loading new
  pub holds : HoldsPlaces z p d new
