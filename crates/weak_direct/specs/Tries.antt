-- A command that is made at once or put off, and a stretch of such.
use Rattle.std.specs.Prelude.{◌≡◌, ◌≤◌, ℕ, List, Option, Some, None}
use Rattle.model_core.specs.declared.command.Command.{Command}
use Rattle.model_core.specs.declared.command.Command.TheVariants.{Alloc, Ephe, PutInt, Copy, Forget, Load, Store, Cas, SetKey, GetKey, SetData, GetData}
use Rattle.model_core.specs.declared.entry.Entry.{Entry}
use Rattle.model_core.specs.declared.reply.Reply.{Reply}
use Rattle.model_core.specs.declared.state.Sizes.{Sizes}
use Rattle.model_core.specs.declared.state.State.{State}
use Rattle.model_core.specs.Counts.Counts.{ephemerons_given, labels_given}
use Rattle.model_core.specs.Fronts.{IsFrontOf}
use Rattle.model_core.specs.History.{IsPrefix}
use Rattle.model_core.specs.Laws.{written_by}
use Rattle.weak_laws.specs.Maps.Calls.{PerformedBy}
use Rattle.weak_maps.specs.Beside.{WritesAtMost, held_by, refusals_by, writings_by}
use Rattle.weak_maps.specs.Fields.{IsBeside}
use Rattle.weak_maps.specs.Walks.{OwnQuiet}

-- how many labels a command gives out, and how many ephemerons it makes, by its reply: none where it is put off
abbrev pub labels_by : Command → Option Reply → ℕ
labels_by c None = 0
labels_by c (Some r) = labels_given c r

abbrev pub ephemerons_by : Command → Option Reply → ℕ
ephemerons_by c None = 0
ephemerons_by c (Some r) = ephemerons_given c r

-- a command was made, or put off: then the domain has made no entry
abbrev pub TriedBy : Sizes → ℕ → List Entry → List Entry → Command → Option Reply → Type 0
TriedBy z d old new c None = IsFrontOf d new old
TriedBy z d old new c (Some r) = PerformedBy z d old new c r

-- a register that the calls use between
abbrev pub IsHand : ℕ → Type 0
IsHand r = (8 ≤ r) × (r ≤ 11)

-- a command that makes no block, and writes no register but these
abbrev pub IsBetween : Command → Type 0
IsBetween (PutInt dst value) = IsHand dst
IsBetween (Copy dst src) = IsHand dst
IsBetween (Forget dst) = IsHand dst
IsBetween (Load dst src index) = IsHand dst
IsBetween (GetKey dst ephe index) = IsHand dst
IsBetween (GetData dst ephe) = IsHand dst
IsBetween (Store block index item) = Unit {0}
IsBetween (Cas block index expected item) = Unit {0}
IsBetween (SetKey ephe index item) = Unit {0}
IsBetween (SetData ephe item) = Unit {0}
IsBetween _ = ⊥

-- the registers that a call is given hold what they held
abbrev pub KeepsBeside : Sizes → ℕ → List Entry → List Entry → Type 0
KeepsBeside z d old new = (i : ℕ) → IsBeside i → held_by z d new i ≡ held_by z d old i

-- a stretch of a call: the history has grown, the domain has written no register but those between, and none of its commands was refused
pub record Passes (z : Sizes) (d : ℕ) (old new : List Entry) : Type 0 where
  pub grows : IsPrefix old new
  pub keeps : KeepsBeside z d old new
  pub given : refusals_by d new ≡ refusals_by d old
  pub written : writings_by d new ≡ writings_by d old

-- no block was written, if the command writes none
abbrev pub QuietIf : Sizes → ℕ → List Entry → List Entry → Command → Type 0
QuietIf z d old new c = ((s : State) → written_by s d c ≡ None) → OwnQuiet z d old new

-- a call that changed no block: the history has grown, none of its commands was refused, and at most so many wrote a register from 1 to 7
pub record Reads (z : Sizes) (d : ℕ) (most : ℕ) (old new : List Entry) : Type 0 where
  pub grows : IsPrefix old new
  pub given : refusals_by d new ≡ refusals_by d old
  pub written : WritesAtMost d old new most
  pub quiet : OwnQuiet z d old new

-- a field of a map's root was read: the map's block was brought into register 8, and what the field holds into register 9
pub record ReadsRoot (z : Sizes) (d : ℕ) (old new : List Entry) (map index : ℕ) (r : Reply) : Type 0 where
  pub brought : List Entry
  pub reply : Reply
  pub root : PerformedBy z d old brought (Copy 8 map) reply
  pub field : PerformedBy z d brought new (Load 9 8 index) r

-- a command that reads into a register, or empties it
abbrev pub IsLast : Command → Type 0
IsLast (Forget dst) = Unit {0}
IsLast (GetData dst ephe) = Unit {0}
IsLast _ = ⊥

-- the last command of a call was made, and then the domain has at most emptied registers between
pub record EndsBy (z : Sizes) (d : ℕ) (old new : List Entry) (c : Command) (r : Reply) : Type 0 where
  pub made : List Entry
  pub performed : PerformedBy z d old made c r
  pub passes : Passes z d made new
  pub quiet : OwnQuiet z d made new

-- the same but for refusals: an allocation may have been refused
pub record Strides (z : Sizes) (d : ℕ) (old new : List Entry) : Type 0 where
  pub grows : IsPrefix old new
  pub keeps : KeepsBeside z d old new
  pub written : writings_by d new ≡ writings_by d old

-- an allocation by which a put makes a leaf, or a block for room
abbrev pub IsMake : Command → Type 0
IsMake (Ephe dst keys) = (dst ≡ 10) × (keys ≡ 1)
IsMake (Alloc dst tag fields) = (dst ≡ 11) × (tag ≡ 0) × (fields ≡ 32)
IsMake _ = ⊥
