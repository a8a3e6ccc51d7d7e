-- What a section of lines is answered and leaves, beside whatever other domains do on the same map.
use Rattle.std.specs.Prelude.{◌≡◌, ◌≢◌, ◌≤◌, ℕ, ◌+◌, ℤ, List, [], ◌∷◌}
use Rattle.model_core.specs.declared.label.Label.{Label}
use Rattle.model_core.specs.declared.command.Command as model
use Rattle.model_core.specs.declared.command.Command.TheVariants as command
use Rattle.model_core.specs.declared.entry.Entry.{Entry}
use Rattle.model_core.specs.declared.graph.Value.{Value}
use Rattle.model_core.specs.declared.graph.Value.TheVariants.{Block, Int, Nothing}
use Rattle.model_core.specs.declared.reply.Reply.{Reply}
use Rattle.model_core.specs.declared.reply.Reply.TheVariants as given
use Rattle.model_core.specs.declared.state.Sizes.{Sizes}
use Rattle.model_core.specs.History.{IsPrefix}
use Rattle.table_text.specs.declared.line.TableLine.{TableLine}
use Rattle.table_text.specs.declared.line.TableLine.TheVariants.{Key, Forget, Put, Get, Del, SetWeak, GetWeak, Count, FullMajor}
use Rattle.table_text.specs.declared.machine.reply.LineReply.{LineReply}
use Rattle.table_text.specs.declared.machine.reply.LineReply.TheVariants as reply
use Rattle.table_text.specs.Machine.Said.{said}
use Rattle.weak_laws.specs.Tables.Stages.{graph_of}
use Rattle.weak_laws.specs.Maps.Calls.{GetAnswers, PerformedBy, PutsOrFull, TakeAnswers}
use Rattle.weak_laws.specs.Maps.Steps.{AllRespect, OthersLeave, OthersRespect}
use Rattle.weak_laws.specs.Maps.Tries.{IsInPlace, IsMap}
use Rattle.weak_maps.specs.Beside.{held_by, refusals_by, writings_by}
use Rattle.weak_maps.specs.Crowds.{IsCrowded, PutCounts, made_by}
use Rattle.weak_maps.specs.Fields.{IsBeside}
use Rattle.weak_maps.specs.Guards.{Guards}
use Rattle.weak_maps.specs.Shared.Sharing.{IsShared, OwnGuarded}
use Rattle.weak_maps.specs.Walks.{OwnQuiet}
use Rattle.table_sections.specs.Lines.{made_said, written_in}
use Rattle.table_sections.specs.Slots.{OnSlots, SlotGets, SlotSets, SparesBlocks, SparesSlots, slot_ephe, slot_key}

-- register 6 of the domain holds a map, each leaf of which is on its key's way
pub record OnMap (z : Sizes) (root : Label) (d : ℕ) (h : List Entry) : Type 0 where
  pub holds : held_by z d h 6 ≡ Block root
  pub map : IsMap (graph_of z h) root
  pub placed : IsInPlace z.domains (graph_of z h) root

-- a section guards the map as a call does
abbrev pub SectionGuards : Sizes → ℕ → List Entry → List Entry → Type 0
SectionGuards z d old new = (root : Label) → OnMap z root d old → Guards z root d old old new

-- a line made one command, whose reply is written so
pub record Answers (z : Sizes) (d : ℕ) (old new : List Entry) (c : model.Command) (says : Reply → LineReply) (a : LineReply) : Type 0 where
  pub reply : Reply
  pub performed : PerformedBy z d old new c reply
  pub written : a ≡ says reply

-- a complete collection, once register 0 was emptied, which may hold a key still
pub record Collects (z : Sizes) (d : ℕ) (old new : List Entry) (a : LineReply) : Type 0 where
  pub front : List Entry
  pub emptied : Reply
  pub empties : PerformedBy z d old front (command.Forget 0) emptied
  pub live : Reply
  pub collects : PerformedBy z d front new command.FullMajor live
  pub written : a ≡ reply.Done

-- a line that made no block, wrote none of registers 1 to 7, and of which no command was refused
pub record MakesNone (z : Sizes) (d : ℕ) (old new : List Entry) (a : LineReply) : Type 0 where
  pub made : made_by z d new ≡ made_by z d old
  pub given : refusals_by d new ≡ refusals_by d old
  pub granted : a ≢ reply.Full
  pub spared : writings_by d new ≤ writings_by d old

-- a put made at most seven blocks, wrote none of registers 1 to 7, and is answered `full` exactly where a command was refused, or none was and it made all seven
pub record PutMakes (z : Sizes) (d : ℕ) (old new : List Entry) (a : LineReply) : Type 0 where
  pub reply : Reply
  pub counts : PutCounts (made_by z d new) (made_by z d old) (refusals_by d old) (refusals_by d new) reply
  pub written : a ≡ said reply
  pub spared : writings_by d new ≤ writings_by d old

-- what a line does, whatever register 6 holds
abbrev pub LineMakes : Sizes → ℕ → List Entry → TableLine → LineReply → List Entry → Type 0
LineMakes z d old (Key r) a new = Answers z d old new (command.Alloc r 0 1) made_said a
LineMakes z d old (Forget r) a new = Answers z d old new (command.Forget r) said a
LineMakes z d old (Put r v) a new = PutMakes z d old new a
LineMakes z d old (Get r) a new = MakesNone z d old new a × OwnQuiet z d old new
LineMakes z d old (Del r) a new = MakesNone z d old new a
LineMakes z d old (SetWeak s r) a new = Answers z d old new (command.SetKey (slot_ephe s) (slot_key s) r) said a
LineMakes z d old (GetWeak r s) a new = Answers z d old new (command.GetKey r (slot_ephe s) (slot_key s)) said a
LineMakes z d old Count a new = ⊥
LineMakes z d old FullMajor a new = Collects z d old new a

-- why a put was answered `full`: where no command of it was refused, others have crowded the key's way, and where others leave the map as it is, one was
pub record PutRefused (z : Sizes) (root : Label) (d : ℕ) (old new : List Entry) (k : Label) : Type 0 where
  pub crowded : refusals_by d new ≡ refusals_by d old → IsCrowded z d old new root k
  pub alone : OthersLeave z root d old new → refusals_by d new ≡ refusals_by d old + 1

-- a put of an integer, by what the register of the key holds: `type` exactly where it is no label, and then no block is changed
abbrev pub PutsInteger : Sizes → Label → ℕ → List Entry → List Entry → Value → ℤ → Reply → Type 0
PutsInteger z root d old new (Block k) v r = PutsOrFull z root d old new k (Int v) r × (r ≡ given.Full → PutRefused z root d old new k)
PutsInteger z root d old new key v r = (r ≡ given.BadType) × OwnQuiet z d old new

-- a line on a map, whose call is answered so
abbrev pub OfCall : (Reply → Type 0) → LineReply → Type 0
OfCall answers a = (r : Reply) × answers r × (a ≡ said r)

-- what a line answers of a map that register 6 holds, and of the slots, where their registers hold them
abbrev pub LineAnswers : Sizes → Label → ℕ → List Entry → TableLine → LineReply → List Entry → Type 0
LineAnswers z root d old (Put r v) a new = OfCall (PutsInteger z root d old new (held_by z d old r) v) a
LineAnswers z root d old (Get r) a new = OfCall (GetAnswers z root d old new (held_by z d old r)) a
LineAnswers z root d old (Del r) a new = OfCall (TakeAnswers z root d old new (held_by z d old r)) a
LineAnswers z root d old (SetWeak s r) a new = OnSlots z d old → SlotSets z d old new s (held_by z d old r) a
LineAnswers z root d old (GetWeak r s) a new = OnSlots z d old → SlotGets z d old new s r a
LineAnswers z root d old _ a new = Unit {0}

-- the domain's registers are as they were, but for one, and those that are used between
abbrev pub KeepsBut : Sizes → ℕ → List Entry → List Entry → ℕ → Type 0
KeepsBut z d old new r = (i : ℕ) → i ≢ 0 → IsBeside i → i ≢ r → held_by z d new i ≡ held_by z d old i

-- registers 8 to 11, which calls use between, hold nothing where they held nothing: no key stays in them
abbrev pub LeavesClean : Sizes → ℕ → List Entry → List Entry → Type 0
LeavesClean z d old new = (i : ℕ) → 8 ≤ i → i ≤ 11 → held_by z d old i ≡ Nothing → held_by z d new i ≡ Nothing

-- a line is answered between two fronts, and the map is in its register still, and the slots in theirs, of which it sets none but its own, and it writes no other block beside the map
pub record LineBeside (z : Sizes) (root : Label) (d : ℕ) (old : List Entry) (line : TableLine) (a : LineReply) (new : List Entry) : Type 0 where
  pub grows : IsPrefix old new
  pub makes : LineMakes z d old line a new
  pub answers : LineAnswers z root d old line a new
  pub keeps : KeepsBut z d old new (written_in line)
  pub clean : LeavesClean z d old new
  pub after : OnMap z root d new
  pub slots : OnSlots z d old → OnSlots z d new
  pub spares : SparesSlots z d old line new
  pub beside : SparesBlocks z root d old line new

-- a line, whatever register 6 holds; and where that is a map that others respect, on it
pub record LineRuns (z : Sizes) (d : ℕ) (old : List Entry) (line : TableLine) (a : LineReply) (new : List Entry) : Type 0 where
  pub grows : IsPrefix old new
  pub makes : LineMakes z d old line a new
  pub beside : (root : Label) → OnMap z root d old → OthersRespect z root d old new → LineBeside z root d old line a new

-- all lines, one after the other: each has its reply
abbrev pub SectionRuns : Sizes → ℕ → List Entry → List TableLine → List LineReply → List Entry → Type 0
SectionRuns z d old [] [] new = new ≡ old
SectionRuns z d old (l ∷ ls) (a ∷ rs) new = (mid : List Entry) × LineRuns z d old l a mid × SectionRuns z d mid ls rs new
SectionRuns z d old _ _ new = ⊥

-- and on a map
abbrev pub SectionBeside : Sizes → Label → ℕ → List Entry → List TableLine → List LineReply → List Entry → Type 0
SectionBeside z root d old [] [] new = new ≡ old
SectionBeside z root d old (l ∷ ls) (a ∷ rs) new = (mid : List Entry) × LineBeside z root d old l a mid × SectionBeside z root d mid ls rs new
SectionBeside z root d old _ _ new = ⊥

-- a line, or all lines of a section, from one front to another: it guards the map, and each line has its reply
pub record LineDone (z : Sizes) (d : ℕ) (old : List Entry) (line : TableLine) (a : LineReply) (new : List Entry) : Type 0 where
  pub guards : SectionGuards z d old new
  pub runs : LineRuns z d old line a new

pub record SectionDone (z : Sizes) (d : ℕ) (old : List Entry) (lines : List TableLine) (replies : List LineReply) (new : List Entry) : Type 0 where
  pub grows : IsPrefix old new
  pub guards : SectionGuards z d old new
  pub runs : SectionRuns z d old lines replies new

-- a section that began behind the base of a map, on that map if all respected it up to there, is guarded
abbrev pub SectionsAreGuarded : Type 0
SectionsAreGuarded = (z : Sizes) (root : Label) (d : ℕ) (base old new : List Entry) → IsPrefix base old → (AllRespect z root base old → held_by z d old 6 ≡ Block root) → SectionGuards z d old new → OwnGuarded z root base d old new

-- where others respect the map that register 6 holds, a section is answered on it line by line
abbrev pub SectionsAreBeside : Type 0
SectionsAreBeside = (z : Sizes) (root : Label) (d : ℕ) (old new : List Entry) (lines : List TableLine) (replies : List LineReply) → SectionRuns z d old lines replies new → OnMap z root d old → OthersRespect z root d old new → SectionBeside z root d old lines replies new

-- where the map is shared, so it is, with nothing asked of others
abbrev pub SectionsAreAnswered : Type 0
SectionsAreAnswered = (z : Sizes) (root : Label) (base h : List Entry) → IsShared z root base h → (d : ℕ) (old new : List Entry) (lines : List TableLine) (replies : List LineReply) → IsPrefix base old → IsPrefix old new → IsPrefix new h
    → held_by z d old 6 ≡ Block root → SectionRuns z d old lines replies new → SectionBeside z root d old lines replies new
