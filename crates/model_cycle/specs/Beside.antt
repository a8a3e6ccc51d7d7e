-- A cycle that goes on beside running domains: what is known of its marks, and that each entry of a domain keeps it.
use Rattle.std.specs.Prelude.{◌≡◌, ◌⊎◌, ℕ, Bool, true, false, ◌&&◌, ◌||◌, ◌==◌, IsTrue, filter_map, Some}
use Rattle.model_core.specs.declared.label.Label.{Label}
use Rattle.model_core.specs.declared.command.Command as declared_command
use Rattle.model_core.specs.declared.command.Command.TheVariants.{Store, Cas, GetKey, GetData}
use Rattle.model_core.specs.declared.entry.Entry.TheVariants.{Command, End, Ran}
use Rattle.model_core.specs.declared.graph.Value.{Value}
use Rattle.model_core.specs.declared.graph.Value.TheVariants.{Block}
use Rattle.model_core.specs.declared.graph.Node.{Node}
use Rattle.model_core.specs.declared.state.State.{State}
use Rattle.model_core.specs.Graph.{Graph, labels, has_label, node_at}
use Rattle.model_core.specs.Reach.{HoldsRoots}
use Rattle.model_core.specs.Domains.{domain_at, register, pending_label, queues, roots}
use Rattle.model_core.specs.Commands.{same_value, has_full_fields}
use Rattle.model_core.specs.Entries.{next}
use Rattle.model_core.specs.WellFormed.{names_of, IsNumbered, IsWellFormed}
use Rattle.model_cycle.specs.Marks.{Marks, darkened, with_scanned, IsTraced}
use Rattle.model_cycle.specs.Shares.{Layout}
use Rattle.model_cycle.specs.Cover.{field_at, is_new, InCover}
use Rattle.model_cycle.specs.Cycle.{IsUnderWay}

-- what is remembered of the time since the roots had been darkened
pub record Snapshot : Type 0 where
  -- the graph when the roots had been darkened
  pub old : Graph
  -- the labels in registers and queues, but for a register whose value a weak read has still to darken
  pub held : Label → Bool
  -- which fields were stored into since then
  pub overwritten : Label → ℕ → Bool
  -- by domain the registers whose value a weak read has still to darken
  pub owed : ℕ → ℕ → Bool

-- all blocks that are made from now on count as marked and scanned
abbrev pub with_new : Graph → Marks → Marks
with_new old m = record { marked = λ l. is_new old l || m.marked l; scanned = λ l. is_new old l || m.scanned l }

-- the blocks in a graph hold in their fields what they may: a raw block no label
abbrev pub AllFull : Graph → Type 0
AllFull g = (l : Label) (n : Node) → node_at g l ≡ Some n → IsTrue (has_full_fields n)

-- what domains hold is covered, what they overwrote was marked first, and what was scanned led to marked blocks in the old graph
pub record IsBeside (past : Snapshot) (m : Marks) (s : State) : Type 0 where
  pub grown : HoldsRoots (labels past.old) (has_label (labels s.graph))
  pub closed_old : (l x : Label) (i : ℕ) → field_at past.old l i ≡ Some (Block x) → IsTrue (has_label (labels past.old) x)
  pub full : AllFull s.graph
  pub same : (l : Label) (i : ℕ) → is_new past.old l ≡ false → past.overwritten l i ≡ false → field_at s.graph l i ≡ field_at past.old l i
  pub scanned : (l : Label) (i : ℕ) (x : Label) → IsTrue (m.marked l) → IsTrue (m.scanned l) → field_at past.old l i ≡ Some (Block x) → IsTrue (m.marked x)
  pub lost : (l : Label) (i : ℕ) (x : Label) → IsTrue (past.overwritten l i) → field_at past.old l i ≡ Some (Block x) → IsTrue (m.marked x)
  pub held : (l : Label) → IsTrue (past.held l) → InCover past.old m.marked l
  pub new_fields : (l : Label) (i : ℕ) (x : Label) → IsTrue (is_new past.old l) → field_at s.graph l i ≡ Some (Block x) → InCover past.old m.marked x
  pub stored : (l : Label) (i : ℕ) (x : Label) → IsTrue (past.overwritten l i) → field_at s.graph l i ≡ Some (Block x) → InCover past.old m.marked x
  pub new_marked : (l : Label) → IsTrue (is_new past.old l) → IsTrue (m.marked l)
  pub new_scanned : (l : Label) → IsTrue (is_new past.old l) → IsTrue (m.scanned l)
  pub registers : (k r : ℕ) (l : Label) → past.owed k r ≡ false → register s k r ≡ Block l → IsTrue (past.held l)
  pub queues : (k : ℕ) (l : Label) → IsTrue (has_label (filter_map pending_label (domain_at s k).queue) l) → IsTrue (past.held l)

-- the past when the roots have been darkened
abbrev pub past_at : State → Snapshot
past_at s = record { old = s.graph; held = has_label (roots s (queues s)); overwritten = λ l i. false; owed = λ k r. false }

-- in a later state other labels may be held and other fields overwritten; the old graph and the marks are the same
abbrev pub Later : Snapshot → Marks → State → (ℕ → ℕ → Bool) → Type 0
Later past m s owed = (held : Label → Bool) × (overwritten : Label → ℕ → Bool) × IsBeside (record past { held = held; overwritten = overwritten; owed = owed }) m s

-- one register more is owed
abbrev pub owing_register : (ℕ → ℕ → Bool) → ℕ → ℕ → ℕ → ℕ → Bool
owing_register owed d r k j = k == d && j == r || owed k j

-- which registers are owed after a command: a weak read owes the one that it has written
abbrev pub owed_after : (ℕ → ℕ → Bool) → ℕ → declared_command.Command → ℕ → ℕ → Bool
owed_after owed d (GetKey dst ephe index) = owing_register owed d dst
owed_after owed d (GetData dst ephe) = owing_register owed d dst
owed_after owed d _ = owed

-- the write barrier: the label that a command overwrites is marked, if it stood there in the old graph; a `cas` overwrites only where it finds what it expects
abbrev pub WriteBarrier : Snapshot → Marks → State → ℕ → declared_command.Command → Type 0
WriteBarrier past m s d (Store block index item) = (l x : Label) → register s d block ≡ Block l → field_at past.old l index ≡ Some (Block x) → IsTrue (m.marked x)
WriteBarrier past m s d (Cas block index expected item) = (l x : Label) (found : Value) → register s d block ≡ Block l → field_at s.graph l index ≡ Some found
    → IsTrue (same_value found (register s d expected)) → field_at past.old l index ≡ Some (Block x) → IsTrue (m.marked x)
WriteBarrier past m s d _ = Unit {0}

-- the marks of the blocks at some labels alone
abbrev pub restricted : Marks → (Label → Bool) → Marks
restricted m places = record { marked = λ l. places l && m.marked l; scanned = m.scanned }

-- the marking and the entries of running domains keep what is known, and where all domains rest it is what a finishing pause asks
pub record BesideLaw : Type 0 where
  -- when the roots have been darkened
  pub starts : (s : State) (m : Marks) → IsWellFormed s → AllFull s.graph → IsTraced s.graph m → HoldsRoots (roots s (queues s)) m.marked
      → IsBeside (past_at s) (with_new s.graph m) s
  -- a block is darkened; a block is scanned; and the field that a scan reads has its old label, which may have to be darkened, or had a marked one
  pub darkens : (past : Snapshot) (m : Marks) (s : State) → IsBeside past m s → (l : Label) → m.marked l ≡ false → IsBeside past (darkened m l) s
  pub scans : (past : Snapshot) (m : Marks) (s : State) → IsBeside past m s → (l : Label)
      → ((i : ℕ) (x : Label) → field_at past.old l i ≡ Some (Block x) → IsTrue (m.marked x)) → IsBeside past (with_scanned m l) s
  pub reads : (past : Snapshot) (m : Marks) (s : State) → IsBeside past m s → (l x : Label) (i : ℕ) → field_at past.old l i ≡ Some (Block x)
      → IsTrue (m.marked x) ⊎ (field_at s.graph l i ≡ Some (Block x))
  -- a command of a domain that owes nothing
  pub commands : (past : Snapshot) (m : Marks) (s : State) → IsBeside past m s → IsNumbered s → (d : ℕ) (c : declared_command.Command) → ((r : ℕ) → past.owed d r ≡ false)
      → WriteBarrier past m s d c → Later past m (next s (Command d c false)) (owed_after past.owed d c)
  -- an allocation that is refused, the end of a domain, and a finaliser that runs
  pub refuses : (past : Snapshot) (m : Marks) (s : State) → IsBeside past m s → (d : ℕ) (c : declared_command.Command) → Later past m (next s (Command d c true)) past.owed
  pub ends : (past : Snapshot) (m : Marks) (s : State) → IsBeside past m s → (d : ℕ) → Later past m (next s (End d)) past.owed
  pub runs : (past : Snapshot) (m : Marks) (s : State) → IsBeside past m s → (d : ℕ) → Later past m (next s (Ran d)) past.owed
  -- a state with the same graph, registers and queues
  pub stays : (past : Snapshot) (m : Marks) (s t : State) → IsBeside past m s → t.graph ≡ s.graph → ((k : ℕ) → (domain_at t k).registers ≡ (domain_at s k).registers)
      → ((k : ℕ) → (domain_at t k).queue ≡ (domain_at s k).queue) → IsBeside past m t
  -- registers are owed no longer: they hold marked labels, or none
  pub pays : (past : Snapshot) (m : Marks) (s : State) → IsBeside past m s → (owed : ℕ → ℕ → Bool)
      → ((k r : ℕ) → owed k r ≡ false → (past.owed k r ≡ false) ⊎ ((l : Label) → register s k r ≡ Block l → IsTrue (m.marked l))) → Later past m s owed
  -- where nobody owes, with the labels of the blocks in pools
  pub rests : (past : Snapshot) (m : Marks) (s : State) → IsBeside past m s → ((k r : ℕ) → past.owed k r ≡ false) → (y : Layout) (places : Label → Bool)
      → ((l : Label) → is_new past.old l ≡ false → IsTrue (m.marked l) → IsTrue (places l)) → HoldsRoots (roots s (queues s)) places
      → ((l : Label) (n : Node) → IsTrue (places l) → node_at s.graph l ≡ Some n → HoldsRoots (names_of n) places)
      → ((a : ℕ) (l : Label) → y.live a ≡ Some l → IsTrue (places l)) → IsUnderWay s y (restricted m places)
