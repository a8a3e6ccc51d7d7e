-- The cells of blocks: what each holds, and what each entry of a history writes.
use Rattle.std.specs.Prelude.{◌≡◌, ℕ, Bool, true, false, cond, ◌&&◌, ◌==◌, List, [], ◌∷◌, slice_get, unwrap_or, option_map, option_and_then, pos, Option, Some, None}
use Rattle.std.specs.List.{list_any}
use Rattle.model_core.specs.declared.label.Label.{Label}
use Rattle.model_core.specs.declared.command.Command as declared_command
use Rattle.model_core.specs.declared.command.Command.TheVariants.{Store, Cas, SetKey, UnsetKey, SetData, UnsetData}
use Rattle.model_core.specs.declared.entry.Entry.{Entry}
use Rattle.model_core.specs.declared.entry.Entry.TheVariants.{Command, Wipe}
use Rattle.model_core.specs.declared.reply.Reply.{Reply}
use Rattle.model_core.specs.declared.reply.Reply.TheVariants.{Done, Yes}
use Rattle.model_core.specs.declared.graph.Value.{Value}
use Rattle.model_core.specs.declared.graph.Value.TheVariants.{Int, Nothing}
use Rattle.model_core.specs.declared.graph.Node.{Node}
use Rattle.model_core.specs.declared.graph.Node.TheVariants.{Plain, Raw, Ephe}
use Rattle.model_core.specs.declared.state.Sizes.{Sizes}
use Rattle.model_core.specs.declared.state.State.{State}
use Rattle.model_core.specs.Graph.{Graph, same_label, node_at}
use Rattle.model_core.specs.Domains.{register, opening}
use Rattle.model_core.specs.Commands.{key_value, outcome}
use Rattle.model_core.specs.Entries.{is_label, next}
use Rattle.model_core.specs.History.{state_after, Legal}
use Rattle.model_core.specs.Laws.{written_by}

-- a cell of a block: a field of a plain or raw block, a key of an ephemeron, or its data
pub data Cell : Type 0 where
  Field : ℕ → Cell
  Key : ℕ → Cell
  Datum : Cell

-- what a cell holds in a new block
abbrev pub initial : Cell → Value
initial (Field i) = Int (pos 0)
initial (Key i) = Nothing
initial Datum = Nothing

-- what a cell of a block holds, if the block has this cell
abbrev pub cell_of : Cell → Node → Option Value
cell_of (Field i) (Plain tag fields) = slice_get fields i
cell_of (Field i) (Raw tag fields) = slice_get fields i
cell_of (Field i) (Ephe keys datum) = None
cell_of (Key i) (Ephe keys datum) = option_map key_value (slice_get keys i)
cell_of (Key i) (Plain tag fields) = None
cell_of (Key i) (Raw tag fields) = None
cell_of Datum (Ephe keys datum) = Some datum
cell_of Datum (Plain tag fields) = None
cell_of Datum (Raw tag fields) = None

-- what a cell of the block with a label holds, if there is one
abbrev pub cell_at : Graph → Label → Cell → Option Value
cell_at g l c = option_and_then (cell_of c) (node_at g l)

-- what it holds, where one that there isn't holds what a new one does
abbrev pub content : Graph → Label → Cell → Value
content g l c = unwrap_or (cell_at g l c) (initial c)

-- whether a command that writes was carried out: `ok`, or `yes` of a compare-and-set
abbrev pub is_carried_out : Reply → Bool
is_carried_out Done = true
is_carried_out Yes = true
is_carried_out _ = false

-- what a write of v to a field writes to each cell of the block, to a key, and to the data
abbrev pub to_field : ℕ → Value → Cell → Option Value
to_field index v (Field i) = cond (index == i) (Some v) None
to_field index v (Key i) = None
to_field index v Datum = None

abbrev pub to_key : ℕ → Value → Cell → Option Value
to_key index v (Field i) = None
to_key index v (Key i) = cond (index == i) (Some v) None
to_key index v Datum = None

abbrev pub to_datum : Value → Cell → Option Value
to_datum v (Field i) = None
to_datum v (Key i) = None
to_datum v Datum = Some v

-- what a command that is carried out writes to each cell of the block that it writes to
abbrev pub command_writes : State → ℕ → declared_command.Command → Cell → Option Value
command_writes s d (Store block index item) = to_field index (register s d item)
command_writes s d (Cas block index expected item) = to_field index (register s d item)
command_writes s d (SetKey ephe index item) = to_key index (register s d item)
command_writes s d (UnsetKey ephe index) = to_key index Nothing
command_writes s d (SetData ephe item) = to_datum (register s d item)
command_writes s d (UnsetData ephe) = to_datum Nothing
command_writes s d _ = λ cell. None

-- what the collector writes to a cell of an ephemeron of which it empties these keys
abbrev pub wipe_writes : List ℕ → Cell → Option Value
wipe_writes places (Field i) = None
wipe_writes places (Key i) = cond (list_any (λ p. p == i) places) (Some Nothing) None
wipe_writes places Datum = Some Nothing

-- what an entry writes to a cell of the block with a label, if it does
abbrev pub writes : State → Entry → Label → Cell → Option Value
writes s (Command d c false) l cell = cond (is_label l (written_by s d c) && is_carried_out (outcome s d c).reply) (command_writes s d c cell) None
writes s (Wipe e places) l cell = cond (same_label e l) (wipe_writes places cell) None
writes s _ l cell = None

-- what was last written to a cell, where it held v before these entries
abbrev pub last_written_from : State → List Entry → Label → Cell → Value → Value
last_written_from s [] l cell v = v
last_written_from s (e ∷ h) l cell v = last_written_from (next s e) h l cell (unwrap_or (writes s e l cell) v)

-- what a history last wrote to a cell, and else what a new block has there
abbrev pub last_written : Sizes → List Entry → Label → Cell → Value
last_written z h l cell = last_written_from (opening z) h l cell (initial cell)

-- each cell holds what was last written to it
abbrev pub CellsHoldLastWritten : Type 0
CellsHoldLastWritten = (z : Sizes) (h : List Entry) → Legal z h → (l : Label) (cell : Cell) → content (state_after (opening z) h).graph l cell ≡ last_written z h l cell
