-- The text of a picture, piece by piece.
use Rattle.std.specs.Prelude.{ℕ, ◌+◌, Bool, true, false, cond, ◌&&◌, ◌==◌, nat_lt, List, [], ◌∷◌, ◌++◌, length, flat_map, codes, decimal, pos, slice_get, Option, Some, None}
use Rattle.std.specs.List.{list_any, list_all}
use Rattle.std.specs.Fmt.{signed_decimal}
use Rattle.model_core.specs.declared.label.Label.{Label}
use Rattle.model_core.specs.declared.graph.Value.{Value}
use Rattle.model_core.specs.declared.graph.Value.TheVariants.{Int, Block, Nothing}
use Rattle.model_core.specs.declared.graph.Node.{Node}
use Rattle.model_core.specs.declared.graph.Node.TheVariants.{Plain, Raw, Ephe}
use Rattle.model_core.specs.declared.state.Pending.{Pending}
use Rattle.model_core.specs.declared.state.Pending.TheVariants.{Fin, Last}
use Rattle.model_core.specs.declared.state.Finaliser.{Finaliser}
use Rattle.model_core.specs.declared.state.LastFinaliser.{LastFinaliser}
use Rattle.model_core.specs.declared.state.DomainState.{DomainState}
use Rattle.model_core.specs.declared.state.State.{State}
use Rattle.model_core.specs.Commands.{same_value}
use Rattle.model_core.specs.Domains.{shared_label}
use Rattle.model_core.specs.Entries.{is_some_and}
use Rattle.model_core.specs.Graph.{same_label}
use Rattle.model_core.specs.Output.{label_text}
use Rattle.heap_picture.specs.declared.fates.Fate.{Fate}
use Rattle.heap_picture.specs.declared.fates.Fate.TheVariants.{Kept, MayReturn, MayGo}
use Rattle.heap_picture.specs.Fates.{fate_of, reached_in, may_go, may_run, may_empty}

-- the texts of the elements of a list, each with its place, where the first has this place
abbrev pub placed : {A : Type 0} → (ℕ → A → List ℕ) → ℕ → List A → List ℕ
placed f place [] = []
placed f place (x ∷ xs) = f place x ++ placed f (place + 1) xs

-- the part of an arrow's attributes that marks what a collection may take
abbrev pub red : Bool → List ℕ
red true = codes ", color=red, penwidth=2.5"
red false = []

-- the part of a block's attributes that shows its fate
abbrev pub fill : Fate → List ℕ
fill Kept = []
fill MayReturn = codes ", fillcolor=gray90"
fill MayGo = codes ", fillcolor=gray75, style=\"filled,dashed\""

-- whether each field holds 0, and whether there are more than four of them besides
abbrev pub are_zeros : List Value → Bool
are_zeros fields = list_all (λ v. same_value v (Int (pos 0))) fields

abbrev pub is_blank : List Value → Bool
is_blank fields = nat_lt 4 (length fields) && are_zeros fields

-- whether a value is the shared block
abbrev pub is_shared : Value → Bool
is_shared v = same_value v (Block shared_label)

-- whether a block is the shared one, while all its fields hold 0: it isn't drawn, nor the registers that hold it
abbrev pub is_bare : Label → Node → Bool
is_bare l (Plain tag fields) = same_label l shared_label && are_zeros fields
is_bare l (Raw tag fields) = false
is_bare l (Ephe keys datum) = false

abbrev pub hides_shared : List (Label × Node) → Bool
hides_shared graph = is_some_and (λ b. is_bare b.0 b.1) (slice_get graph 0)

-- a register that holds something: its cell, and its arrow
abbrev pub shown_cell : ℕ → Value → List ℕ
shown_cell place (Int z) = codes "|<r" ++ decimal place ++ codes "> register " ++ decimal place ++ codes " = " ++ signed_decimal z
shown_cell place (Block l) = codes "|<r" ++ decimal place ++ codes "> register " ++ decimal place
shown_cell place Nothing = []

abbrev pub shown_arrow : ℕ → Value → List ℕ
shown_arrow place (Int z) = []
shown_arrow place (Block l) = codes "  registers:r" ++ decimal place ++ codes " -> \"" ++ label_text l ++ codes "\";\n"
shown_arrow place Nothing = []

-- the same, unless it isn't drawn
abbrev pub register_cell : Bool → ℕ → Value → List ℕ
register_cell hides place v = cond (hides && is_shared v) [] (shown_cell place v)

abbrev pub register_arrow : Bool → ℕ → Value → List ℕ
register_arrow hides place v = cond (hides && is_shared v) [] (shown_arrow place v)

-- the registers
abbrev pub registers_text : Bool → List Value → List ℕ
registers_text hides values = codes "  registers [label=\"registers" ++ placed (register_cell hides) 0 values ++ codes "\"];\n" ++ placed (register_arrow hides) 0 values

-- a field: its cell, and its arrow where it holds a block
abbrev pub field_cell : ℕ → Value → List ℕ
field_cell place (Int z) = codes "|<f" ++ decimal place ++ codes "> " ++ signed_decimal z
field_cell place (Block l) = codes "|<f" ++ decimal place ++ codes "> "
field_cell place Nothing = codes "|<f" ++ decimal place ++ codes "> empty"

abbrev pub field_arrow : Label → ℕ → Value → List ℕ
field_arrow l place (Int z) = []
field_arrow l place (Block to) = codes "  \"" ++ label_text l ++ codes "\":f" ++ decimal place ++ codes " -> \"" ++ label_text to ++ codes "\";\n"
field_arrow l place Nothing = []

-- the cells of fields: one cell for all where they are blank
abbrev pub cells_where : Bool → List Value → List ℕ
cells_where true fields = codes "|" ++ decimal (length fields) ++ codes " fields of 0"
cells_where false fields = placed field_cell 0 fields

-- a block of fields
abbrev pub fields_head : Label → List ℕ
fields_head l = codes "  \"" ++ label_text l ++ codes "\" [label=\"" ++ label_text l

abbrev pub fields_text : Fate → Label → List ℕ → List Value → List ℕ
fields_text fate l kind fields =
    fields_head l ++ kind ++ cells_where (is_blank fields) fields ++ codes "\"" ++ fill fate ++ codes "];\n"
    ++ placed (field_arrow l) 0 fields

-- a key: its cell, and its arrow where it is full
abbrev pub key_cell : ℕ → Option Label → List ℕ
key_cell place None = codes "|<k" ++ decimal place ++ codes "> empty key"
key_cell place (Some k) = codes "|<k" ++ decimal place ++ codes "> key"

abbrev pub weak_head : Label → ℕ → Label → List ℕ
weak_head l place k = codes "  \"" ++ label_text l ++ codes "\":k" ++ decimal place ++ codes " -> \"" ++ label_text k ++ codes "\" [style=dashed"

abbrev pub weak_arrow : Label → ℕ → Label → Bool → List ℕ
weak_arrow l place k goes = weak_head l place k ++ red goes ++ codes "];\n"

abbrev pub key_arrow : (Label → Fate) → Label → ℕ → Option Label → List ℕ
key_arrow fate l place None = []
key_arrow fate l place (Some k) = weak_arrow l place k (may_go (fate k))

-- the data: its cell, and its arrow, which is red where it goes with a key
abbrev pub datum_int : Value → List ℕ
datum_int (Int z) = codes " = " ++ signed_decimal z
datum_int (Block l) = []
datum_int Nothing = []

abbrev pub datum_word : Value → List ℕ
datum_word (Int z) = codes "|<d> data"
datum_word (Block l) = codes "|<d> data"
datum_word Nothing = codes "|<d> no data"

abbrev pub datum_cell : Value → List ℕ
datum_cell v = datum_word v ++ datum_int v

abbrev pub strong_arrow : Label → Label → Bool → List ℕ
strong_arrow l to goes = codes "  \"" ++ label_text l ++ codes "\":d -> \"" ++ label_text to ++ codes "\" [arrowhead=onormal" ++ red goes ++ codes "];\n"

abbrev pub datum_arrow : Label → Bool → Value → List ℕ
datum_arrow l goes (Int z) = []
datum_arrow l goes (Block to) = strong_arrow l to goes
datum_arrow l goes Nothing = []

-- an ephemeron: its node, and its arrows
abbrev pub ephemeron_head : Label → List ℕ
ephemeron_head l = codes "  \"" ++ label_text l ++ codes "\" [shape=Mrecord, label=\"" ++ label_text l ++ codes " ephemeron"

abbrev pub ephemeron_node : (Label → Fate) → Label → List (Option Label) → Value → List ℕ
ephemeron_node fate l keys datum = ephemeron_head l ++ placed key_cell 0 keys ++ datum_cell datum ++ codes "\"" ++ fill (fate l) ++ codes "];\n"

abbrev pub ephemeron_text : (Label → Fate) → Label → List (Option Label) → Value → List ℕ
ephemeron_text fate l keys datum = ephemeron_node fate l keys datum ++ placed (key_arrow fate l) 0 keys ++ datum_arrow l (list_any (may_empty fate) keys) datum

-- a block
abbrev pub node_text : (Label → Fate) → Label → Node → List ℕ
node_text fate l (Plain tag fields) = fields_text (fate l) l [] fields
node_text fate l (Raw tag fields) = fields_text (fate l) l (codes " raw") fields
node_text fate l (Ephe keys datum) = ephemeron_text fate l keys datum

-- the same, unless it isn't drawn
unfoldable pub block_text : (Label → Fate) → Label × Node → List ℕ
block_text fate block = cond (is_bare block.0 block.1) [] (node_text fate block.0 block.1)

-- a registration of `finalise`, and one of `finalise_last`: its note, and its arrow
abbrev pub final_note : ℕ → Finaliser → List ℕ
final_note place f = codes "  finalise" ++ decimal place ++ codes " [shape=note, label=\"finalise " ++ decimal f.number ++ codes " into register " ++ decimal f.register ++ codes "\"];\n"

abbrev pub final_arrow : ℕ → Label → List ℕ
final_arrow place l = codes "  finalise" ++ decimal place ++ codes " -> \"" ++ label_text l ++ codes "\""

abbrev pub final_text : (Label → Fate) → ℕ → Finaliser → List ℕ
final_text fate place f =
    final_note place f ++ final_arrow place f.label ++ codes " [style=dotted" ++ red (may_run (fate f.label)) ++ codes "];\n"

abbrev pub last_note : ℕ → LastFinaliser → List ℕ
last_note place f = codes "  last" ++ decimal place ++ codes " [shape=note, label=\"finalise_last " ++ decimal f.number ++ codes "\"];\n"

abbrev pub last_arrow : ℕ → Label → List ℕ
last_arrow place l = codes "  last" ++ decimal place ++ codes " -> \"" ++ label_text l ++ codes "\""

abbrev pub last_text : (Label → Fate) → ℕ → LastFinaliser → List ℕ
last_text fate place f =
    last_note place f ++ last_arrow place f.label ++ codes " [style=dotted" ++ red (may_go (fate f.label)) ++ codes "];\n"

-- a finaliser in the queue: its cell, and its arrow
abbrev pub pending_cell : ℕ → Pending → List ℕ
pending_cell place (Fin number l register) = codes "|<q" ++ decimal place ++ codes "> finalise " ++ decimal number ++ codes " into register " ++ decimal register
pending_cell place (Last number) = codes "|<q" ++ decimal place ++ codes "> finalise_last " ++ decimal number

abbrev pub pending_arrow : ℕ → Pending → List ℕ
pending_arrow place (Fin number l register) = codes "  queue:q" ++ decimal place ++ codes " -> \"" ++ label_text l ++ codes "\";\n"
pending_arrow place (Last number) = []

-- the queue, where it isn't empty
abbrev pub queue_node : List Pending → List ℕ
queue_node queue = codes "  queue [label=\"queue" ++ placed pending_cell 0 queue ++ codes "\"];\n"

abbrev pub full_queue_text : List Pending → List ℕ
full_queue_text queue = queue_node queue ++ placed pending_arrow 0 queue

abbrev pub queue_text : List Pending → List ℕ
queue_text queue = cond (length queue == 0) [] (full_queue_text queue)

-- what a domain has
unfoldable pub domain_text : Bool → (Label → Fate) → DomainState → List ℕ
domain_text hides fate x = registers_text hides x.registers ++ queue_text x.queue ++ placed (final_text fate) 0 x.finals ++ placed (last_text fate) 0 x.lasts

-- the head of a picture
abbrev pub head_text : List ℕ
head_text = codes "digraph heap {\n  rankdir=LR;\n  node [shape=record, style=filled, fillcolor=white, fontname=Helvetica, fontsize=11];\n"

-- a state, with the fates of its blocks
abbrev pub state_text : (Label → Fate) → State → List ℕ
state_text fate s = head_text ++ flat_map (domain_text (hides_shared s.graph) fate) s.domains ++ flat_map (block_text fate) s.graph ++ codes "}\n"

-- the picture of a state
abbrev pub picture_text : State → List ℕ
picture_text s = state_text (fate_of (reached_in s)) s
