-- Writes into one block: what each answers, and what it leaves of the block.
use Rattle.std.specs.Prelude.{ℕ, Bool, true, false, cond, List, slice_get, slice_set, Option, Some, None}
use Rattle.model_core.specs.declared.label.Label.{Label}
use Rattle.model_core.specs.declared.graph.Value.{Value}
use Rattle.model_core.specs.declared.graph.Value.TheVariants.{Int}
use Rattle.model_core.specs.declared.graph.Node.{Node}
use Rattle.model_core.specs.declared.graph.Node.TheVariants.{Plain, Raw, Ephe}
use Rattle.model_core.specs.declared.reply.Reply.{Reply}
use Rattle.model_core.specs.declared.reply.Reply.TheVariants.{Done, BadType, BadIndex, Yes, No}
use Rattle.model_core.specs.declared.state.State.{State}
use Rattle.model_core.specs.Commands.{Outcome, same_value, stored, exchanged}

-- whether a field that holds this is written: always by a store, and by a compare-and-set where it is what is expected
abbrev pub is_written : Option Value → Value → Bool
is_written None held = true
is_written (Some e) held = same_value held e

-- the reply where the field is there
abbrev pub told : Option Value → Bool → Reply
told None written = Done
told (Some e) true = Yes
told (Some e) false = No

-- what a write into field index answers, by what the field holds, and the fields that it leaves
abbrev pub fields_reply : Option Value → Option Value → Reply
fields_reply None expected = BadIndex
fields_reply (Some held) expected = told expected (is_written expected held)

abbrev pub fields_left : List Value → ℕ → Value → Option Value → Option Value → List Value
fields_left fields index v None expected = fields
fields_left fields index v (Some held) expected = cond (is_written expected held) (slice_set fields index v) fields

-- what a write of a value that isn't nothing answers at a block, and the block that it leaves
abbrev pub field_reply : Node → ℕ → Value → Option Value → Reply
field_reply (Plain tag fields) index v expected = fields_reply (slice_get fields index) expected
field_reply (Raw tag fields) index (Int z) expected = fields_reply (slice_get fields index) expected
field_reply (Raw tag fields) index _ expected = BadType
field_reply (Ephe keys datum) index v expected = BadType

abbrev pub field_left : Node → ℕ → Value → Option Value → Node
field_left (Plain tag fields) index v expected = Plain tag (fields_left fields index v (slice_get fields index) expected)
field_left (Raw tag fields) index (Int z) expected = Raw tag (fields_left fields index (Int z) (slice_get fields index) expected)
field_left (Raw tag fields) index _ expected = Raw tag fields
field_left (Ephe keys datum) index v expected = Ephe keys datum

-- a store, or a compare-and-set where something is expected
abbrev pub written_field : State → ℕ → Option (Label × Node) → Value → Option Value → Outcome
written_field s index block v None = stored s index block v
written_field s index block v (Some e) = exchanged s index block e v

-- what the write of a key answers at a block, and the block that it leaves
abbrev pub keys_reply : Option (Option Label) → Reply
keys_reply None = BadIndex
keys_reply (Some held) = Done

abbrev pub keys_left : List (Option Label) → ℕ → Option Label → Option (Option Label) → List (Option Label)
keys_left keys index key None = keys
keys_left keys index key (Some held) = slice_set keys index key

abbrev pub key_reply : Node → ℕ → Reply
key_reply (Plain tag fields) index = BadType
key_reply (Raw tag fields) index = BadType
key_reply (Ephe keys datum) index = keys_reply (slice_get keys index)

abbrev pub key_left : Node → ℕ → Option Label → Node
key_left (Plain tag fields) index key = Plain tag fields
key_left (Raw tag fields) index key = Raw tag fields
key_left (Ephe keys datum) index key = Ephe (keys_left keys index key (slice_get keys index)) datum

-- what the write of the data answers at a block, and the block that it leaves
abbrev pub datum_reply : Node → Reply
datum_reply (Plain tag fields) = BadType
datum_reply (Raw tag fields) = BadType
datum_reply (Ephe keys datum) = Done

abbrev pub datum_left : Node → Value → Node
datum_left (Plain tag fields) v = Plain tag fields
datum_left (Raw tag fields) v = Raw tag fields
datum_left (Ephe keys datum) v = Ephe keys v
