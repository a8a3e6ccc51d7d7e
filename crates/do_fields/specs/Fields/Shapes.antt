-- What the shape of a block tells.
use Rattle.std.specs.Prelude.{ℕ, Bool, if◌then◌else◌, ◌&&◌, Option, Some, None}
use Rattle.heap_words.specs.declared.value.Value.{Value}
use Rattle.heap_rule.specs.Places.{needs_no_scan}
use Rattle.step_run.specs.Fields.Loads.{is_block}
use Rattle.model_core.specs.Fronts.{Shape, PlainShape, RawShape, EpheShape}

-- the number of fields of a plain or raw block
abbrev pub size_of : Shape → Option ℕ
size_of (PlainShape size tag) = Some size
size_of (RawShape size tag) = Some size
size_of (EpheShape keys) = None

-- a block with this shape doesn't take the value into its fields: it is a raw one, and the value is a block
abbrev pub refuses : Shape → Value → Bool
refuses shape value = needs_no_scan shape && is_block value

-- the number of fields of a block with this shape that takes the value into them
abbrev pub fields_for : Shape → Value → Option ℕ
fields_for shape value = if refuses shape value then None else size_of shape
