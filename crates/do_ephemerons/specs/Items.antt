-- What the commands set that change an ephemeron.
use Rattle.std.specs.Prelude.{◌≡◌, ◌≢◌, ℕ, List, Option, Some, None}
use Rattle.model_core.specs.declared.command.Command.{Command}
use Rattle.model_core.specs.declared.command.Command.TheVariants.{SetKey, UnsetKey, SetData, UnsetData}
use Rattle.heap_words.specs.declared.value.Value.{Value}
use Rattle.heap_words.specs.declared.value.Value.TheVariants.{Nothing}
use Rattle.heap_rule.specs.Changes.{value_at}
use Rattle.heap_rule.specs.Places.{IsNoBlock}
use Rattle.step_ephemerons.specs.Commands.Heads.{IsBlockValue}

-- a command that sets or empties a key or the datum
abbrev pub IsChange : Command → Type 0
IsChange (SetKey ephe i item) = Unit {0}
IsChange (UnsetKey ephe i) = Unit {0}
IsChange (SetData ephe item) = Unit {0}
IsChange (UnsetData ephe) = Unit {0}
IsChange _ = ⊥

-- the register of what it sets
abbrev pub item_in : Command → Option ℕ
item_in (SetKey ephe i item) = Some item
item_in (SetData ephe item) = Some item
item_in _ = None

-- what is set: what this register holds, or nothing
abbrev pub value_of : List Value → Option ℕ → Value
value_of registers None = Nothing
value_of registers (Some r) = value_at registers r

-- a key is set to a block, and a datum to something
abbrev pub FitsItem : Option ℕ → Option ℕ → Value → Type 0
FitsItem key None v = Unit {0}
FitsItem None (Some r) v = v ≢ Nothing
FitsItem (Some i) (Some r) v = IsBlockValue v

-- what is to be set isn't so
abbrev pub LacksItem : Option ℕ → Option ℕ → Value → Type 0
LacksItem key None v = ⊥
LacksItem None (Some r) v = v ≡ Nothing
LacksItem (Some i) (Some r) v = IsNoBlock v
